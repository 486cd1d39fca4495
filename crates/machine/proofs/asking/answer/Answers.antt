use Rattle.std.proofs.Common.{refl}
use Rattle.table.specs.declared.records.Test.TheVariants.{Nil, Same, Equal, Less}
use Rattle.table.specs.Faults.{numbered}
use Rattle.table.specs.Reading.{program_of}
use Rattle.machine.proofs.Answering.{look_answered}
use Rattle.machine.proofs.asking.answer.Goals as goal

pub returns-in-Nil : goal.returns-in-Nil
returns-in-Nil g c =
    let p = program_of c.args.table.now in
    let m = g.M.Memory.model c.args.memory.now in
    let done = look_answered p m c.args.frame c.args.test (Nil c.in-Nil.x) (numbered c.nil.result) c.in-Nil.is (c.nil.ensures p m) refl in
    record { value = done.0; after = done.1 }

pub returns-in-Same : goal.returns-in-Same
returns-in-Same g c =
    let p = program_of c.args.table.now in
    let m = g.M.Memory.model c.args.memory.now in
    let done = look_answered p m c.args.frame c.args.test (Same c.in-Same.x c.in-Same.y) (numbered c.same.result) c.in-Same.is (c.same.ensures p m) refl in
    record { value = done.0; after = done.1 }

pub returns-in-Equal : goal.returns-in-Equal
returns-in-Equal g c =
    let p = program_of c.args.table.now in
    let m = g.M.Memory.model c.args.memory.now in
    let done = look_answered p m c.args.frame c.args.test (Equal c.in-Equal.x c.in-Equal.y) (numbered c.equal.result) c.in-Equal.is (c.equal.ensures p m) refl in
    record { value = done.0; after = done.1 }

pub returns-in-Less : goal.returns-in-Less
returns-in-Less g c =
    let p = program_of c.args.table.now in
    let m = g.M.Memory.model c.args.memory.now in
    let done = look_answered p m c.args.frame c.args.test (Less c.in-Less.x c.in-Less.y) (numbered c.less.result) c.in-Less.is (c.less.ensures p m) refl in
    record { value = done.0; after = done.1 }
