use Rattle.std.proofs.Common.{false, ◌||◌, Ok, Err, sym, refl, ap, ◌∙◌}
use Rattle.std.proofs.lemmas.Result.{err_from_is_err_and}
use Rattle.table.specs.Faults.{number_of, numbered}
use Rattle.table.specs.Reading.{program_of}
use Rattle.machine.specs.declared.reading.Pair.{Pair}
use Rattle.machine.specs.Values.{at, is_null, word_of}
use Rattle.machine.specs.Reading.{cell}
use Rattle.machine.specs.Seeing.{pair_at}
use Rattle.machine.specs.Tests.{fields_ask}
use Rattle.machine.proofs.Settling.{word_of_slot}
use Rattle.machine.proofs.Pairing.{first_word_fails}
use Rattle.machine.proofs.Exchanging.{found, test_fails, test_halts, test_51, test_exchanges}
use Rattle.machine.proofs.tests.unlink.Goals as goal

pub returns-in_err-pair : goal.returns-in_err-pair
returns-in_err-pair g c =
    let F = c.args.frame in
    let vs = F.slots in
    let x = c.args.x in
    let y = c.args.y in
    let f = c.args.f in
    let h = c.args.g in
    let p = program_of c.args.table.now in
    let m = g.M.Memory.model c.args.memory.now in
    let asks = fields_ask p m vs x f y h in
    let null = is_null (at vs x) || is_null (at vs y) in
    let t = pair_at p m (at vs x) f (at vs y) h in
    let done = test_fails p m F asks null x f (word_of (at vs y)) (cell p m (at vs y) h).word false vs t (number_of c.in_err-pair.field-0.0) c.in_err-pair.ensures.value in
    let d = err_from_is_err_and c.from_residual.result c.from_residual.ensures.1 in
    record { value = ap numbered (d.1 ∙ ap Err d.2) ∙ done.0; after = done.1 }

pub returns-in_default : goal.returns-in_default
returns-in_default g c =
    let F = c.args.frame in
    let vs = F.slots in
    let x = c.args.x in
    let y = c.args.y in
    let f = c.args.f in
    let h = c.args.g in
    let p = program_of c.args.table.now in
    let m = g.M.Memory.model c.args.memory.now in
    let asks = fields_ask p m vs x f y h in
    let null = is_null (at vs x) || is_null (at vs y) in
    let t = pair_at p m (at vs x) f (at vs y) h in
    let done = test_halts p m F asks null x f (word_of (at vs y)) (cell p m (at vs y) h).word false vs t (ap Ok (sym c.in_default.is) ∙ c.in_ok-pair.ensures.value) in
    record { value = done.0; after = done.1 }

pub returns-in_err-old : goal.returns-in_err-old
returns-in_err-old g c =
    let F = c.args.frame in
    let vs = F.slots in
    let x = c.args.x in
    let y = c.args.y in
    let f = c.args.f in
    let h = c.args.g in
    let p = program_of c.args.table.now in
    let m = g.M.Memory.model c.args.memory.now in
    let asks = fields_ask p m vs x f y h in
    let null = is_null (at vs x) || is_null (at vs y) in
    let t = pair_at p m (at vs x) f (at vs y) h in
    let s = c.in-Some.pair in
    let there = ap Ok (sym c.in-Some.is) ∙ c.in_ok-pair.ensures.value in
    let no = first_word_fails (number_of c.in_err-old.field-0.0) (word_of (at vs y)) (cell p m (at vs y) h).word c.at.result (at vs y) c.in_err-old.ensures c.at.ensures refl in
    let done = test_51 p m F asks null x f (word_of (at vs y)) (cell p m (at vs y) h).word false vs t s there no.0 in
    let d = err_from_is_err_and c.from_residual-in_err-old.result c.from_residual-in_err-old.ensures.1 in
    record { value = ap numbered (d.1 ∙ ap Err d.2) ∙ ap Err no.1 ∙ done.0; after = done.1 }

pub returns : goal.returns
returns g c =
    let F = c.args.frame in
    let vs = F.slots in
    let x = c.args.x in
    let y = c.args.y in
    let f = c.args.f in
    let h = c.args.g in
    let p = program_of c.args.table.now in
    let m = g.M.Memory.model c.args.memory.now in
    let asks = fields_ask p m vs x f y h in
    let null = is_null (at vs x) || is_null (at vs y) in
    let t = pair_at p m (at vs x) f (at vs y) h in
    let s = c.in-Some.pair in
    let there = ap Ok (sym c.in-Some.is) ∙ c.in_ok-pair.ensures.value in
    let is = (found asks null t s there).2 in
    let done = test_exchanges p m F asks null x f (word_of (at vs y)) (cell p m (at vs y) h).word false vs t s there F s.from.object c.in_ok-old.old s.to.cell.word (numbered c.settle.result) (g.M.Memory.model c.settle.new.memory)
    refl (ap (λ (z : Pair). z.from.object) is) (word_of_slot c.in_ok-old.old c.at.result (at vs y) c.in_ok-old.ensures c.at.ensures) (ap (λ (z : Pair). z.to.cell.word) is) c.settle.ensures.value c.settle.ensures.after in
    record { value = done.0; after = done.1 }
