use Rattle.std.proofs.Common.{true, ◌&&◌, [], ◌∷◌, get_or, Ok, Err, sym, refl, ap, ◌∙◌}
use Rattle.std.proofs.lemmas.Result.{err_from_is_err_and}
use Rattle.table.specs.Faults.{number_of, numbered}
use Rattle.table.specs.Reading.{program_of}
use Rattle.machine.specs.declared.threads.Slot.TheVariants.{Empty}
use Rattle.machine.specs.declared.reading.Target.{Target}
use Rattle.machine.specs.Values.{at, given, is_null, is_reference, word_of}
use Rattle.machine.specs.Seeing.{target_at}
use Rattle.machine.specs.Tests.{field_asks}
use Rattle.machine.proofs.Settling.{word_of_slot}
use Rattle.machine.proofs.Pairing.{first_word_fails}
use Rattle.machine.proofs.Exchanging.{found, test_fails, test_halts, test_51, test_exchanges}
use Rattle.machine.proofs.Aiming.{and_two, values, refused, aimed}
use Rattle.machine.proofs.tests.fix.Goals as goal

pub returns-in_err-a : goal.returns-in_err-a
returns-in_err-a g c =
    let F = c.args.frame in
    let vs = F.slots in
    let x = c.args.x in
    let y = c.args.y in
    let f = c.args.f in
    let p = program_of c.args.table.now in
    let m = g.M.Memory.model c.args.memory.now in
    let G = given vs x && given vs y in
    let K = is_reference (at vs x) && is_reference (at vs y) in
    let xs = y ∷ [] in
    let all = and_two (given vs x) (given vs y) in
    let kinds = and_two (is_reference (at vs x)) (is_reference (at vs y)) in
    let asks = field_asks p m vs G K x f in
    let null = is_null (at vs x) in
    let t = target_at p m (at vs x) f in
    let done = test_fails p m F asks null x f (word_of (at vs y)) (word_of (at vs y)) true vs t (number_of c.in_err-a.field-0.0) (refused p m vs G K x f xs all kinds c.in_err-a.field-0.0 c.in_err-a.ensures) in
    let d = err_from_is_err_and c.from_residual.result c.from_residual.ensures.1 in
    record { value = ap numbered (d.1 ∙ ap Err d.2) ∙ done.0; after = done.1 }

pub returns-in_err-target : goal.returns-in_err-target
returns-in_err-target g c =
    let F = c.args.frame in
    let vs = F.slots in
    let x = c.args.x in
    let y = c.args.y in
    let f = c.args.f in
    let p = program_of c.args.table.now in
    let m = g.M.Memory.model c.args.memory.now in
    let G = given vs x && given vs y in
    let K = is_reference (at vs x) && is_reference (at vs y) in
    let xs = y ∷ [] in
    let all = and_two (given vs x) (given vs y) in
    let kinds = and_two (is_reference (at vs x)) (is_reference (at vs y)) in
    let asks = field_asks p m vs G K x f in
    let null = is_null (at vs x) in
    let t = target_at p m (at vs x) f in
    let done = test_fails p m F asks null x f (word_of (at vs y)) (word_of (at vs y)) true vs t (number_of c.in_err-target.field-0.0) (aimed p m vs G K x f xs all kinds c.in_ok-a.field-0 c.in_ok-a.ensures (Err (number_of c.in_err-target.field-0.0)) c.in_err-target.ensures.value) in
    let d = err_from_is_err_and c.from_residual-in_err-target.result c.from_residual-in_err-target.ensures.1 in
    record { value = ap numbered (d.1 ∙ ap Err d.2) ∙ done.0; after = done.1 }

pub returns-in_default : goal.returns-in_default
returns-in_default g c =
    let F = c.args.frame in
    let vs = F.slots in
    let x = c.args.x in
    let y = c.args.y in
    let f = c.args.f in
    let p = program_of c.args.table.now in
    let m = g.M.Memory.model c.args.memory.now in
    let G = given vs x && given vs y in
    let K = is_reference (at vs x) && is_reference (at vs y) in
    let xs = y ∷ [] in
    let all = and_two (given vs x) (given vs y) in
    let kinds = and_two (is_reference (at vs x)) (is_reference (at vs y)) in
    let asks = field_asks p m vs G K x f in
    let null = is_null (at vs x) in
    let t = target_at p m (at vs x) f in
    let done = test_halts p m F asks null x f (word_of (at vs y)) (word_of (at vs y)) true vs t (ap Ok (sym c.in_default.is) ∙ aimed p m vs G K x f xs all kinds c.in_ok-a.field-0 c.in_ok-a.ensures (Ok c.in_ok-target.field-0) c.in_ok-target.ensures.value) in
    record { value = done.0; after = done.1 }

pub returns-in_err-word : goal.returns-in_err-word
returns-in_err-word g c =
    let F = c.args.frame in
    let vs = F.slots in
    let x = c.args.x in
    let y = c.args.y in
    let f = c.args.f in
    let p = program_of c.args.table.now in
    let m = g.M.Memory.model c.args.memory.now in
    let G = given vs x && given vs y in
    let K = is_reference (at vs x) && is_reference (at vs y) in
    let xs = y ∷ [] in
    let all = and_two (given vs x) (given vs y) in
    let kinds = and_two (is_reference (at vs x)) (is_reference (at vs y)) in
    let asks = field_asks p m vs G K x f in
    let null = is_null (at vs x) in
    let t = target_at p m (at vs x) f in
    let s = c.in-Some.target in
    let there = ap Ok (sym c.in-Some.is) ∙ aimed p m vs G K x f xs all kinds c.in_ok-a.field-0 c.in_ok-a.ensures (Ok c.in_ok-target.field-0) c.in_ok-target.ensures.value in
    let us = values p m vs G K x f xs all kinds c.in_ok-a.field-0 c.in_ok-a.ensures in
    let no = first_word_fails (number_of c.in_err-word.field-0.0) (word_of (at vs y)) (word_of (at vs y)) (get_or c.in_ok-a.field-0 1 Empty) (at vs y) c.in_err-word.ensures (ap (λ z. get_or z 1 Empty) us) refl in
    let done = test_51 p m F asks null x f (word_of (at vs y)) (word_of (at vs y)) true vs t s there no.0 in
    let d = err_from_is_err_and c.from_residual-in_err-word.result c.from_residual-in_err-word.ensures.1 in
    record { value = ap numbered (d.1 ∙ ap Err d.2) ∙ ap Err no.1 ∙ done.0; after = done.1 }

pub returns : goal.returns
returns g c =
    let F = c.args.frame in
    let vs = F.slots in
    let x = c.args.x in
    let y = c.args.y in
    let f = c.args.f in
    let p = program_of c.args.table.now in
    let m = g.M.Memory.model c.args.memory.now in
    let G = given vs x && given vs y in
    let K = is_reference (at vs x) && is_reference (at vs y) in
    let xs = y ∷ [] in
    let all = and_two (given vs x) (given vs y) in
    let kinds = and_two (is_reference (at vs x)) (is_reference (at vs y)) in
    let asks = field_asks p m vs G K x f in
    let null = is_null (at vs x) in
    let t = target_at p m (at vs x) f in
    let s = c.in-Some.target in
    let there = ap Ok (sym c.in-Some.is) ∙ aimed p m vs G K x f xs all kinds c.in_ok-a.field-0 c.in_ok-a.ensures (Ok c.in_ok-target.field-0) c.in_ok-target.ensures.value in
    let us = values p m vs G K x f xs all kinds c.in_ok-a.field-0 c.in_ok-a.ensures in
    let is = (found asks null t s there).2 in
    let done = test_exchanges p m F asks null x f (word_of (at vs y)) (word_of (at vs y)) true vs t s there F s.object c.in_ok-word.word c.in_ok-word.word (numbered c.settle.result) (g.M.Memory.model c.settle.new.memory)
    refl (ap (λ (z : Target). z.object) is) (word_of_slot c.in_ok-word.word (get_or c.in_ok-a.field-0 1 Empty) (at vs y) c.in_ok-word.ensures (ap (λ z. get_or z 1 Empty) us)) (word_of_slot c.in_ok-word.word (get_or c.in_ok-a.field-0 1 Empty) (at vs y) c.in_ok-word.ensures (ap (λ z. get_or z 1 Empty) us)) c.settle.ensures.value c.settle.ensures.after in
    record { value = done.0; after = done.1 }
