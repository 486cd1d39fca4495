use Rattle.std.proofs.Common.{◌≡◌, true, ◌&&◌, [], ◌∷◌, map, get_or, ap, ◌∙◌, rules}
use Rattle.std.specs.List.{list_all}
use Rattle.table.specs.Reading.{program_of}
use Rattle.machine.specs.declared.threads.Slot.TheVariants.{Empty}
use Rattle.machine.specs.Values.{at, given, is_reference}
use Rattle.machine.specs.Reading.{refers}
use Rattle.machine.proofs.Aiming.{and_two, by_given}
use Rattle.machine.proofs.Exchanging.{pair_asked}
use Rattle.machine.proofs.Pairing.{paired_as}
use Rattle.machine.proofs.tests.targets.Goals as goal

pub returns-clause-value : goal.returns-clause-value
returns-clause-value g c =
    let vs = c.args.frame.slots in
    let x = c.args.x in
    let y = c.args.y in
    let f = c.args.f in
    let h = c.args.g in
    let p = program_of c.args.table.now in
    let m = g.M.Memory.model c.args.memory.now in
    let kinds = is_reference (at vs x) && is_reference (at vs y) && refers p m (at vs x) f && refers p m (at vs y) h in
    let us = c.in_ok-a.field-0 in
    let xs = x ∷ y ∷ [] in
    let facts = by_given (list_all (given vs) xs) (list_all is_reference (map (at vs) xs)) (map (at vs) xs) us c.in_ok-a.ensures in
    let ux : get_or us 0 Empty ≡ at vs x = ap (λ z. get_or z 0 Empty) facts.2 in
    let uy : get_or us 1 Empty ≡ at vs y = ap (λ z. get_or z 1 Empty) facts.2 in
    let a : (given vs x && given vs y) ≡ true = and_two (given vs x) (given vs y) ∙ facts.0 in
    let k : (is_reference (at vs x) && is_reference (at vs y)) ≡ true = and_two (is_reference (at vs x)) (is_reference (at vs y)) ∙ facts.1 in
    let both : (refers p m (get_or us 0 Empty) f && refers p m (get_or us 1 Empty) h) ≡ true = search rules in
    let b : kinds ≡ true = search rules in
    let rx : is_reference (at vs x) ≡ true = search rules in
    let ry : is_reference (at vs y) ≡ true = search rules in
    paired_as p m (get_or us 0 Empty) (at vs x) f (get_or us 1 Empty) (at vs y) h _ c.resolve_both.ensures.value ux uy
    ∙ pair_asked p m (given vs x && given vs y) kinds (at vs x) f (at vs y) h a b rx ry
