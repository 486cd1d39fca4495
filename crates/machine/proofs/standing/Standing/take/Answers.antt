use Rattle.std.proofs.Common.{◌≡◌, ℕ, true, ◌&&◌, [], ◌∷◌, Err, Option, Result, nat_lt, ap, ◌∙◌, rules}
use Rattle.std.proofs.lemmas.Result.{err_from_is_err_and}
use Rattle.table.specs.Faults.{number_of, numbered}
use Rattle.table.specs.Records.{Take}
use Rattle.table.specs.Reading.{program_of}
use Rattle.machine.specs.declared.reading.Target.{Target}
use Rattle.machine.specs.Values.{at, given, is_reference}
use Rattle.machine.specs.Seeing.{targeted}
use Rattle.machine.specs.Ways.{way}
use Rattle.machine.proofs.Pairing.{target_fails, way_fails}
use Rattle.machine.proofs.standing.Standing.take.Goals as goal

pub returns-in_err-target : goal.returns-in_err-target
returns-in_err-target g c =
    let F = c.args.self in
    let vs = F.slots in
    let z = c.args.z in
    let x = c.args.x in
    let f = c.args.f in
    let p = program_of c.args.table.now in
    let m = g.M.Memory.model c.args.memory.now in
    let n = number_of c.in_err-target.field-0.0 in
    let a : (nat_lt z 16 && given vs x) ≡ true = search rules in
    let b : (is_reference (at vs x)) ≡ true = search rules in
    let h : ◌≡◌ {A = Result (Option Target) ℕ} (Err n) (targeted p m (at vs x) f) = search rules in
    let s = target_fails p m (nat_lt z 16 && given vs x) (is_reference (at vs x)) (at vs x) f n a b h in
    let d = err_from_is_err_and c.from_residual-in_err-target.result c.from_residual-in_err-target.ensures.1 in
    record {
      value = λ room. ap numbered (d.1 ∙ ap Err d.2) ∙ (way_fails p m (F ∷ []) 0 room n (way p m (F ∷ []) (Take z x f)) s).0;
      after = λ room. (way_fails p m (F ∷ []) 0 room n (way p m (F ∷ []) (Take z x f)) s).1;
    }
