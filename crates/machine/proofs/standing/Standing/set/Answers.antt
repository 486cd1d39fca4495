use Rattle.std.proofs.Common.{◌≡◌, ℕ, true, ◌&&◌, [], ◌∷◌, Err, Option, Result, nat_lt, ap, ◌∙◌, rules}
use Rattle.std.proofs.lemmas.Result.{err_from_is_err_and}
use Rattle.table.specs.Faults.{number_of, numbered}
use Rattle.table.specs.Records.{Set}
use Rattle.table.specs.Reading.{program_of}
use Rattle.machine.specs.declared.threads.Frame.{Frame}
use Rattle.machine.specs.declared.reading.Target.{Target}
use Rattle.machine.specs.Values.{at, given, is_reference, suits}
use Rattle.machine.specs.Reading.{field_type, where_field}
use Rattle.machine.specs.Seeing.{targeted}
use Rattle.machine.specs.Ways.{way}
use Rattle.machine.proofs.Pairing.{target_fails, way_fails}
use Rattle.machine.proofs.standing.Standing.set.Goals as goal

pub returns-in_err-target : goal.returns-in_err-target
returns-in_err-target g c =
    let F = c.args.self in
    let vs = F.slots in
    let z = c.args.z in
    let x = c.args.x in
    let f = c.args.f in
    let y = c.args.y in
    let p = program_of c.args.table.now in
    let m = g.M.Memory.model c.args.memory.now in
    let n = number_of c.in_err-target.field-0.0 in
    let a : (nat_lt z 16 && given vs x && given vs y) ≡ true = search rules in
    let b : (is_reference (at vs x) && where_field p m (at vs x) f (suits (field_type p m (at vs x) f) (at vs y))) ≡ true = search rules in
    let v : c.at-value.result ≡ at vs x = c.at-value.ensures ∙ ap (λ (G : Frame). at G.slots x) c.frame-frame.ensures in
    let h : ◌≡◌ {A = Result (Option Target) ℕ} (Err n) (targeted p m (at vs x) f) = c.in_err-target.ensures.value ∙ ap (λ u. targeted p m u f) v in
    let s = target_fails p m (nat_lt z 16 && given vs x && given vs y) (is_reference (at vs x) && where_field p m (at vs x) f (suits (field_type p m (at vs x) f) (at vs y))) (at vs x) f n a b h in
    let d = err_from_is_err_and c.from_residual-in_err-target.result c.from_residual-in_err-target.ensures.1 in
    record {
      value = λ room. ap numbered (d.1 ∙ ap Err d.2) ∙ (way_fails p m (F ∷ []) 0 room n (way p m (F ∷ []) (Set z x f y)) s).0;
      after = λ room. (way_fails p m (F ∷ []) 0 room n (way p m (F ∷ []) (Set z x f y)) s).1;
    }
