-- What a thread touches, and the first pair of threads that touch one field.
use Rattle.std.proofs.Common.{◌≡◌, ℕ, suc, ◌+◌, Bool, true, false, cond, ◌&&◌, eqb, List, [], ◌∷◌, map, reverse, Some, None, Option, sym, refl, ap, ap₂, ◌∙◌, arith}
use Rattle.std.specs.List.{slice_get, position_from}
use Rattle.std.specs.Option.{option_map}
use Rattle.std.proofs.lemmas.Bool.Decides.{nat_tests}
use Rattle.table.specs.Records as said
use Rattle.table.specs.Records.{Op}
use Rattle.table.specs.Program.{Program}
use Rattle.memory.specs.Model.{Store}
use Rattle.machine.specs.declared.clashing.Clash.{Clash}
use Rattle.machine.specs.declared.threads.Frame.{Frame}
use Rattle.machine.specs.declared.threads.Thread.{Thread}
use Rattle.machine.specs.World.{task_of, op_at}
use Rattle.machine.specs.Ways.{newest, standing}
use Rattle.machine.specs.Clashes.{touch_by, touch, meets, partner}
use Rattle.stepping.specs.Touching.{touches_too}
use Rattle.stepping.proofs.Frames.{stands_at}

-- of a thread's frames only the newest counts
newest_alone : (p : Program) (m : Store) (fs : List Frame) (o : Option Op) → touch_by p m (newest fs ∷ []) o ≡ touch_by p m fs o
newest_alone p m fs None = refl
newest_alone p m fs (Some (said.New z s)) = refl
newest_alone p m fs (Some (said.Null z s)) = refl
newest_alone p m fs (Some (said.Int z n)) = refl
newest_alone p m fs (Some (said.Share z x)) = refl
newest_alone p m fs (Some (said.Own z x)) = refl
newest_alone p m fs (Some (said.Get z x f)) = refl
newest_alone p m fs (Some (said.Take z x f)) = refl
newest_alone p m fs (Some (said.Set z x f y)) = refl
newest_alone p m fs (Some (said.Add z x y)) = refl
newest_alone p m fs (Some (said.Call z n args)) = refl
newest_alone p m fs (Some (said.Fork n args)) = refl
newest_alone p m fs (Some (said.Return x)) = refl
newest_alone p m fs (Some (said.Again args)) = refl
newest_alone p m fs (Some (said.Join n)) = refl
newest_alone p m fs (Some (said.Emit x)) = refl
newest_alone p m fs (Some (said.Ask q a b)) = refl

-- what the newest frame touches
pub touch_newest : (p : Program) (m : Store) (fs : List Frame) (F : Frame) → Some F ≡ slice_get (reverse fs) 0 → touch_by p m (F ∷ []) (op_at p F) ≡ touch_by p m fs (standing p fs)
touch_newest p m fs F e =
    let s = stands_at p fs F e in
    ap (λ (G : Frame). touch_by p m (G ∷ []) (op_at p F)) s.0 ∙ newest_alone p m fs (op_at p F) ∙ ap (touch_by p m fs) s.1

same_either : (a b : ℕ) → eqb a b ≡ eqb b a
same_either a b = grind (arith, nat_tests)

-- one thread against another, by whether it touches the same
meets_by : (k l : ℕ) (t : ℕ × ℕ) (w : Option (ℕ × ℕ)) (rest : Option Clash) → meets k l t w rest ≡ cond (touches_too t w) (Some (record { lower = k; higher = l; object = t.0; field = t.1 })) rest
meets_by k l t None rest = refl
meets_by k l t (Some u) rest = ap₂ (λ a b. cond (a && b) (Some (record { lower = k; higher = l; object = t.0; field = t.1 })) rest) (same_either t.0 u.0) (same_either t.1 u.1)

module _ (p : Program) (m : Store) (k : ℕ) (t : ℕ × ℕ) where
  abbrev pub touches : Thread → Bool
  touches u = touches_too t (touch p m (task_of u))

  abbrev pub clash_at : ℕ → Clash
  clash_at l = record { lower = k; higher = l; object = t.0; field = t.1 }

  -- the partner is the first thread that touches the same
  pub partner_from : (l n : ℕ) (us : List Thread) → option_map (λ i. clash_at (l + i)) (position_from touches n us) ≡ partner p m k (Some t) (l + n) (map task_of us)
  partner_from l n [] = refl
  partner_from l n (u ∷ us) = by (touches u) (partner_from l (n + 1) us) ∙ sym (meets_by k (l + n) t (touch p m (task_of u)) (partner p m k (Some t) (suc (l + n)) (map task_of us)))
    where
      by : (b : Bool) → option_map (λ i. clash_at (l + i)) (position_from touches (n + 1) us) ≡ partner p m k (Some t) (l + (n + 1)) (map task_of us)
          → option_map (λ i. clash_at (l + i)) (cond b (Some n) (position_from touches (n + 1) us)) ≡ cond b (Some (clash_at (l + n))) (partner p m k (Some t) (suc (l + n)) (map task_of us))
      by true h = refl
      by false h = let e : l + (n + 1) ≡ suc (l + n) = omega arith in h ∙ ap (λ (j : ℕ). partner p m k (Some t) j (map task_of us)) e

  pub partner_by : (w : Option (ℕ × ℕ)) (us : List Thread) (r : Option ℕ) → Some t ≡ w → r ≡ position_from touches 0 us → option_map (λ i. clash_at (k + 1 + i)) r ≡ partner p m k w (suc k) (map task_of us)
  partner_by w us r e h =
      let n : (k + 1) + 0 ≡ suc k = omega arith in
      ap (option_map (λ i. clash_at (k + 1 + i))) h
      ∙ partner_from (k + 1) 0 us
      ∙ ap (λ (l : ℕ). partner p m k (Some t) l (map task_of us)) n
      ∙ ap (λ v. partner p m k v (suc k) (map task_of us)) e
