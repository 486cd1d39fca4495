-- The newest of a thread's frames, and the one that waits for it, as reads from the end find them.
use Rattle.std.proofs.Common.{◌≡◌, ℕ, ◌+◌, ◌-◌, ◌<◌, Bool, true, false, cond, ltb, List, length, get_or, reverse, Some, None, sym, ap, ◌∙◌, inl, inr, arith}
use Rattle.std.specs.List.{slice_get}
use Rattle.std.proofs.lemmas.List.{get_or-reverse, length-reverse}
use Rattle.std.proofs.lemmas.Option.{slice_get-get_or, slice_get_past}
use Rattle.std.proofs.lemmas.Bool.{cases_lt, cond-true, cond-false, lt-ltb, le-ltb}
use Rattle.table.specs.Program.{Program}
use Rattle.machine.specs.declared.threads.Frame.{Frame}
use Rattle.machine.specs.World.{no_frame, op_at}
use Rattle.machine.specs.Ways.{newest, standing}

-- the frame that lies so many below the newest
pub from_end : (fs : List Frame) (n : ℕ) → slice_get (reverse fs) n ≡ cond (ltb n (length fs)) (Some (get_or fs (length fs - (n + 1)) no_frame)) None
from_end fs n =
    elim (cases_lt n (length fs)) [
      | inl l ↦
          (let i : length fs - 1 - n ≡ length fs - (n + 1) = omega arith in
          let r : n < length (reverse fs) = omega (arith, length-reverse fs) in
          slice_get-get_or (reverse fs) n no_frame r
          ∙ ap Some (get_or-reverse fs n no_frame l ∙ ap (λ (j : ℕ). get_or fs j no_frame) i)
          ∙ sym (cond-true (ltb n (length fs)) (Some (get_or fs (length fs - (n + 1)) no_frame)) None (lt-ltb n (length fs) l)))
      | inr g ↦
          (let r = slice_get_past (reverse fs) n (omega (arith, length-reverse fs)) in
          r ∙ sym (cond-false (ltb n (length fs)) (Some (get_or fs (length fs - (n + 1)) no_frame)) None (le-ltb n (length fs) g)))
    ]

-- the record before the newest frame
module _ (p : Program) (fs : List Frame) where
  pub stands_at : (F : Frame) → Some F ≡ slice_get (reverse fs) 0 → (F ≡ newest fs) × (op_at p F ≡ standing p fs)
  stands_at F e = by (ltb 0 (length fs)) (e ∙ from_end fs 0)
    where
      by : (b : Bool) → Some F ≡ cond b (Some (newest fs)) None → (F ≡ newest fs) × (op_at p F ≡ cond b (op_at p (newest fs)) None)
      by true h = let e : F ≡ newest fs = cc in (e, ap (op_at p) e)
      by false h = let z : ◌≡◌ {A = ℕ} 0 1 = cc in absurd (omega arith)
