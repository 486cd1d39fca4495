-- Lists of the values at 0 to n - 1, and the first refusal at those places.
use Rattle.std.proofs.Common.{◌≡◌, ℕ, zero, suc, ◌+◌, ◌<◌, ◌≤◌, List, length, get_or, IsErrAnd, Some, None, Ok, Err, sym, refl, ap, ◌∙◌, inl, inr, add-one, arith}
use Rattle.std.specs.List.{slice_get}
use Rattle.std.proofs.lemmas.List.FromFn.{length-map-range_with_len, get_or-map-range_with_len}
use Rattle.std.proofs.lemmas.List.{get_or_past}
use Rattle.std.proofs.lemmas.Option.{slice_get-get_or, slice_get_past}
use Rattle.std.proofs.lemmas.Result.{err_from_is_err_and}
use Rattle.std.proofs.lemmas.Bool.{cases_lt}
use Rattle.table.specs.declared.fault.Fault.{Fault}
use Rattle.table.specs.Faults.{Passes, each, ◌>>=◌}
use Rattle.std.proofs.lemmas.Bool.Decides.{nat_tests}
use Rattle.table.specs.Program.{listing}
use Rattle.table.specs.Reading.{within}

pub length_listing : {X : Type 0} (n : ℕ) (at : ℕ → X) → length (listing n at) ≡ n
length_listing n at = length-map-range_with_len at 0 n

pub get_d_listing : {X : Type 0} (n : ℕ) (at : ℕ → X) (i : ℕ) (d : X) → i < n → get_or (listing n at) i d ≡ at i
get_d_listing n at i d h = get_or-map-range_with_len at 0 n i i d h (omega arith)

pub lacks_listing : {X : Type 0} (n : ℕ) (at : ℕ → X) (i : ℕ) (d : X) → n ≤ i → get_or (listing n at) i d ≡ d
lacks_listing n at i d h = let e : length (listing n at) ≡ n = length_listing n at in get_or_past (listing n at) i d (omega arith)

pub nth_listing : {X : Type 0} (n : ℕ) (at : ℕ → X) (i : ℕ) → i < n → slice_get (listing n at) i ≡ Some (at i)
nth_listing n at i h =
    let e : length (listing n at) ≡ n = length_listing n at in
    slice_get-get_or (listing n at) i (at i) (omega arith) ∙ ap Some (get_d_listing n at i (at i) h)

pub past_listing : {X : Type 0} (n : ℕ) (at : ℕ → X) (i : ℕ) → n ≤ i → slice_get (listing n at) i ≡ None
past_listing n at i h = let e : length (listing n at) ≡ n = length_listing n at in slice_get_past (listing n at) i (omega arith)

-- a number below a total, and one past it
pub within_is : (i m k : ℕ) → Some k ≡ within i m → k ≡ i
within_is i m k h = grind (arith, nat_tests)

pub within_lt : (i m k : ℕ) → Some k ≡ within i m → i < m
within_lt i m k h = grind (arith, nat_tests)

pub within_past : (i m : ℕ) → None ≡ within i m → m ≤ i
within_past i m h = grind (arith, nat_tests)

-- what is listed there
pub found_listing : {X : Type 0} (n : ℕ) (at : ℕ → X) (d : X) (i m k : ℕ) → m ≡ n → Some k ≡ within i m → get_or (listing n at) i d ≡ at k
found_listing n at d i m k e h = get_d_listing n at i d (omega (arith, within_lt i m k h)) ∙ ap at (sym (within_is i m k h))

pub found_nth : {X : Type 0} (n : ℕ) (at : ℕ → X) (i m k : ℕ) → m ≡ n → Some k ≡ within i m → slice_get (listing n at) i ≡ Some (at k)
found_nth n at i m k e h = nth_listing n at i (omega (arith, within_lt i m k h)) ∙ ap (λ j. Some (at j)) (sym (within_is i m k h))

pub missed_listing : {X : Type 0} (n : ℕ) (at : ℕ → X) (d : X) (i m : ℕ) → m ≡ n → None ≡ within i m → get_or (listing n at) i d ≡ d
missed_listing n at d i m e h = lacks_listing n at i d (omega (arith, within_past i m h))

pub missed_nth : {X : Type 0} (n : ℕ) (at : ℕ → X) (i m : ℕ) → m ≡ n → None ≡ within i m → slice_get (listing n at) i ≡ None
missed_nth n at i m e h = past_listing n at i (omega (arith, within_past i m h))

-- A part of what is listed, which lists values itself: how many, the value at a place, and none.
pub part_counts : {X Y : Type 0} (part : X → List Y) (n : ℕ) (at : ℕ → X) (d : X) (i m k t : ℕ) (of : ℕ → Y)
    → m ≡ n → Some k ≡ within i m → part (at k) ≡ listing t of → length (part (get_or (listing n at) i d)) ≡ t
part_counts part n at d i m k t of e h p = ap (λ x. length (part x)) (found_listing n at d i m k e h) ∙ ap length p ∙ length_listing t of

pub part_found : {X Y : Type 0} (part : X → List Y) (n : ℕ) (at : ℕ → X) (d : X) (i m k t : ℕ) (of : ℕ → Y) (j p q : ℕ)
    → m ≡ n → Some k ≡ within i m → part (at k) ≡ listing t of → p ≡ t → Some q ≡ within j p → slice_get (part (get_or (listing n at) i d)) j ≡ Some (of q)
part_found part n at d i m k t of j p q e h l f g =
    ap (λ x. slice_get (part x) j) (found_listing n at d i m k e h) ∙ ap (λ xs. slice_get xs j) l ∙ found_nth t of j p q f g

pub part_missed : {X Y : Type 0} (part : X → List Y) (n : ℕ) (at : ℕ → X) (d : X) (i m k t : ℕ) (of : ℕ → Y) (j p : ℕ)
    → m ≡ n → Some k ≡ within i m → part (at k) ≡ listing t of → p ≡ t → None ≡ within j p → slice_get (part (get_or (listing n at) i d)) j ≡ None
part_missed part n at d i m k t of j p e h l f g =
    ap (λ x. slice_get (part x) j) (found_listing n at d i m k e h) ∙ ap (λ xs. slice_get xs j) l ∙ missed_nth t of j p f g

-- a refusal where all before it pass is the first
pub each_stops : (n : ℕ) (at : ℕ → Passes) (i : ℕ) (e : Fault) → i < n → each i at ≡ Ok tt → at i ≡ Err e → each n at ≡ Err e
each_stops zero at i e h p q = absurd (omega arith)
each_stops (suc n) at i e h p q =
    elim (cases_lt i n) [
      | inl l ↦ ap (λ r. r >>= λ _. at n) (each_stops n at i e l p q)
      | inr g ↦ let s : i ≡ n = omega arith in rw (← s) (ap (λ r. r >>= λ _. at i) p ∙ q)
    ]

-- The turn, the refusal and the end of a loop that goes through the places.
pub each_next : (at : ℕ → Passes) (i : ℕ) (u : Unit {0}) → each i at ≡ Ok tt → Ok u ≡ at i → each (i + 1) at ≡ Ok tt
each_next at i u p q = rw add-one (ap (λ r. r >>= λ _. at i) p ∙ sym q)

-- where all but the last pass, the last decides
pub each_last : (n : ℕ) (at : ℕ → Passes) (r : Passes) → each n at ≡ Ok tt → r ≡ at n → r ≡ each (n + 1) at
each_last n at r p q = sym (rw add-one (ap (λ s. s >>= λ _. at n) p ∙ sym q))

pub each_refused : (n : ℕ) (at : ℕ → Passes) (i : ℕ) (e : Fault) (r : Passes) → i < n → each i at ≡ Ok tt → Err e ≡ at i → IsErrAnd r (λ d. d ≡ e) → r ≡ each n at
each_refused n at i e r h p q b = let d = err_from_is_err_and r b in d.1 ∙ ap Err d.2 ∙ sym (each_stops n at i e h p (sym q))

pub each_ends : (n : ℕ) (at : ℕ → Passes) (i : ℕ) → i ≡ n → each i at ≡ Ok tt → Ok tt ≡ each n at
each_ends n at i s p = sym (ap (λ m. each m at) (sym s) ∙ p)

-- what passes at all places passes at each
pub each_at : (n : ℕ) (at : ℕ → Passes) → each n at ≡ Ok tt → (i : ℕ) → i < n → at i ≡ Ok tt
each_at zero at h i l = absurd (omega arith)
each_at (suc n) at h i l = by (each n at) refl h (λ e m. each_at n at e i m)
  where
    by : (r : Passes) → each n at ≡ r → (r >>= λ _. at n) ≡ Ok tt → (each n at ≡ Ok tt → i < n → at i ≡ Ok tt) → at i ≡ Ok tt
    by (Ok tt) e q before =
        elim (cases_lt i n) [
          | inl m ↦ before e m
          | inr g ↦ let s : i ≡ n = omega arith in rw s q
        ]
    by (Err f) e q before = let z : ◌≡◌ {A = ℕ} 0 1 = cc in absurd (omega arith)
