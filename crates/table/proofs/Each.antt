-- Conditions that are not refused, and what holds of all that is listed by places.
use Rattle.std.proofs.Common.{◌≡◌, ℕ, zero, suc, ◌+◌, ◌<◌, Bool, true, false, map, get_or, Ok, Err, Result, refl, arith}
use Rattle.std.specs.List.{range_with_len}
use Rattle.table.specs.declared.fault.Place.{Place}
use Rattle.table.specs.declared.fault.Fault.{Fault}
use Rattle.table.specs.Faults.{Passes, need, each, ◌>>=◌}
use Rattle.table.specs.Program.{listing}
use Rattle.table.proofs.Listing.{each_at}

-- a chain that ends well
pub ok_then : {B : Type 0} (a : Passes) (k : Unit {0} → Result B Fault) (y : B) → (a >>= k) ≡ Ok y → (a ≡ Ok tt) × (k tt ≡ Ok y)
ok_then (Ok tt) k y h = (refl, h)
ok_then (Err e) k y h = let z : ◌≡◌ {A = ℕ} 0 1 = cc in absurd (omega arith)

pub need_true : (b : Bool) (n : ℕ) (place : Place) → need b n place ≡ Ok tt → b ≡ true
need_true true n place h = refl
need_true false n place h = let z : ◌≡◌ {A = ℕ} 0 1 = cc in absurd (omega arith)

-- a condition that passes at all places holds at each
pub each_need : (n : ℕ) (at : ℕ → Bool) (number : ℕ) (place : ℕ → Place) → each n (λ i. need (at i) number (place i)) ≡ Ok tt → (i : ℕ) → i < n → at i ≡ true
each_need n at number place h i l = need_true (at i) number (place i) (each_at n (λ j. need (at j) number (place j)) h i l)

pub counted_all : {X : Type 0} (P : X → Type 0) (d : X) (at : ℕ → X) (a n : ℕ) → ((i : ℕ) → i < a + n → P (at i)) → P d → (i : ℕ) → P (get_or (map at (range_with_len a n)) i d)
counted_all P d at a zero h k i = k
counted_all P d at a (suc n) h k zero = h a (omega arith)
counted_all P d at a (suc n) h k (suc i) = counted_all P d at (a + 1) n (λ j l. h j (omega arith)) k i

-- what holds of each entry, and of what is read past the end, holds of whatever is read
pub listing_all : {X : Type 0} (P : X → Type 0) (d : X) (n : ℕ) (at : ℕ → X) → ((i : ℕ) → i < n → P (at i)) → P d → (i : ℕ) → P (get_or (listing n at) i d)
listing_all P d n at h k i = counted_all P d at 0 n (λ j l. h j (omega arith)) k i
