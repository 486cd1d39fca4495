-- Sets of fields, bit by bit.
use Rattle.std.proofs.Common.{◌≡◌, ℕ, zero, suc, ◌-◌, ◌/◌, ◌%◌, ◌^◌, ◌<◌, ◌≤◌, Bool, true, false, cond, not, ◌&&◌, ◌||◌, eqb, ◌⊎◌, sym, refl, ap, ◌∙◌, subst, inl, inr, pow-suc, div-one, mul-div_cancel, one-add, arith, pow_mono, shr-shr}
use mathlib.Core.Path.{subst⁻¹}
use native.Mathlib.Nat.{zero-div, div-eq_of_lt}
use lib.Dec.{eqb-suc-suc}
use lib.Arith.{bin_ind}
use lib.Bits.{bit_and, bit_or, and_shr, and_mod, or_shr, or_mod}
use Rattle.std.proofs.lemmas.Bool.{eqb-true, eqb-false, eq-eqb, ne_eqb, and_parts, and_from, and_right, or_cases, or_right, not-true, cases_eq}
use Rattle.rules.specs.Rules.{has, with, without, part}
use Rattle.rules.specs.Blocks.{Within}

pub has_half : (m g : ℕ) → has (m / 2) g ≡ has m (suc g)
has_half m g = ap (λ n. eqb (n % 2) 1) (shr-shr m 1 g ∙ ap (λ j. m / 2 ^ j) (one-add g))

pub has_first : (m : ℕ) → has m 0 ≡ eqb (m % 2) 1
has_first m = ap (λ n. eqb (n % 2) 1) (div-one m)

pub has_none : (g : ℕ) → has 0 g ≡ false
has_none g = ap (λ n. eqb (n % 2) 1) (zero-div (2 ^ g))

-- two bits
pub or_bits : (x y : ℕ) → x < 2 → y < 2 → eqb (bit_or x y) 1 ≡ (eqb x 1 || eqb y 1)
or_bits zero zero h k = refl
or_bits zero (suc zero) h k = refl
or_bits zero (suc (suc y)) h k = absurd (omega arith)
or_bits (suc zero) zero h k = refl
or_bits (suc zero) (suc zero) h k = refl
or_bits (suc zero) (suc (suc y)) h k = absurd (omega arith)
or_bits (suc (suc x)) y h k = absurd (omega arith)

pub and_bits : (x y : ℕ) → x < 2 → y < 2 → eqb (bit_and x y) 1 ≡ (eqb x 1 && eqb y 1)
and_bits zero zero h k = refl
and_bits zero (suc zero) h k = refl
and_bits zero (suc (suc y)) h k = absurd (omega arith)
and_bits (suc zero) zero h k = refl
and_bits (suc zero) (suc zero) h k = refl
and_bits (suc zero) (suc (suc y)) h k = absurd (omega arith)
and_bits (suc (suc x)) y h k = absurd (omega arith)

pub has_or : (a b g : ℕ) → has (bit_or a b) g ≡ (has a g || has b g)
has_or a b g =
    ap (λ n. eqb n 1) (ap (λ n. n % 2) (or_shr a b g) ∙ or_mod (a / 2 ^ g) (b / 2 ^ g) 1)
    ∙ or_bits ((a / 2 ^ g) % 2) ((b / 2 ^ g) % 2) (omega arith) (omega arith)

pub has_and : (a b g : ℕ) → has (bit_and a b) g ≡ (has a g && has b g)
has_and a b g =
    ap (λ n. eqb n 1) (ap (λ n. n % 2) (and_shr a b g) ∙ and_mod (a / 2 ^ g) (b / 2 ^ g) 1)
    ∙ and_bits ((a / 2 ^ g) % 2) ((b / 2 ^ g) % 2) (omega arith) (omega arith)

-- a set of one field
pub pow_half : (f : ℕ) → 2 ^ suc f / 2 ≡ 2 ^ f
pow_half f = ap (λ n. n / 2) (pow-suc 2 f) ∙ mul-div_cancel (2 ^ f) (omega arith)

pub has_one : (f g : ℕ) → has (2 ^ f) g ≡ eqb f g
has_one zero zero = refl
has_one zero (suc g) = sym (has_half 1 g) ∙ has_none g ∙ sym (ne_eqb 0 (suc g) (λ e. omega arith))
has_one (suc f) zero =
    has_first (2 ^ suc f) ∙ ne_eqb (2 ^ suc f % 2) 1 (λ e. omega arith) ∙ sym (ne_eqb (suc f) 0 (λ e. omega arith))
has_one (suc f) (suc g) =
    sym (has_half (2 ^ suc f) g) ∙ ap (λ n. has n g) (pow_half f) ∙ has_one f g ∙ sym (eqb-suc-suc f g)

-- a part of a set
pub part_within : (v w : ℕ) → part v w ≡ true → Within v w
part_within v w h g k =
    let e : bit_and v w ≡ v = eqb-true (bit_and v w) v h in
    (and_parts (has v g) (has w g) (sym (has_and v w g) ∙ ap (λ n. has n g) e ∙ k)).1

-- one field more
pub with_has : (w f : ℕ) → has (with w f) f ≡ true
with_has w f = has_or w (2 ^ f) f ∙ ap (λ x. has w f || x) (has_one f f ∙ eq-eqb f f refl) ∙ or_right (has w f) true refl

pub with_only : (w f g : ℕ) → has (with w f) g ≡ true → (has w g ≡ true) ⊎ (f ≡ g)
with_only w f g h =
    elim (or_cases (has w g) (has (2 ^ f) g) (sym (has_or w (2 ^ f) g) ∙ h)) [
      | inl x ↦ inl x
      | inr x ↦ inr (eqb-true f g (sym (has_one f g) ∙ x))
    ]

-- one field less
abbrev all_below : ℕ → (ℕ → Bool) → Bool
all_below zero P = true
all_below (suc n) P = P n && all_below n P

pub below_at : (n : ℕ) (P : ℕ → Bool) → all_below n P ≡ true → (k : ℕ) → k < n → P k ≡ true
below_at zero P h k l = absurd (omega arith)
below_at (suc n) P h k l =
    let c = and_parts (P n) (all_below n P) h in
    elim (cases_eq k n) [
      | inl e ↦ subst⁻¹ (λ m. P m ≡ true) e c.0
      | inr d ↦ below_at n P c.1 k (omega arith)
    ]

-- the set of all eight fields but f
abbrev others : ℕ → ℕ → Bool
others f g = cond (eqb f g) (not (has (255 - 2 ^ f) g)) (has (255 - 2 ^ f) g)

pub others_are : (f g : ℕ) → f < 8 → g < 8 → others f g ≡ true
others_are f g h k = below_at 8 (others f) (below_at 8 (λ n. all_below 8 (others n)) refl f h) g k

pub without_within : (w f : ℕ) → Within (without w f) w
without_within w f g h = (and_parts (has w g) (has (255 - 2 ^ f) g) (sym (has_and w (255 - 2 ^ f) g) ∙ h)).0

pub without_lost : (w f : ℕ) → f < 8 → has (without w f) f ≡ false
without_lost w f h =
    let a : cond true (not (has (255 - 2 ^ f) f)) (has (255 - 2 ^ f) f) ≡ true = subst (λ t. cond t (not (has (255 - 2 ^ f) f)) (has (255 - 2 ^ f) f) ≡ true) (eq-eqb f f refl) (others_are f f h h) in
    let b = not-true (has (255 - 2 ^ f) f) a in
    has_and w (255 - 2 ^ f) f ∙ and_right (has w f) (has (255 - 2 ^ f) f) b

pub without_kept : (w f g : ℕ) → f < 8 → g < 8 → (f ≡ g → ⊥) → has w g ≡ true → has (without w f) g ≡ true
without_kept w f g h k d e =
    let a : has (255 - 2 ^ f) g ≡ true = subst (λ t. cond t (not (has (255 - 2 ^ f) g)) (has (255 - 2 ^ f) g) ≡ true) (ne_eqb f g d) (others_are f g h k) in
    has_and w (255 - 2 ^ f) g ∙ and_from (has w g) (has (255 - 2 ^ f) g) e a

-- a set with no field
pub none_set : (m : ℕ) → ((g : ℕ) → has m g ≡ false) → m ≡ 0
none_set = bin_ind (λ m. ((g : ℕ) → has m g ≡ false) → m ≡ 0) (λ h. refl)
    (λ m go h.
    let a : m / 2 ≡ 0 = go (λ g. has_half m g ∙ h (suc g)) in
    let b : m % 2 ≡ 1 → ⊥ = eqb-false (m % 2) 1 (sym (has_first m) ∙ h 0) in
    omega arith)

-- no byte has a bit past the eighth
pub has_high : (w f : ℕ) → w < 256 → 8 ≤ f → has w f ≡ false
has_high w f l h =
    let big : 256 ≤ 2 ^ f = pow_mono {i = 8} {j = f} h in
    let low : w < 2 ^ f = omega arith in
    let none : w / 2 ^ f ≡ 0 = div-eq_of_lt low in
    ap (λ n. eqb (n % 2) 1) none

pub alone_high : (w f : ℕ) → w < 256 → 8 ≤ f → eqb w (2 ^ f) ≡ false
alone_high w f l h =
    let big : 256 ≤ 2 ^ f = pow_mono {i = 8} {j = f} h in
    ne_eqb w (2 ^ f) (λ e. omega arith)
