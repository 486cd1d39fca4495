-- The sets of fields as masks: one bit, a bit put in, a bit taken out.
use Rattle.std.proofs.Common.{◌≡◌, ℕ, zero, suc, ◌+◌, ◌-◌, ◌*◌, ◌/◌, ◌%◌, ◌^◌, ◌<◌, ◌⊎◌, sym, refl, ap, ◌∙◌, subst, ap₂, inl, inr, mod-lt, mul-div_cancel, arith, pow_pos, pow-add}
use native.Mathlib.Nat.{div-eq_of_lt, div_self}
use lib.Bits.{bit_or, bit_xor, or_shr, or_mod, xor_shr, xor_mod, shifted_even}
use lib.Pow.{pow-lt}
use Rattle.std.proofs.lemmas.Bool.{cases_order}
use Rattle.safety.specs.Model.{Has}
use Rattle.safety.specs.Fields.{With, Without, Alone}

bit : ℕ → ℕ → ℕ
bit w f = (w / 2 ^ f) % 2

two : (n : ℕ) → (n % 2 ≡ 0) ⊎ (n % 2 ≡ 1)
two n = go (n % 2) (mod-lt n (omega arith))
  where
    go : (k : ℕ) → k < 2 → (k ≡ 0) ⊎ (k ≡ 1)
    go zero h = inl refl
    go (suc zero) h = inr refl
    go (suc (suc k)) h = let z : ⊥ = omega arith in absurd z

pow_same : (g : ℕ) → (2 ^ g / 2 ^ g) % 2 ≡ 1
pow_same g = ap (λ (n : ℕ). n % 2) (div_self (pow_pos g))

pow_off : (g h : ℕ) → ¬ (h ≡ g) → (2 ^ g / 2 ^ h) % 2 ≡ 0
pow_off g h n = go (cases_order h g)
  where
    above : (d : ℕ) → g ≡ suc d + h → (2 ^ g / 2 ^ h) % 2 ≡ 0
    above d e =
        let a : 2 ^ g ≡ 2 ^ suc d * 2 ^ h = ap (λ (k : ℕ). 2 ^ k) e ∙ pow-add 2 (suc d) h in
        ap (λ (k : ℕ). (k / 2 ^ h) % 2) a ∙ ap (λ (k : ℕ). k % 2) (mul-div_cancel (2 ^ suc d) (pow_pos h)) ∙ (let s : (1 * 2 ^ suc d) % 2 ≡ 0 = shifted_even 1 d in omega arith)

    go : (h ≡ g) ⊎ ((h < g) ⊎ (g < h)) → (2 ^ g / 2 ^ h) % 2 ≡ 0
    go (inl e) = absurd (n e)
    go (inr (inl l)) = above (g - h - 1) (omega arith)
    go (inr (inr l)) = ap (λ (k : ℕ). k % 2) (div-eq_of_lt (pow-lt l))

or_bit : (a b f : ℕ) → (bit_or a b / 2 ^ f) % 2 ≡ bit_or ((a / 2 ^ f) % 2) ((b / 2 ^ f) % 2)
or_bit a b f = ap (λ (n : ℕ). n % 2) (or_shr a b f) ∙ or_mod (a / 2 ^ f) (b / 2 ^ f) 1

xor_bit : (a b f : ℕ) → (bit_xor a b / 2 ^ f) % 2 ≡ bit_xor ((a / 2 ^ f) % 2) ((b / 2 ^ f) % 2)
xor_bit a b f = ap (λ (n : ℕ). n % 2) (xor_shr a b f) ∙ xor_mod (a / 2 ^ f) (b / 2 ^ f) 1

pub alone : (g : ℕ) → Alone (2 ^ g) g
alone g = record { has = pow_same g; only = λ h x. go h x (cases_order h g) }
  where
    go : (h : ℕ) → Has (2 ^ g) h → (h ≡ g) ⊎ ((h < g) ⊎ (g < h)) → h ≡ g
    go h x (inl e) = e
    go h x (inr (inl l)) = let z : (2 ^ g / 2 ^ h) % 2 ≡ 0 = pow_off g h (λ e. omega arith) in omega arith
    go h x (inr (inr l)) = let z : (2 ^ g / 2 ^ h) % 2 ≡ 0 = pow_off g h (λ e. omega arith) in omega arith

same_or_not : (g f : ℕ) → (g ≡ f) ⊎ ¬ (g ≡ f)
same_or_not g f = go (cases_order g f)
  where
    go : (g ≡ f) ⊎ ((g < f) ⊎ (f < g)) → (g ≡ f) ⊎ ¬ (g ≡ f)
    go (inl e) = inl e
    go (inr (inl l)) = inr (λ e. omega arith)
    go (inr (inr l)) = inr (λ e. omega arith)

-- the bits of w | 2^f and of w ^ 2^f, at another field and at f
or_other : (w f g : ℕ) → ¬ (g ≡ f) → (bit_or w (2 ^ f) / 2 ^ g) % 2 ≡ (w / 2 ^ g) % 2
or_other w f g n = or_bit w (2 ^ f) g ∙ ap (λ (k : ℕ). bit_or ((w / 2 ^ g) % 2) k) (pow_off f g n) ∙ go (two (w / 2 ^ g))
  where
    go : ((w / 2 ^ g) % 2 ≡ 0) ⊎ ((w / 2 ^ g) % 2 ≡ 1) → bit_or ((w / 2 ^ g) % 2) 0 ≡ (w / 2 ^ g) % 2
    go (inl e) = rw e
    go (inr e) = rw e

or_same : (w f : ℕ) → (bit_or w (2 ^ f) / 2 ^ f) % 2 ≡ 1
or_same w f = or_bit w (2 ^ f) f ∙ ap (λ (k : ℕ). bit_or ((w / 2 ^ f) % 2) k) (pow_same f) ∙ go (two (w / 2 ^ f))
  where
    go : ((w / 2 ^ f) % 2 ≡ 0) ⊎ ((w / 2 ^ f) % 2 ≡ 1) → bit_or ((w / 2 ^ f) % 2) 1 ≡ 1
    go (inl e) = rw e
    go (inr e) = rw e

xor_other : (w f g : ℕ) → ¬ (g ≡ f) → (bit_xor w (2 ^ f) / 2 ^ g) % 2 ≡ (w / 2 ^ g) % 2
xor_other w f g n = xor_bit w (2 ^ f) g ∙ ap (λ (k : ℕ). bit_xor ((w / 2 ^ g) % 2) k) (pow_off f g n) ∙ go (two (w / 2 ^ g))
  where
    go : ((w / 2 ^ g) % 2 ≡ 0) ⊎ ((w / 2 ^ g) % 2 ≡ 1) → bit_xor ((w / 2 ^ g) % 2) 0 ≡ (w / 2 ^ g) % 2
    go (inl e) = rw e
    go (inr e) = rw e

xor_same : (w f : ℕ) → Has w f → (bit_xor w (2 ^ f) / 2 ^ f) % 2 ≡ 0
xor_same w f h = xor_bit w (2 ^ f) f ∙ ap₂ (λ (j k : ℕ). bit_xor j k) h (pow_same f)

pub with_or : (w f : ℕ) → With w f (bit_or w (2 ^ f))
with_or w f = record { kept = λ g h. keep g h (same_or_not g f); has = or_same w f; only = λ g h. only' g h (same_or_not g f) }
  where
    keep : (g : ℕ) → Has w g → (g ≡ f) ⊎ ¬ (g ≡ f) → Has (bit_or w (2 ^ f)) g
    keep g h (inl e) = subst (λ (k : ℕ). Has (bit_or w (2 ^ f)) k) (sym e) (or_same w f)
    keep g h (inr n) = or_other w f g n ∙ h

    only' : (g : ℕ) → Has (bit_or w (2 ^ f)) g → (g ≡ f) ⊎ ¬ (g ≡ f) → Has w g ⊎ (g ≡ f)
    only' g h (inl e) = inr e
    only' g h (inr n) = inl (sym (or_other w f g n) ∙ h)

pub without_xor : (w f : ℕ) → Has w f → Without w f (bit_xor w (2 ^ f))
without_xor w f hf = record { within = λ g h. within' g h (same_or_not g f); lost = λ h. let z = xor_same w f hf in omega arith; kept = λ g h. kept' g h (same_or_not g f) }
  where
    within' : (g : ℕ) → Has (bit_xor w (2 ^ f)) g → (g ≡ f) ⊎ ¬ (g ≡ f) → Has w g
    within' g h (inl e) = subst (λ (k : ℕ). Has w k) (sym e) hf
    within' g h (inr n) = sym (xor_other w f g n) ∙ h

    kept' : (g : ℕ) → Has w g → (g ≡ f) ⊎ ¬ (g ≡ f) → Has (bit_xor w (2 ^ f)) g ⊎ (g ≡ f)
    kept' g h (inl e) = inr e
    kept' g h (inr n) = inl (xor_other w f g n ∙ h)

pub without_none : (w f : ℕ) → ¬ Has w f → Without w f w
without_none w f n = record { within = λ g h. h; lost = n; kept = λ g h. inl h }
