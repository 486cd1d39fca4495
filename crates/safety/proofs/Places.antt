-- At most one place owns, and a pristine slot is the only name: what keeps that, over places and numbers alone (o + 1 for the object o, and 0 for none).
use Rattle.std.proofs.Common.{◌≡◌, ℕ, suc, ◌⊎◌, sym, refl, ap, ◌∙◌, subst, inl, inr, arith}
use Rattle.safety.specs.Model.{Spot, Place, at, spot?, place?}
use Rattle.safety.proofs.Update.{at_inj}

abbrev pub Unique : (Place → ℕ) → Type 0
Unique own = (p q : Place) (o : ℕ) → own p ≡ suc o → own q ≡ suc o → p ≡ q

abbrev pub Sole : (Spot → ℕ) → (Place → ℕ) → Type 0
Sole pris name = (s : Spot) (p : Place) (o : ℕ) → pris s ≡ suc o → name p ≡ suc o → p ≡ at s

-- no more than
abbrev pub Sub : ℕ → ℕ → Type 0
Sub n a = (n ≡ 0) ⊎ (n ≡ a)

pub sub_suc : {n a o : ℕ} → Sub n a → n ≡ suc o → a ≡ suc o
sub_suc (inl e) h = omega arith
sub_suc (inr e) h = omega arith

pub unique_less : (own own' : Place → ℕ) → ((r : Place) → Sub (own' r) (own r)) → Unique own → Unique own'
unique_less own own' k u p q o h j = u p q o (sub_suc (k p) h) (sub_suc (k q) j)

-- what a and b own changes places, and nothing is gained
module _ (own own' : Place → ℕ) (a b : Place)
    (ka : Sub (own' a) (own b)) (kb : Sub (own' b) (own a)) (k : (r : Place) → ¬ (r ≡ a) → ¬ (r ≡ b) → Sub (own' r) (own r)) where
  data From (r r₀ : Place) : Type 0 where
    first : r ≡ a → r₀ ≡ b → From r r₀
    second : r ≡ b → r₀ ≡ a → From r r₀
    other : ¬ (r ≡ a) → ¬ (r ≡ b) → r₀ ≡ r → From r r₀

  from_inj : (p q r : Place) → From p r → From q r → p ≡ q
  from_inj p q r (first x y) (first x' y') = cc
  from_inj p q r (first x y) (second x' y') = cc
  from_inj p q r (first x y) (other n m y') = absurd (m (cc))
  from_inj p q r (second x y) (first x' y') = cc
  from_inj p q r (second x y) (second x' y') = cc
  from_inj p q r (second x y) (other n m y') = absurd (n (cc))
  from_inj p q r (other n m y) (first x' y') = absurd (m (cc))
  from_inj p q r (other n m y) (second x' y') = absurd (n (cc))
  from_inj p q r (other n m y) (other n' m' y') = cc

  from : (r : Place) (o : ℕ) → own' r ≡ suc o → (r₀ : Place) × (own r₀ ≡ suc o) × From r r₀
  from r o h = go (place? r a) (place? r b)
    where
      go : Dec (r ≡ a) → Dec (r ≡ b) → (r₀ : Place) × (own r₀ ≡ suc o) × From r r₀
      go (yes e) d = (b, sub_suc ka (ap own' (sym e) ∙ h), first e refl)
      go (no n) (yes e) = (a, sub_suc kb (ap own' (sym e) ∙ h), second e refl)
      go (no n) (no m) = (r, sub_suc (k r n m) h, other n m refl)

  pub unique_swap : Unique own → Unique own'
  unique_swap u p q o h j =
      let x = from p o h in let y = from q o j in
      let e : y.0 ≡ x.0 = u y.0 x.0 o y.1 x.1 in
      from_inj p q x.0 x.2 (subst (λ (r : Place). From q r) e y.2)

-- a new object
pub unique_new : (own own' : Place → ℕ) (b : Place) (n : ℕ) → own' b ≡ suc n → ((r : Place) → ¬ (r ≡ b) → Sub (own' r) (own r))
    → ((r : Place) → ¬ (own r ≡ suc n)) → Unique own → Unique own'
unique_new own own' b n kb k fresh u p q o h j = go (place? p b) (place? q b)
  where
    go : Dec (p ≡ b) → Dec (q ≡ b) → p ≡ q
    go (yes x) (yes y) = x ∙ sym y
    go (yes x) (no m) = let e : own q ≡ suc o = sub_suc (k q m) j in let e' : own' b ≡ suc o = ap own' (sym x) ∙ h in let i : own q ≡ suc n = omega arith in absurd (fresh q i)
    go (no m) (yes y) = let e : own p ≡ suc o = sub_suc (k p m) h in let e' : own' b ≡ suc o = ap own' (sym y) ∙ j in let i : own p ≡ suc n = omega arith in absurd (fresh p i)
    go (no m) (no l) = u p q o (sub_suc (k p m) h) (sub_suc (k q l) j)

-- names may be gained from a place q that is not pristine
pub sole_gain : (pris pris' : Spot → ℕ) (name name' : Place → ℕ) (q : Place) → ((s : Spot) → Sub (pris' s) (pris s))
    → ((s : Spot) → q ≡ at s → pris' s ≡ 0) → ((r : Place) → Sub (name' r) (name r) ⊎ (name' r ≡ name q)) → Sole pris name → Sole pris' name'
sole_gain pris pris' name name' q k plain kn u s p o h j = go (kn p)
  where
    h₀ : pris s ≡ suc o
    h₀ = sub_suc (k s) h

    go : Sub (name' p) (name p) ⊎ (name' p ≡ name q) → p ≡ at s
    go (inl x) = u s p o h₀ (sub_suc x j)
    go (inr x) = let e : pris' s ≡ 0 = plain s (u s q o h₀ (sym x ∙ j)) in let z : ⊥ = omega arith in absurd z

-- a pristine slot's reference goes to another slot
pub sole_move : (pris pris' : Spot → ℕ) (name name' : Place → ℕ) (x z : Spot) → name' (at x) ≡ 0 → pris' x ≡ 0 → Sub (pris' z) (pris x) → Sub (name' (at z)) (name (at x))
    → ((s : Spot) → ¬ (s ≡ x) → ¬ (s ≡ z) → Sub (pris' s) (pris s)) → ((r : Place) → ¬ (r ≡ at x) → ¬ (r ≡ at z) → Sub (name' r) (name r)) → Sole pris name → Sole pris' name'
sole_move pris pris' name name' x z nx px pz nz k kn u s p o h j = go (place? p (at x)) (place? p (at z)) (spot? s x) (spot? s z)
  where
    go : Dec (p ≡ at x) → Dec (p ≡ at z) → Dec (s ≡ x) → Dec (s ≡ z) → p ≡ at s
    go (yes e) d d' d'' = let i : name' p ≡ 0 = ap name' e ∙ nx in let z : ⊥ = omega arith in absurd z
    go (no n) d (yes e) d'' = let i : pris' s ≡ 0 = ap pris' e ∙ px in let z : ⊥ = omega arith in absurd z
    go (no n) (yes e) (no m) (yes e') = e ∙ ap at (sym e')
    go (no n) (yes e) (no m) (no l) = absurd (m (sym (at_inj (u s (at x) o (sub_suc (k s m l) h) (sub_suc nz (ap name' (sym e) ∙ j))))))
    go (no n) (no i) (no m) (yes e') = absurd (n (u x p o (sub_suc pz (ap pris' (sym e') ∙ h)) (sub_suc (kn p n i) j)))
    go (no n) (no i) (no m) (no l) = u s p o (sub_suc (k s m l) h) (sub_suc (kn p n i) j)

-- a new object, named by one slot
pub sole_new : (pris pris' : Spot → ℕ) (name name' : Place → ℕ) (z : Spot) (n : ℕ) → pris' z ≡ suc n → ((s : Spot) → ¬ (s ≡ z) → Sub (pris' s) (pris s))
    → name' (at z) ≡ suc n → ((r : Place) → ¬ (r ≡ at z) → Sub (name' r) (name r)) → ((r : Place) → ¬ (name r ≡ suc n)) → ((s : Spot) → ¬ (pris s ≡ suc n)) → Sole pris name → Sole pris' name'
sole_new pris pris' name name' z n pz k nz kn fresh fresh_p u s p o h j = go (place? p (at z)) (spot? s z)
  where
    go : Dec (p ≡ at z) → Dec (s ≡ z) → p ≡ at s
    go (yes e) (yes e') = e ∙ ap at (sym e')
    go (yes e) (no m) = let a : name' (at z) ≡ suc o = ap name' (sym e) ∙ j in let b : pris s ≡ suc o = sub_suc (k s m) h in let i : pris s ≡ suc n = omega arith in absurd (fresh_p s i)
    go (no m) (yes e') = let a : pris' z ≡ suc o = ap pris' (sym e') ∙ h in let b : name p ≡ suc o = sub_suc (kn p m) j in let i : name p ≡ suc n = omega arith in absurd (fresh p i)
    go (no m) (no l) = u s p o (sub_suc (k s l) h) (sub_suc (kn p m) j)
