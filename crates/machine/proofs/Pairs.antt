-- Clash answers the first pair of threads that touch one field, or that there is none.
use Rattle.std.proofs.Common.{◌≡◌, ℕ, zero, suc, ◌+◌, ◌<◌, ◌≤◌, Bool, true, false, ◌&&◌, eqb, ◌⊎◌, List, [], ◌∷◌, get_or, Some, None, Option, sym, refl, ap, ◌∙◌, subst, ap₂, inl, inr, arith}
use Rattle.std.proofs.lemmas.Bool.{eqb-true, eq-eqb, and_parts, and_from, cases_Bool, cond-true, cond-false}
use Rattle.table.specs.Program.{Program}
use Rattle.memory.specs.Model.{Store}
use Rattle.machine.specs.declared.clashing.Clash.{Clash}
use Rattle.machine.specs.World.{Task, no_task}
use Rattle.machine.specs.Clashes.{touch, meets, partner, or_else, clash_from, FirstClash, ClashLaw}

abbrev pair : ℕ → ℕ → ℕ × ℕ → Clash
pair k l t = record { lower = k; higher = l; object = t.0; field = t.1 }

abbrev same : ℕ × ℕ → ℕ × ℕ → Bool
same t u = eqb t.0 u.0 && eqb t.1 u.1

same_true : (t u : ℕ × ℕ) → same t u ≡ true → u ≡ t
same_true t u h = let a = and_parts _ _ h in ap₂ (λ (x y : ℕ). (x, y)) (sym (eqb-true _ _ a.0)) (sym (eqb-true _ _ a.1))

true_same : (t u : ℕ × ℕ) → u ≡ t → same t u ≡ true
true_same t u e = and_from _ _ (eq-eqb _ _ (ap (λ (x : ℕ × ℕ). x.0) (sym e))) (eq-eqb _ _ (ap (λ (x : ℕ × ℕ). x.1) (sym e)))

not_both : {X : Type 0} (b : Bool) → b ≡ true → b ≡ false → X
not_both b h k = let e : ◌≡◌ {A = Bool} true false = sym h ∙ k in let z : ◌≡◌ {A = ℕ} 0 1 = cc in absurd (omega arith)

not_some : {X Y : Type 0} (x : Y) → ◌≡◌ {A = Option Y} None (Some x) → X
not_some x e = let z : ◌≡◌ {A = ℕ} 0 1 = cc in absurd (omega arith)

-- one thread against another
meets_none : (k l : ℕ) (t : ℕ × ℕ) (w : Option (ℕ × ℕ)) (rest : Option Clash) → meets k l t w rest ≡ None → (rest ≡ None) × (w ≡ Some t → ⊥)
meets_none k l t None rest h = (h, λ e. not_some t e)
meets_none k l t (Some u) rest h = elim (cases_Bool (same t u)) [
  | inl q ↦ not_some (pair k l t) (sym h ∙ cond-true (same t u) (Some (pair k l t)) rest q)
  | inr q ↦ (sym (cond-false (same t u) (Some (pair k l t)) rest q) ∙ h, λ e. let d : u ≡ t = cc in not_both (same t u) (true_same t u d) q)
]

meets_some : (k l : ℕ) (t : ℕ × ℕ) (w : Option (ℕ × ℕ)) (rest : Option Clash) (c : Clash) → meets k l t w rest ≡ Some c
    → ((w ≡ Some t) × (pair k l t ≡ c)) ⊎ ((rest ≡ Some c) × (w ≡ Some t → ⊥))
meets_some k l t None rest c h = inr (h, λ e. not_some t e)
meets_some k l t (Some u) rest c h = elim (cases_Bool (same t u)) [
  | inl q ↦ (let e : Some (pair k l t) ≡ Some c = sym (cond-true (same t u) (Some (pair k l t)) rest q) ∙ h in
      let d : pair k l t ≡ c = cc in inl (ap (λ (x : ℕ × ℕ). Some x) (same_true t u q), d))
  | inr q ↦ inr (sym (cond-false (same t u) (Some (pair k l t)) rest q) ∙ h, λ e. let d : u ≡ t = cc in not_both (same t u) (true_same t u d) q)
]

or_none : (a b : Option Clash) → or_else a b ≡ None → (a ≡ None) × (b ≡ None)
or_none None b h = (refl, h)
or_none (Some x) b h = not_some x (sym h)

or_some : (a b : Option Clash) (c : Clash) → or_else a b ≡ Some c → (a ≡ Some c) ⊎ ((a ≡ None) × (b ≡ Some c))
or_some None b c h = inr (refl, h)
or_some (Some x) b c h = inl h

module _ (p : Program) (m : Store) where
  abbrev At : List Task → ℕ → ℕ × ℕ → Type 0
  At ts b t = touch p m (get_or ts b no_task) ≡ Some t

  -- thread k, which touches t, against those from l on
  partner_none : (k l : ℕ) (t : ℕ × ℕ) (us : List Task) → partner p m k (Some t) l us ≡ None → (b : ℕ) → At us b t → ⊥
  partner_none k l t [] h b e = not_some t e
  partner_none k l t (u ∷ us) h zero e = (meets_none k l t (touch p m u) (partner p m k (Some t) (suc l) us) h).1 e
  partner_none k l t (u ∷ us) h (suc b) e = partner_none k (suc l) t us (meets_none k l t (touch p m u) (partner p m k (Some t) (suc l) us) h).0 b e

  record Found (k l : ℕ) (t : ℕ × ℕ) (us : List Task) (c : Clash) : Type 0 where
    place : ℕ
    is : pair k (l + place) t ≡ c
    there : At us place t
    least : (b : ℕ) → At us b t → place ≤ b

  partner_some : (k l : ℕ) (t : ℕ × ℕ) (us : List Task) (c : Clash) → partner p m k (Some t) l us ≡ Some c → Found k l t us c
  partner_some k l t [] c h = not_some c h
  partner_some k l t (u ∷ us) c h = elim (meets_some k l t (touch p m u) (partner p m k (Some t) (suc l) us) c h) [
    | inl q ↦ record { place = 0; is = ap (λ (n : ℕ). pair k n t) (omega arith) ∙ q.1; there = q.0; least = λ b _. omega arith }
    | inr q ↦ (let r = partner_some k (suc l) t us c q.0 in
        record { place = suc r.place; is = ap (λ (n : ℕ). pair k n t) (omega arith) ∙ r.is; there = r.there; least = later r q.1 })
  ]
    where
      later : (r : Found k (suc l) t us c) → (touch p m u ≡ Some t → ⊥) → (b : ℕ) → At (u ∷ us) b t → suc r.place ≤ b
      later r n zero e = absurd (n e)
      later r n (suc b) e = let a = r.least b e in omega arith

  -- all pairs of threads from k on
  none_from : (k : ℕ) (ts : List Task) → clash_from p m k ts ≡ None → (a b : ℕ) (t : ℕ × ℕ) → a < b → At ts a t → At ts b t → ⊥
  none_from k [] h a b t l e f = not_some t e
  none_from k (u ∷ us) h zero zero t l e f = absurd (omega arith)
  none_from k (u ∷ us) h zero (suc b) t l e f =
      partner_none k (suc k) t us (subst (λ (w : Option (ℕ × ℕ)). partner p m k w (suc k) us ≡ None) e (or_none (partner p m k (touch p m u) (suc k) us) (clash_from p m (suc k) us) h).0) b f
  none_from k (u ∷ us) h (suc a) zero t l e f = absurd (omega arith)
  none_from k (u ∷ us) h (suc a) (suc b) t l e f =
      none_from (suc k) us (or_none (partner p m k (touch p m u) (suc k) us) (clash_from p m (suc k) us) h).1 a b t (omega arith) e f

  record First (k : ℕ) (ts : List Task) (c : Clash) : Type 0 where
    low : ℕ
    high : ℕ
    touched : ℕ × ℕ
    is : pair (k + low) (k + high) touched ≡ c
    ordered : low < high
    by_low : At ts low touched
    by_high : At ts high touched
    first : (a b : ℕ) (t : ℕ × ℕ) → a < b → At ts a t → At ts b t → (low < a) ⊎ ((low ≡ a) × (high ≤ b))

  -- the first thread has a partner
  first_here : (k : ℕ) (u : Task) (us : List Task) (c : Clash) (w : Option (ℕ × ℕ)) → touch p m u ≡ w → partner p m k w (suc k) us ≡ Some c → First k (u ∷ us) c
  first_here k u us c None e h = not_some c h
  first_here k u us c (Some t) e h =
      let r = partner_some k (suc k) t us c h in
      record { low = 0; high = suc r.place; touched = t; is = ap₂ (λ (x y : ℕ). pair x y t) (omega arith) (omega arith) ∙ r.is; ordered = omega arith; by_low = e; by_high = r.there; first = first r }
    where
      first : (r : Found k (suc k) t us c) (a b : ℕ) (s : ℕ × ℕ) → a < b → At (u ∷ us) a s → At (u ∷ us) b s → (0 < a) ⊎ ((0 ≡ a) × (suc r.place ≤ b))
      first r zero zero s l f g = absurd (omega arith)
      first r zero (suc b) s l f g =
          let q : Some s ≡ Some t = sym f ∙ e in
          let d : s ≡ t = cc in
          let n = r.least b (subst (λ (x : ℕ × ℕ). At us b x) d g) in inr (refl, omega arith)
      first r (suc a) b s l f g = inl (omega arith)

  first_from : (k : ℕ) (ts : List Task) (c : Clash) → clash_from p m k ts ≡ Some c → First k ts c
  first_from k [] c h = not_some c h
  first_from k (u ∷ us) c h = elim (or_some (partner p m k (touch p m u) (suc k) us) (clash_from p m (suc k) us) c h) [
    | inl q ↦ first_here k u us c (touch p m u) refl q
    | inr q ↦ (let r = first_from (suc k) us c q.1 in
        record {
          low = suc r.low;
          high = suc r.high;
          touched = r.touched;
          is = ap₂ (λ (x y : ℕ). pair x y r.touched) (omega arith) (omega arith) ∙ r.is;
          ordered = let o = r.ordered in omega arith;
          by_low = r.by_low;
          by_high = r.by_high;
          first = first r q.0;
        })
  ]
    where
      first : (r : First (suc k) us c) → partner p m k (touch p m u) (suc k) us ≡ None → (a b : ℕ) (t : ℕ × ℕ) → a < b → At (u ∷ us) a t → At (u ∷ us) b t
          → (suc r.low < a) ⊎ ((suc r.low ≡ a) × (suc r.high ≤ b))
      first r n zero zero t l f g = absurd (omega arith)
      first r n zero (suc b) t l f g = absurd (partner_none k (suc k) t us (subst (λ (w : Option (ℕ × ℕ)). partner p m k w (suc k) us ≡ None) f n) b g)
      first r n (suc a) zero t l f g = absurd (omega arith)
      first r n (suc a) (suc b) t l f g = elim (r.first a b t (omega arith) f g) [
        | inl x ↦ inl (omega arith)
        | inr x ↦ (let y = x.0 in let z = x.1 in inr (omega arith, omega arith))
      ]

pub clash_law : ClashLaw
clash_law p W = (
  none_from p W.memory 0 W.tasks,
  λ c h.
      let r = first_from p W.memory 0 W.tasks c h in
      let z : pair r.low r.high r.touched ≡ c = ap₂ (λ (x y : ℕ). pair x y r.touched) (omega arith) (omega arith) ∙ r.is in
      subst (FirstClash p W) z (record { ordered = r.ordered; by_lower = r.by_low; by_higher = r.by_high; first = r.first }),
)
