-- Blocks are nested, and each ends where its test says.
use Rattle.std.proofs.Common.{◌≡◌, ℕ, zero, suc, ◌+◌, ◌-◌, ◌<◌, ◌≤◌, true, false, not, ◌&&◌, eqb, ltb, ◌⊎◌, List, [], ◌∷◌, ◌++◌, length, Some, None, refl, ap, ◌∙◌, subst, inl, inr, add-zero, add-suc, arith}
use mathlib.Core.Path.{subst⁻¹}
use Rattle.std.proofs.lemmas.Bool.{ltb-true, leb-true, eqb-true, eqb-false, eq-eqb, ne_eqb, cases_lt, cases_eq, and_parts, not-true, cond-true, cond-false}
use Rattle.table.specs.declared.types.Ty.{Ty}
use Rattle.table.specs.declared.records.Test.{Test}
use Rattle.table.specs.Records.{Ask, Join}
use Rattle.table.specs.Program.{Function, Program}
use Rattle.rules.specs.Rules.{record_at, yes_types}
use Rattle.rules.specs.Scopes.{Block, Yes, No, State, state, end, reach, end_of, in_yes, close, Shape, Plain, Last, Joins, Asks, shape, inside, placed, move, refusal, before}
use Rattle.rules.specs.Blocks.{Accepted, Tests, Nested, Still, Ended, TwoBlocks, Joined, BlocksStand, JoinsStand}
use Rattle.rules.proofs.Steps.{good, after_good, before_suc}

pub end_reach : (b : Block) → end b ≤ reach b
end_reach (Yes k e s) = omega arith
end_reach (No e s) = omega arith

pub inside_le : (size n : ℕ) (bs : List Block) → inside size n bs ≡ true → n ≤ end_of size bs
inside_le size n [] h = omega (arith, ltb-true n size h)
inside_le size n (Yes k e s ∷ bs) h = omega (arith, ltb-true n e h)
inside_le size n (No e s ∷ bs) h = leb-true n e h

pub nested_ends : (size : ℕ) (inner base : List Block) → Nested size (inner ++ base) → end_of size (inner ++ base) ≤ end_of size base
nested_ends size [] base h = omega arith
nested_ends size (b ∷ inner) base h =
    omega (arith, end_reach b, inside_le size (reach b) (inner ++ base) h.0, nested_ends size inner base h.1)

pub nested_base : (size : ℕ) (inner base : List Block) → Nested size (inner ++ base) → Nested size base
nested_base size [] base h = h
nested_base size (b ∷ inner) base h = nested_base size inner base h.1

-- what stays inside nested blocks stays inside the body, and never reaches its end
pub inside_size : (size n : ℕ) (bs : List Block) → Nested size bs → inside size n bs ≡ true → n < size
inside_size size n [] h k = ltb-true n size k
inside_size size n (b ∷ bs) h k = omega (arith, inside_le size n (b ∷ bs) k, end_reach b, inside_size size (reach b) bs h.1 h.0)

pub nested_size : (size : ℕ) (bs : List Block) → Nested size bs → end_of size bs ≤ size
nested_size size [] h = omega arith
nested_size size (b ∷ bs) h = omega (arith, end_reach b, inside_size size (reach b) bs h.1 h.0)

pub close_stays : (size n : ℕ) (ts : List Ty) (bs : List Block) → n < end_of size bs → close n ts bs ≡ state ts bs
close_stays size n ts [] h = refl
close_stays size n ts (Yes k e s ∷ bs) h = cond-false (eqb e n) _ _ (ne_eqb e n (λ q. omega arith))
close_stays size n ts (No e s ∷ bs) h = cond-false (eqb e n) _ _ (ne_eqb e n (λ q. omega arith))

pub close_no : (n e : ℕ) (ts s : List Ty) (bs : List Block) → e ≡ n → close n ts (No e s ∷ bs) ≡ close n s bs
close_no n e ts s bs q = cond-true (eqb e n) _ _ (eq-eqb e n q)

pub close_yes : (n k e : ℕ) (ts s : List Ty) (bs : List Block) → e ≡ n → k ≡ 0 → close n ts (Yes k e s ∷ bs) ≡ close n s bs
close_yes n k e ts s bs q z = cond-true (eqb e n) _ _ (eq-eqb e n q) ∙ cond-true (eqb k 0) _ _ (eq-eqb k 0 z)

pub close_turn : (n k e : ℕ) (ts s : List Ty) (bs : List Block) → e ≡ n → (k ≡ 0 → ⊥) → close n ts (Yes k e s ∷ bs) ≡ state s (No (n + k) s ∷ bs)
close_turn n k e ts s bs q z = cond-true (eqb e n) _ _ (eq-eqb e n q) ∙ cond-false (eqb k 0) _ _ (ne_eqb k 0 z)

-- what closing leaves of the blocks over a base
abbrev Way : ℕ → List Block → ℕ → State → Type 0
Way size base n S = Still size base n S ⊎ Ended size base n S

pub over : (size n : ℕ) (ts : List Ty) (inner base : List Block) → Nested size (inner ++ base) → n ≤ end_of size (inner ++ base) → Way size base n (close n ts (inner ++ base))
over size n ts [] base h l =
    elim (cases_lt n (end_of size base)) [
      | inl q ↦ inl (record { inner = []; stack = ap (λ S. S.blocks) (close_stays size n ts base q); nested = h; low = q })
      | inr q ↦ inr (record { types = ts; there = omega arith; is = refl })
    ]
over size n ts (Yes k e s ∷ inner) base h l =
    elim (cases_lt n e) [
      | inl q ↦ inl (record { inner = Yes k e s ∷ inner; stack = ap (λ S. S.blocks) (close_stays size n ts (Yes k e s ∷ (inner ++ base)) q); nested = h; low = q })
      | inr q ↦
          let d : e ≡ n = omega arith in
          elim (cases_eq k 0) [
            | inl z ↦ subst⁻¹ (Way size base n) (close_yes n k e ts s (inner ++ base) d z)
                (over size n s inner base h.1 (omega (arith, inside_le size (e + k) (inner ++ base) h.0)))
            | inr z ↦ subst⁻¹ (Way size base n) (close_turn n k e ts s (inner ++ base) d z)
                (let f : e + k ≡ n + k = omega arith in
                inl (record { inner = No (n + k) s ∷ inner; stack = refl; nested = (subst (λ m. inside size m (inner ++ base) ≡ true) f h.0, h.1); low = omega arith }))
          ]
    ]
over size n ts (No e s ∷ inner) base h l =
    elim (cases_lt n e) [
      | inl q ↦ inl (record { inner = No e s ∷ inner; stack = ap (λ S. S.blocks) (close_stays size n ts (No e s ∷ (inner ++ base)) q); nested = h; low = q })
      | inr q ↦
          let d : e ≡ n = omega arith in
          subst⁻¹ (Way size base n) (close_no n e ts s (inner ++ base) d)
          (over size n s inner base h.1 (omega (arith, inside_le size e (inner ++ base) h.0)))
    ]

-- one record on
pub moved : (size i : ℕ) (base : List Block) (S : State) (ts : List Ty) (us : Test → List Ty) (sh : Shape) → Still size base i S → placed size i S.blocks sh ≡ true → Way size base (suc i) (move i S ts us sh)
moved size i base S ts us Plain w h =
    subst⁻¹ (λ bs. Way size base (suc i) (close (suc i) ts bs)) w.stack (over size (suc i) ts w.inner base w.nested w.low)
moved size i base S ts us Last w h =
    subst⁻¹ (λ bs. Way size base (suc i) (close (suc i) ts bs)) w.stack (over size (suc i) ts w.inner base w.nested w.low)
moved size i base S ts us (Joins n) w h =
    subst⁻¹ (λ bs. Way size base (suc i) (close (suc i) ts bs)) w.stack (over size (suc i) ts w.inner base w.nested w.low)
moved size i base S ts us (Asks t a b) w h =
    let c = and_parts (not (eqb a 0) && inside size (suc i + a + b) S.blocks) (ltb (length S.blocks) 7) h in
    let d = and_parts (not (eqb a 0)) (inside size (suc i + a + b) S.blocks) c.0 in
    let z : a ≡ 0 → ⊥ = eqb-false a 0 (not-true (eqb a 0) d.0) in
    inl (record {
      inner = Yes b (suc i + a) S.types ∷ w.inner;
      stack = ap (λ bs. Yes b (suc i + a) S.types ∷ bs) w.stack;
      nested = (subst (λ bs. inside size (suc i + a + b) bs ≡ true) w.stack d.1, w.nested);
      low = omega arith;
    })

pub stepped_at : (p : Program) (fn : Function) (base : List Block) (i : ℕ) → i < length fn.records → refusal p fn i (before p fn i) (record_at fn i) ≡ None
    → Still (length fn.records) base i (before p fn i) → Way (length fn.records) base (suc i) (before p fn (suc i))
stepped_at p fn base i l ok w =
    let g = good p fn i (before p fn i) (record_at fn i) ok in
    subst⁻¹ (Way (length fn.records) base (suc i)) (before_suc p fn i l ∙ after_good p fn i (before p fn i) (record_at fn i) g)
    (moved (length fn.records) i base (before p fn i) _ _ (shape g.op) w g.place)

module _ (p : Program) (fn : Function) (ok : Accepted p fn) where
  abbrev size : ℕ
  size = length fn.records

  pub stepped : (base : List Block) (i : ℕ) → i < size → Still size base i (before p fn i) → Way size base (suc i) (before p fn (suc i))
  stepped base i l w = stepped_at p fn base i l (ok i l) w

  -- a block stays open up to its end
  pub base_low : (base : List Block) (i : ℕ) (S : State) → Still size base i S → (i < end_of size base) × (i < size)
  base_low base i S w =
      let a = nested_ends size w.inner base w.nested in
      let b = nested_size size (w.inner ++ base) w.nested in
      (omega (arith, w.low), omega (arith, w.low))

  pub onward : (base : List Block) (m : ℕ) → Still size base m (before p fn m) → (j : ℕ) → m + j < end_of size base → Still size base (m + j) (before p fn (m + j))
  onward base m w zero l = subst⁻¹ (λ k. Still size base k (before p fn k)) (add-zero m) w
  onward base m w (suc j) l =
      let v = onward base m w j (omega arith) in
      subst⁻¹ (λ k. Still size base k (before p fn k)) (add-suc m j)
      (elim (stepped base (m + j) (base_low base (m + j) (before p fn (m + j)) v).1 v) [
        | inl x ↦ x
        | inr x ↦ absurd (omega (arith, x.there))
      ])

  pub within : (base : List Block) (m k : ℕ) → Still size base m (before p fn m) → m ≤ k → k < end_of size base → Still size base k (before p fn k)
  within base m k w l h =
      let e : m + (k - m) ≡ k = omega arith in
      subst (λ n. Still size base n (before p fn n)) e (onward base m w (k - m) (omega arith))

  -- and ends there
  pub ended : (base : List Block) (m k : ℕ) → Still size base m (before p fn m) → k ≡ end_of size base → Ended size base k (before p fn k)
  ended base m zero w e = absurd (omega (arith, (base_low base m (before p fn m) w).0))
  ended base m (suc k) w e =
      let v = within base m k w (omega (arith, (base_low base m (before p fn m) w).0)) (omega arith) in
      elim (stepped base k (base_low base k (before p fn k) v).1 v) [
        | inl x ↦ absurd (omega (arith, (base_low base (suc k) (before p fn (suc k)) x).0))
        | inr x ↦ x
      ]

  -- the body itself
  pub in_body : (i : ℕ) → i < size → Still size [] i (before p fn i)
  in_body i l = within [] 0 i (record { inner = []; stack = refl; nested = tt; low = omega arith }) (omega arith) l

  pub nested_at : (i : ℕ) → i < size → Nested size (before p fn i).blocks × (i < end_of size (before p fn i).blocks)
  nested_at i l =
      let w = in_body i l in
      (subst⁻¹ (Nested size) w.stack w.nested, subst⁻¹ (λ bs. i < end_of size bs) w.stack w.low)

  -- a yes block, from any record in it
  pub record Leaves (b e : ℕ) (ts : List Ty) (bs : List Block) : Type 0 where
    pub turns : 0 < b → before p fn e ≡ state ts (No (e + b) ts ∷ bs)
    pub in_no : (k : ℕ) → e ≤ k → k < e + b → Still size (No (e + b) ts ∷ bs) k (before p fn k)
    pub back : before p fn (e + b) ≡ close (e + b) ts bs
    pub room : e + b < size

  pub leaves : (b e m : ℕ) (ts : List Ty) (bs : List Block) → Still size (Yes b e ts ∷ bs) m (before p fn m) → Leaves b e ts bs
  leaves b e m ts bs w =
      let nest = nested_base size w.inner (Yes b e ts ∷ bs) w.nested in
      let x = ended (Yes b e ts ∷ bs) m e w refl in
      let turn : (b ≡ 0 → ⊥) → before p fn e ≡ state ts (No (e + b) ts ∷ bs) = λ z. x.is ∙ close_turn e b e x.types ts bs refl z in
      let open_no : (b ≡ 0 → ⊥) → Still size (No (e + b) ts ∷ bs) e (before p fn e) =
      λ z. record { inner = []; stack = ap (λ S. S.blocks) (turn z); nested = nest; low = omega arith }
      in
      record {
        turns = λ h. turn (λ z. omega arith);
        in_no = λ k l h. within (No (e + b) ts ∷ bs) e k (open_no (λ z. omega arith)) l h;
        back = elim (cases_eq b 0) [
          | inl z ↦
              let f : e + b ≡ e = omega arith in
              subst⁻¹ (λ n. before p fn n ≡ close n ts bs) f (x.is ∙ close_yes e b e x.types ts bs refl z)
          | inr z ↦
              let y = ended (No (e + b) ts ∷ bs) e (e + b) (open_no z) refl in
              y.is ∙ close_no (e + b) (e + b) y.types ts bs refl
        ];
        room = inside_size size (e + b) bs nest.1 nest.0;
      }

  pub begun : (i : ℕ) (t : Test) (a b : ℕ) → Tests fn i t a b → before p fn (suc i) ≡ state (yes_types p fn (before p fn i).types t) (Yes b (suc i + a) (before p fn i).types ∷ (before p fn i).blocks)
  begun i t a b q = before_suc p fn i q.0 ∙ ap (Rattle.rules.specs.Scopes.after p fn i (before p fn i)) q.1

  pub test_placed : (i : ℕ) (t : Test) (a b : ℕ) → Tests fn i t a b → placed size i (before p fn i).blocks (Asks t a b) ≡ true
  test_placed i t a b q =
      let g = good p fn i (before p fn i) (record_at fn i) (ok i q.0) in
      let e : g.op ≡ Ask t a b = cc (g.is, q.1) in
      subst (λ op. placed size i (before p fn i).blocks (shape op) ≡ true) e g.place

  pub two_blocks : (i : ℕ) (t : Test) (a b : ℕ) → Tests fn i t a b → TwoBlocks p fn i t a b
  two_blocks i t a b q =
      let S = before p fn i in
      let h = test_placed i t a b q in
      let c = and_parts (not (eqb a 0) && inside size (suc i + a + b) S.blocks) (ltb (length S.blocks) 7) h in
      let d = and_parts (not (eqb a 0)) (inside size (suc i + a + b) S.blocks) c.0 in
      let z : a ≡ 0 → ⊥ = eqb-false a 0 (not-true (eqb a 0) d.0) in
      let w : Still size (Yes b (suc i + a) S.types ∷ S.blocks) (suc i) (before p fn (suc i)) =
      record { inner = []; stack = ap (λ R. R.blocks) (begun i t a b q); nested = (d.1, (nested_at i q.0).0); low = omega arith }
      in
      let l = leaves b (suc i + a) (suc i) S.types S.blocks w in
      record {
        begins = begun i t a b q;
        in_yes = λ k l h. within (Yes b (suc i + a) S.types ∷ S.blocks) (suc i) k w l h;
        in_no = l.in_no;
        turns = l.turns;
        comes_back = l.back;
        room = l.room;
      }

  pub in_yes_is : (n j : ℕ) (bs : List Block) → (eqb (suc j) (end_of size bs) && in_yes n bs) ≡ true → (s : List Ty) × (cs : List Block) × (bs ≡ Yes n (suc j) s ∷ cs)
  in_yes_is n j [] h = let c = and_parts (eqb (suc j) size) false h in let z : ◌≡◌ {A = ℕ} 0 1 = cc c.1 in absurd (omega arith)
  in_yes_is n j (Yes k e s ∷ bs) h =
      let c = and_parts (eqb (suc j) e) (eqb n k) h in
      let x = eqb-true (suc j) e c.0 in
      let y = eqb-true n k c.1 in
      (s, bs, cc)
  in_yes_is n j (No e s ∷ bs) h = let c = and_parts (eqb (suc j) e) false h in let z : ◌≡◌ {A = ℕ} 0 1 = cc c.1 in absurd (omega arith)

  pub joined : (j n : ℕ) → j < size → record_at fn j ≡ Some (Join n) → Joined p fn j n
  joined j n l q =
      let S = before p fn j in
      let g = good p fn j S (record_at fn j) (ok j l) in
      let e : g.op ≡ Join n = cc (g.is, q) in
      let h : placed size j S.blocks (Joins n) ≡ true = subst (λ op. placed size j S.blocks (shape op) ≡ true) e g.place in
      let y = in_yes_is n j S.blocks h in
      let nest = subst (λ bs. Nested size bs × (j < end_of size bs)) y.2 (nested_at j l) in
      let w : Still size (Yes n (suc j) y.0 ∷ y.1) j S = record { inner = []; stack = y.2; nested = nest.0; low = nest.1 } in
      let v = leaves n (suc j) j y.0 y.1 w in
      record { back = y.0; outer = y.1; block = y.2; leads = v.back; room = v.room }

pub blocks_stand : BlocksStand
blocks_stand p fn ok i t a b q = two_blocks p fn ok i t a b q

pub joins_stand : JoinsStand
joins_stand p fn ok j n l q = joined p fn ok j n l q
