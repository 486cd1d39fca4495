-- A body record by record: what an accepted record says, and the state behind it.
use Rattle.std.proofs.Common.{◌≡◌, ℕ, zero, suc, ◌+◌, ◌<◌, Bool, true, false, cond, leb, List, [], ◌∷◌, ◌++◌, length, get_or, Some, None, Ok, Err, Option, sym, refl, ap, ◌∙◌, add-zero, zero-add, arith}
use Rattle.table.specs.Faults.{◌>>=◌, Passes}
use Rattle.table.specs.Records.{Op}
use Rattle.table.specs.Program.{Function, Program}
use Rattle.rules.specs.Rules.{Premise, first, premises, bound, yes_types, no_function, record_at}
use Rattle.rules.specs.Scopes.{State, shape, placed, grown, move, placing, refusal, after, walk, settled, read, start, before, depth, bodies}
use Rattle.rules.specs.Blocks.{Accepted, VerdictStands}

-- premises that all hold
pub first_cons : (q : Premise) (qs : List Premise) → first (q ∷ qs) ≡ None → (q.1 ≡ true) × (first qs ≡ None)
first_cons q qs h = go q.1 refl h
  where
    go : (t : Bool) → q.1 ≡ t → cond t (first qs) (Some q.0) ≡ None → (q.1 ≡ true) × (first qs ≡ None)
    go true e k = (e, k)
    go false e k = let z : ◌≡◌ {A = ℕ} 0 1 = cc in absurd (omega arith)

pub first_append : (xs ys : List Premise) → first (xs ++ ys) ≡ None → (first xs ≡ None) × (first ys ≡ None)
first_append [] ys h = (refl, h)
first_append (q ∷ xs) ys h =
    let a = first_cons q (xs ++ ys) h in
    let b = first_append xs ys a.1 in
    (rw a.0 b.0, b.1)

-- what is known of a record that is not refused
pub record Good (p : Program) (fn : Function) (i : ℕ) (S : State) (r : Option Op) : Type 0 where
  pub op : Op
  pub is : r ≡ Some op
  pub held : first (premises p fn S.types op) ≡ None
  pub place : placed (length fn.records) i S.blocks (shape op) ≡ true
  pub deep : leb (depth S.blocks) (length S.types) ≡ true

pub good : (p : Program) (fn : Function) (i : ℕ) (S : State) (r : Option Op) → refusal p fn i S r ≡ None → Good p fn i S r
good p fn i S r h = go r refl h
  where
    go : (o : Option Op) → r ≡ o → refusal p fn i S o ≡ None → Good p fn i S r
    go None e k = let z : ◌≡◌ {A = ℕ} 0 1 = cc in absurd (omega arith)
    go (Some op) e k =
        let a = first_append (premises p fn S.types op) (placing p fn i S op) k in
        let b : (placed (length fn.records) i S.blocks (shape op) ≡ true) × (first ((29, leb (depth S.blocks) (length S.types)) ∷ []) ≡ None) =
        first_cons (28, placed (length fn.records) i S.blocks (shape op)) ((29, leb (depth S.blocks) (length S.types)) ∷ []) a.1
        in
        let c = first_cons (29, leb (depth S.blocks) (length S.types)) [] b.1 in
        record { op = op; is = e; held = a.0; place = b.0; deep = c.0 }

pub after_good : (p : Program) (fn : Function) (i : ℕ) (S : State) (r : Option Op) (g : Good p fn i S r)
    → after p fn i S r ≡ move i S (grown S.types (bound p fn S.types g.op)) (yes_types p fn S.types) (shape g.op)
after_good p fn i S r g = ap (after p fn i S) g.is

module _ (p : Program) (fn : Function) where
  pub walk_suc : (i : ℕ) (S : State) (rs : List (Option Op)) (m : ℕ) → m < length rs → walk p fn i S rs (suc m) ≡ after p fn (i + m) (walk p fn i S rs m) (get_or rs m None)
  walk_suc i S [] m h = absurd (omega arith)
  walk_suc i S (r ∷ rs) zero h = ap (λ n. after p fn n S r) (sym (add-zero i))
  walk_suc i S (r ∷ rs) (suc m) h =
      let e : suc i + m ≡ i + suc m = omega arith in
      walk_suc (suc i) (after p fn i S r) rs m (omega arith) ∙ ap (λ n. after p fn n (walk p fn (suc i) (after p fn i S r) rs m) (get_or rs m None)) e

  pub before_suc : (m : ℕ) → m < length fn.records → before p fn (suc m) ≡ after p fn m (before p fn m) (record_at fn m)
  before_suc m h = walk_suc 0 (start p fn) fn.records m h ∙ ap (λ n. after p fn n (before p fn m) (record_at fn m)) (zero-add m)

  pub settle : (o : Option ℕ) (k i : ℕ) (next : Passes) → (settled o k i >>= λ _. next) ≡ Ok tt → (o ≡ None) × (next ≡ Ok tt)
  settle None k i next h = (refl, h)
  settle (Some n) k i next h = let z : ◌≡◌ {A = ℕ} 0 1 = cc in absurd (omega arith)

  pub read_on : (k i : ℕ) (S : State) (rs : List (Option Op)) → read p fn k i S rs ≡ Ok tt → (m : ℕ) → m < length rs → refusal p fn (i + m) (walk p fn i S rs m) (get_or rs m None) ≡ None
  read_on k i S [] h m l = absurd (omega arith)
  read_on k i S (r ∷ rs) h zero l =
      ap (λ n. refusal p fn n S r) (add-zero i) ∙ (settle (refusal p fn i S r) k i _ h).0
  read_on k i S (r ∷ rs) h (suc m) l =
      let e : i + suc m ≡ suc i + m = omega arith in
      ap (λ n. refusal p fn n (walk p fn (suc i) (after p fn i S r) rs m) (get_or rs m None)) e
      ∙ read_on k (suc i) (after p fn i S r) rs (settle (refusal p fn i S r) k i _ h).1 m (omega arith)

  pub read_accepted : (k : ℕ) → read p fn k 0 (start p fn) fn.records ≡ Ok tt → Accepted p fn
  read_accepted k h i l = ap (λ n. refusal p fn n (before p fn i) (record_at fn i)) (sym (zero-add i)) ∙ read_on k 0 (start p fn) fn.records h i l

pub both_ok : (a : Passes) (b : Passes) → (a >>= λ _. b) ≡ Ok tt → (a ≡ Ok tt) × (b ≡ Ok tt)
both_ok (Ok tt) b h = (refl, h)
both_ok (Err e) b h = let z : ◌≡◌ {A = ℕ} 0 1 = cc in absurd (omega arith)

pub bodies_accepted : (p : Program) (n : ℕ) (fs : List Function) → bodies p n fs ≡ Ok tt → (k : ℕ) → k < length fs → Accepted p (get_or fs k no_function)
bodies_accepted p n [] h k l = absurd (omega arith)
bodies_accepted p n (f ∷ fs) h zero l = read_accepted p f n (both_ok _ _ h).0
bodies_accepted p n (f ∷ fs) h (suc k) l = bodies_accepted p (suc n) fs (both_ok (read p f n 0 (start p f) f.records) _ h).1 k (omega arith)

pub verdict_stands : VerdictStands
verdict_stands p h k l = bodies_accepted p 0 p.functions h k l
