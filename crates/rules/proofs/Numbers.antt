-- The numbers that the rules refuse with.
use Rattle.std.proofs.Common.{◌≡◌, ℕ, zero, suc, ◌+◌, ◌-◌, ◌≤◌, Bool, true, ◌&&◌, leb, List, [], ◌∷◌, ◌++◌, length, take, drop, Some, None, Ok, Err, Option, refl, subst, inl, inr, arith}
use mathlib.Core.Path.{subst⁻¹}
use Rattle.std.proofs.lemmas.Bool.{leb-true, and_parts, and_from, cases_Bool, cond-true, cond-false}
use Rattle.table.specs.declared.types.Ty.{Ty}
use Rattle.table.specs.declared.records.Test.{Test}
use Rattle.table.specs.declared.records.Test.TheVariants.{Nil, Same, Equal, Less, Link, Unlink, Swap, Try, Fix, Stable}
use Rattle.table.specs.Faults.{◌>>=◌, Passes}
use Rattle.table.specs.Records.{Op, New, Null, Int, Share, Own, Get, Take, Set, Add, Call, Fork, Return, Again, Join, Emit, Ask}
use Rattle.table.specs.Program.{Function, Program, both}
use Rattle.rules.specs.Rules.{Premise, first, premises, asks, bound, yes_types}
use Rattle.rules.specs.Scopes.{Shape, Plain, Last, Joins, Asks, shape, grown, settled, read, start, bodies}
use Rattle.rules.specs.declared.parts.Sort.{Sort}
use Rattle.rules.specs.declared.parts.Sort.TheVariants.{InBody, InYes, InNo}
use Rattle.rules.specs.Scan.{fitting, judge, follow, follow_of, scan, NumbersStand}
use Rattle.rules.proofs.Scan.{scan_stands}

abbrev numbered : List Premise → Bool
numbered [] = true
numbered (q ∷ qs) = both 20 28 q.0 && numbered qs

pub numbered_append : (xs ys : List Premise) → numbered xs ≡ true → numbered ys ≡ true → numbered (xs ++ ys) ≡ true
numbered_append [] ys h k = k
numbered_append (x ∷ xs) ys h k =
    let a = and_parts (both 20 28 x.0) (numbered xs) h in
    and_from (both 20 28 x.0) (numbered (xs ++ ys)) a.0 (numbered_append xs ys a.1 k)

abbrev Low : Passes → Type 0
Low (Ok u) = Unit {0}
Low (Err e) = (20 ≤ e.number) × (e.number ≤ 28)

pub low_then : (x y : Passes) → Low x → Low y → Low (x >>= λ _. y)
low_then (Ok u) y h k = k
low_then (Err e) y h k = h

module _ (p : Program) (fn : Function) (k : ℕ) where
  pub first_low : (i : ℕ) (qs : List Premise) → numbered qs ≡ true → Low (settled (first qs) k i)
  first_low i [] h = tt
  first_low i (q ∷ qs) h =
      let a = and_parts (both 20 28 q.0) (numbered qs) h in
      let b = and_parts (leb 20 q.0) (leb q.0 28) a.0 in
      elim (cases_Bool q.1) [
        | inl x ↦ subst⁻¹ (λ o. Low (settled o k i)) (cond-true q.1 (first qs) (Some q.0) x) (first_low i qs a.1)
        | inr x ↦ subst⁻¹ (λ o. Low (settled o k i)) (cond-false q.1 (first qs) (Some q.0) x) (leb-true 20 q.0 b.0, leb-true q.0 28 b.1)
      ]

  pub asks_numbered : (ts : List Ty) (t : Test) → numbered (asks p fn ts t) ≡ true
  asks_numbered ts (Nil a) = refl
  asks_numbered ts (Same a b) = refl
  asks_numbered ts (Equal a b) = refl
  asks_numbered ts (Less a b) = refl
  asks_numbered ts (Link a b c d) = refl
  asks_numbered ts (Unlink a b c d) = refl
  asks_numbered ts (Swap a b c d) = refl
  asks_numbered ts (Try a b c) = refl
  asks_numbered ts (Fix a b c) = refl
  asks_numbered ts (Stable a b) = refl

  pub premises_numbered : (ts : List Ty) (op : Op) → numbered (premises p fn ts op) ≡ true
  premises_numbered ts (New a b) = refl
  premises_numbered ts (Null a b) = refl
  premises_numbered ts (Int a b) = refl
  premises_numbered ts (Share a b) = refl
  premises_numbered ts (Own a b) = refl
  premises_numbered ts (Get a b c) = refl
  premises_numbered ts (Take a b c) = refl
  premises_numbered ts (Set a b c d) = refl
  premises_numbered ts (Add a b c) = refl
  premises_numbered ts (Call a b c) = refl
  premises_numbered ts (Fork a b) = refl
  premises_numbered ts (Return a) = refl
  premises_numbered ts (Again a) = refl
  premises_numbered ts (Join a) = refl
  premises_numbered ts (Emit a) = refl
  premises_numbered ts (Ask t a b) = asks_numbered ts t

  pub judge_low : (l n : ℕ) (q : Sort) (ts : List Ty) (i : ℕ) (o : Option Op) → Low (settled (judge p fn k l n q ts o) k i)
  judge_low l n q ts i None = omega arith
  judge_low l n q ts i (Some op) =
      first_low i (premises p fn ts op ++ ((28, fitting l n q (shape op)) ∷ []))
      (numbered_append (premises p fn ts op) ((28, fitting l n q (shape op)) ∷ []) (premises_numbered ts op) refl)

  pub scan_low : (f l i : ℕ) (ts : List Ty) (q : Sort) (rs : List (Option Op)) → Low (scan p fn k f l i ts q rs)
  scan_low zero l i ts q rs = tt
  scan_low (suc f) l i ts q [] = tt
  scan_low (suc f) l i ts q (r ∷ rs) =
      low_then (settled (judge p fn k l (length rs) q ts r) k i) (follow_of p fn k (scan p fn k f) l i ts q r rs)
      (judge_low l (length rs) q ts i r) (of_op (λ m j us s xs. scan_low f m j us s xs) r)
    where
      by : ((m j : ℕ) (us : List Ty) (s : Sort) (xs : List (Option Op)) → Low (scan p fn k f m j us s xs)) → (zs : List Ty) (sh : Shape) → Low (follow p fn k (scan p fn k f) l i ts zs q sh rs)
      by go zs Plain = go l (suc i) zs q rs
      by go zs Last = go l (suc i) zs q rs
      by go zs (Joins n) = go l (suc i) zs q rs
      by go zs (Asks t a b) =
          low_then (scan p fn k f (l - 1) (suc i) (yes_types p fn ts t) (InYes b) (take a rs)) _ (go (l - 1) (suc i) (yes_types p fn ts t) (InYes b) (take a rs))
          (low_then (scan p fn k f (l - 1) (suc i + a) ts InNo (take b (drop a rs))) (scan p fn k f l (suc i + a + b) ts q (drop (a + b) rs))
          (go (l - 1) (suc i + a) ts InNo (take b (drop a rs)))
          (go l (suc i + a + b) ts q (drop (a + b) rs)))

      of_op : ((m j : ℕ) (us : List Ty) (s : Sort) (xs : List (Option Op)) → Low (scan p fn k f m j us s xs)) → (o : Option Op) → Low (follow_of p fn k (scan p fn k f) l i ts q o rs)
      of_op go None = tt
      of_op go (Some op) = by go (grown ts (bound p fn ts op)) (shape op)

  pub read_low : Low (read p fn k 0 (start p fn) fn.records)
  read_low = subst⁻¹ Low (scan_stands p fn k (suc (length fn.records)) (omega arith)) (scan_low (suc (length fn.records)) 7 0 fn.params InBody fn.records)

pub bodies_low : (p : Program) (k : ℕ) (fs : List Function) → Low (bodies p k fs)
bodies_low p k [] = tt
bodies_low p k (f ∷ fs) = low_then (read p f k 0 (start p f) f.records) (bodies p (suc k) fs) (read_low p f k) (bodies_low p (suc k) fs)

pub numbers_stand : NumbersStand
numbers_stand p e h = subst Low h (bodies_low p 0 p.functions)
