-- The reading block by block gives the verdict of the reading record by record.
use Rattle.std.proofs.Common.{◌≡◌, ℕ, zero, suc, ◌+◌, ◌-◌, ◌<◌, ◌≤◌, Bool, true, false, cond, not, ◌&&◌, eqb, ltb, leb, List, [], ◌∷◌, ◌++◌, length, take, drop, Some, None, Ok, Err, Option, sym, refl, ap, ◌∙◌, append_assoc, append-nil, arith, length-append, length-drop, length-set, take-append-drop, length-take, drop-drop}
use Rattle.std.proofs.lemmas.Bool.{eqb-false, eq-eqb, and_parts, not-true, cond-true, le-leb, leb-true, ltb-true}
use Rattle.std.proofs.lemmas.Bool.Decides.{nat_tests}
use Rattle.table.specs.declared.types.Ty.{Ty}
use Rattle.table.specs.declared.records.Test.{Test}
use Rattle.table.specs.declared.records.Test.TheVariants.{Nil, Same, Equal, Less, Link, Unlink, Swap, Try, Fix, Stable}
use Rattle.table.specs.Faults.{◌>>=◌, Passes}
use Rattle.table.specs.Records.{Op}
use Rattle.table.specs.Program.{Function, Program}
use Rattle.rules.specs.Rules.{Premise, first, premises, bound, yes_types}
use Rattle.rules.specs.Scopes.{Block, Yes, No, state, end_of, depth, in_no, in_yes, placed, close, Shape, Plain, Last, Joins, Asks, shape, grown, move, asked, refusal, after, settled, read, start}
use Rattle.rules.specs.declared.parts.Sort.{Sort}
use Rattle.rules.specs.declared.parts.Sort.TheVariants.{InBody}
use Rattle.rules.specs.Scan.{sort_of, is_no, is_yes, fitting, judge, test_by, follow, follow_of, scan, ScanStands}
use Rattle.rules.proofs.Steps.{first_append, first_cons}
use Rattle.rules.proofs.Blocks.{close_stays, close_no, close_yes, close_turn}

-- where records stand, by what is left of their block
pub last_left : (i n e : ℕ) → e ≡ suc i + n → eqb (suc i) e ≡ eqb n 0
last_left i n e h = grind (arith, nat_tests)

pub leb_left : (i m n e : ℕ) → e ≡ suc i + n → leb (suc i + m) e ≡ leb m n
leb_left i m n e h = grind (arith, nat_tests)

pub ltb_left : (i m n e : ℕ) → e ≡ suc i + n → ltb (suc i + m) e ≡ ltb m n
ltb_left i m n e h = grind (arith, nat_tests)

pub levels_left : (l n : ℕ) → l + n ≡ 7 → ltb n 7 ≡ not (eqb l 0)
levels_left l n h = grind (arith, nat_tests)

pub no_sort : (bs : List Block) → in_no bs ≡ is_no (sort_of bs)
no_sort [] = refl
no_sort (Yes k e s ∷ bs) = refl
no_sort (No e s ∷ bs) = refl

pub yes_sort : (n : ℕ) (bs : List Block) → in_yes n bs ≡ is_yes n (sort_of bs)
yes_sort n [] = refl
yes_sort n (Yes k e s ∷ bs) = refl
yes_sort n (No e s ∷ bs) = refl

pub fitting_is : (size i l n : ℕ) (bs : List Block) (sh : Shape) → end_of size bs ≡ suc i + n → l + length bs ≡ 7 → placed size i bs sh ≡ fitting l n (sort_of bs) sh
fitting_is size i l n bs Plain h g = cc (last_left i n (end_of size bs) h, no_sort bs)
fitting_is size i l n bs Last h g = last_left i n (end_of size bs) h
fitting_is size i l n bs (Joins c) h g = cc (last_left i n (end_of size bs) h, yes_sort c bs)
fitting_is size i l n bs (Asks t a b) h g =
    let e : suc i + a + b ≡ suc i + (a + b) = omega arith in
    let x : leb (suc i + a + b) (end_of size bs) ≡ leb (a + b) n = ap (λ m. leb m (end_of size bs)) e ∙ leb_left i (a + b) n (end_of size bs) h in
    let y : ltb (suc i + a + b) (end_of size bs) ≡ ltb (a + b) n = ap (λ m. ltb m (end_of size bs)) e ∙ ltb_left i (a + b) n (end_of size bs) h in
    cc (x, y, levels_left l (length bs) g, no_sort bs)

-- the last two premises against the one
pub first_two : (qs : List Premise) (a b c : Bool) → a ≡ c → b ≡ true → first (qs ++ ((28, a) ∷ (29, b) ∷ [])) ≡ first (qs ++ ((28, c) ∷ []))
first_two [] a b c e h = cc
first_two (q ∷ qs) a b c e h = ap (λ o. cond q.1 o (Some q.0)) (first_two qs a b c e h)

pub yes_length : (p : Program) (fn : Function) (ts : List Ty) (t : Test) → length (yes_types p fn ts t) ≡ length ts
yes_length p fn ts (Nil x) = refl
yes_length p fn ts (Same x y) = refl
yes_length p fn ts (Equal x y) = refl
yes_length p fn ts (Less x y) = refl
yes_length p fn ts (Link x f y g) = refl
yes_length p fn ts (Unlink x f y g) = length-set ts y _
yes_length p fn ts (Swap x f y w) = length-set ts y _
yes_length p fn ts (Try x f y) = length-set ts x _
yes_length p fn ts (Fix x f y) = length-set ts x _
yes_length p fn ts (Stable x f) = length-set ts x _

pub grown_more : (ts : List Ty) (o : Option Ty) → length ts ≤ length (grown ts o)
grown_more ts None = omega arith
grown_more ts (Some t) = omega (arith, length-append ts (t ∷ []))

abbrev Answer : Type 0
Answer = Passes

pub then_assoc : (x y z : Answer) → ((x >>= λ _. y) >>= λ _. z) ≡ (x >>= λ _. (y >>= λ _. z))
then_assoc (Ok u) y z = refl
then_assoc (Err e) y z = refl

pub then_done : (x : Answer) → (x >>= λ _. Ok tt) ≡ x
then_done (Ok tt) = refl
then_done (Err e) = refl

-- behind a body there is nothing
abbrev pub Tail : List Block → List (Option Op) → Type 0
Tail [] rest = rest ≡ []
Tail (b ∷ bs) rest = Unit {0}

module _ (p : Program) (fn : Function) (k : ℕ) where
  abbrev size : ℕ
  size = length fn.records

  -- what is asked of a record by its blocks, and by what is left of the innermost one
  pub judged_same : (i l n : ℕ) (ts : List Ty) (bs : List Block) (op : Op) → end_of size bs ≡ suc i + n → l + length bs ≡ 7 → depth bs ≤ length ts
      → first (asked p fn i (state ts bs) op) ≡ judge p fn k l n (sort_of bs) ts (Some op)
  judged_same i l n ts bs op ends levels deep =
      first_two (premises p fn ts op) (placed size i bs (shape op)) (leb (depth bs) (length ts)) (fitting l n (sort_of bs) (shape op))
      (fitting_is size i l n bs (shape op) ends levels) (le-leb (depth bs) (length ts) deep)

  pub close_any : (n : ℕ) (ts us : List Ty) (bs : List Block) (rest : List (Option Op)) → end_of size bs ≡ n → Tail bs rest → read p fn k n (close n ts bs) rest ≡ read p fn k n (close n us bs) rest
  close_any n ts us [] rest h e = rw e refl
  close_any n ts us (Yes c e s ∷ bs) rest h t =
      ap (λ S. read p fn k n S rest) (cond-true (eqb e n) _ _ (eq-eqb e n h) ∙ sym (cond-true (eqb e n) _ _ (eq-eqb e n h)))
  close_any n ts us (No e s ∷ bs) rest h t =
      ap (λ S. read p fn k n S rest) (cond-true (eqb e n) _ _ (eq-eqb e n h) ∙ sym (cond-true (eqb e n) _ _ (eq-eqb e n h)))

  -- a block's records from i on, with the stack that it stands in
  pub record At (i l : ℕ) (ts : List Ty) (bs : List Block) (rs rest : List (Option Op)) : Type 0 where
    pub ends : end_of size bs ≡ i + length rs
    pub levels : l + length bs ≡ 7
    pub deep : depth bs ≤ length ts
    pub tail : Tail bs rest

  abbrev pub Behind : ℕ → List Ty → List Block → List (Option Op) → List (Option Op) → Answer
  Behind i ts bs rs rest = read p fn k (i + length rs) (close (i + length rs) ts bs) rest

  abbrev pub Reads : ℕ → Type 0
  Reads f = (i l : ℕ) (ts : List Ty) (bs : List Block) (rs rest : List (Option Op)) → length rs < f → At i l ts bs rs rest
      → read p fn k i (close i ts bs) (rs ++ rest) ≡ (scan p fn k f l i ts (sort_of bs) rs >>= λ _. Behind i ts bs rs rest)

  pub scan_none : (f l i : ℕ) (ts : List Ty) (q : Sort) → scan p fn k f l i ts q [] ≡ Ok tt
  scan_none zero l i ts q = refl
  scan_none (suc f) l i ts q = refl

  pub at_index : (m n : ℕ) (ts : List Ty) (bs : List Block) (rest : List (Option Op)) → m ≡ n → read p fn k m (close m ts bs) rest ≡ read p fn k n (close n ts bs) rest
  at_index m n ts bs rest e = ap (λ x. read p fn k x (close x ts bs) rest) e

  module _ (f : ℕ) (go : Reads f) where
    -- the no block, if there is one
    pub second : (e l b : ℕ) (us ts : List Ty) (bs : List Block) (rs rest : List (Option Op)) → b ≤ length rs → length rs < f → l + suc (length bs) ≡ 7
        → read p fn k e (close e us (Yes b e ts ∷ bs)) (rs ++ rest)
        ≡ (scan p fn k f l e ts (sort_of (No (e + b) ts ∷ bs)) (take b rs) >>= λ _. read p fn k (e + b) (close (e + b) ts bs) (drop b rs ++ rest))
    second e l zero us ts bs rs rest h low v =
        ap (λ S. read p fn k e S (rs ++ rest)) (close_yes e 0 e us ts bs refl refl)
        ∙ at_index e (e + 0) ts bs (rs ++ rest) (omega arith)
        ∙ ap (λ x. x >>= λ _. read p fn k (e + 0) (close (e + 0) ts bs) (rs ++ rest)) (sym (scan_none f l e ts (sort_of (No (e + 0) ts ∷ bs))))
    second e l (suc b) us ts bs rs rest h low v =
        let N : List Block = No (e + suc b) ts ∷ bs in
        let len : length (take (suc b) rs) ≡ suc b = length-take (suc b) rs ∙ omega arith in
        let turn : close e us (Yes (suc b) e ts ∷ bs) ≡ close e ts N =
        close_turn e (suc b) e us ts bs refl (λ z. omega arith) ∙ sym (close_stays size e ts N (omega arith))
        in
        let split : rs ++ rest ≡ take (suc b) rs ++ (drop (suc b) rs ++ rest) =
        ap (λ l. l ++ rest) (sym (take-append-drop (suc b) rs)) ∙ append_assoc (take (suc b) rs) (drop (suc b) rs) rest
        in
        let one = go e l ts N (take (suc b) rs) (drop (suc b) rs ++ rest) (omega arith)
        (record { ends = omega arith; levels = v; deep = omega arith; tail = tt })
        in
        let two : Behind e ts N (take (suc b) rs) (drop (suc b) rs ++ rest) ≡ read p fn k (e + suc b) (close (e + suc b) ts bs) (drop (suc b) rs ++ rest) =
        at_index (e + length (take (suc b) rs)) (e + suc b) ts N (drop (suc b) rs ++ rest) (omega arith)
        ∙ ap (λ S. read p fn k (e + suc b) S (drop (suc b) rs ++ rest)) (close_no (e + suc b) (e + suc b) ts ts bs refl)
        in
        ap (λ S. read p fn k e S (rs ++ rest)) turn
        ∙ ap (λ l. read p fn k e (close e ts N) l) split
        ∙ one
        ∙ ap (λ y. scan p fn k f l e ts (sort_of N) (take (suc b) rs) >>= λ _. y) two

    pub cond_le : (q : Bool) (m n : ℕ) → cond q (leb m n) (ltb m n) ≡ true → m ≤ n
    cond_le true m n h = leb-true m n h
    cond_le false m n h = omega (arith, ltb-true m n h)

    pub tested : (i l : ℕ) (ts : List Ty) (bs : List Block) (t : Test) (a b : ℕ) (r : Option Op) (rs rest : List (Option Op)) → length rs < f → At i l ts bs (r ∷ rs) rest
        → fitting l (length rs) (sort_of bs) (Asks t a b) ≡ true
        → read p fn k (suc i) (state (yes_types p fn ts t) (Yes b (suc i + a) ts ∷ bs)) (rs ++ rest)
        ≡ (test_by p fn k (scan p fn k f) l i ts (sort_of bs) t a b rs >>= λ _. Behind i ts bs (r ∷ rs) rest)
    tested i l ts bs t a b r rs rest low w h =
        let c = and_parts (not (eqb a 0) && cond (is_no (sort_of bs)) (leb (a + b) (length rs)) (ltb (a + b) (length rs))) (not (eqb l 0)) h in
        let d = and_parts (not (eqb a 0)) (cond (is_no (sort_of bs)) (leb (a + b) (length rs)) (ltb (a + b) (length rs))) c.0 in
        let za : a ≡ 0 → ⊥ = eqb-false a 0 (not-true (eqb a 0) d.0) in
        let zl : l ≡ 0 → ⊥ = eqb-false l 0 (not-true (eqb l 0) c.1) in
        let room : a + b ≤ length rs = cond_le (is_no (sort_of bs)) (a + b) (length rs) d.1 in
        let us : List Ty = yes_types p fn ts t in
        let Y : List Block = Yes b (suc i + a) ts ∷ bs in
        let e : ℕ = suc i + a in
        let len : length (take a rs) ≡ a = length-take a rs ∙ omega arith in
        let len2 : length (drop a rs) ≡ length rs - a = length-drop a rs in
        let len3 : length (drop (a + b) rs) ≡ length rs - (a + b) = length-drop (a + b) rs in
        let lv : (l - 1) + suc (length bs) ≡ 7 = omega (arith, w.levels) in
        let split : rs ++ rest ≡ take a rs ++ (drop a rs ++ rest) = ap (λ l. l ++ rest) (sym (take-append-drop a rs)) ∙ append_assoc (take a rs) (drop a rs) rest in
        let one = go (suc i) (l - 1) us Y (take a rs) (drop a rs ++ rest) (omega arith)
        (record { ends = omega arith; levels = lv; deep = omega (arith, yes_length p fn ts t); tail = tt })
        in
        let X = scan p fn k f (l - 1) (suc i) us (sort_of Y) (take a rs) in
        let X2 = scan p fn k f (l - 1) e ts (sort_of (No (e + b) ts ∷ bs)) (take b (drop a rs)) in
        let X3 = scan p fn k f l (e + b) ts (sort_of bs) (drop (a + b) rs) in
        let K = Behind i ts bs (r ∷ rs) rest in
        let two : Behind (suc i) us Y (take a rs) (drop a rs ++ rest) ≡ (X2 >>= λ _. read p fn k (e + b) (close (e + b) ts bs) (drop b (drop a rs) ++ rest)) =
        at_index (suc i + length (take a rs)) e us Y (drop a rs ++ rest) (omega arith) ∙ second e (l - 1) b us ts bs (drop a rs) rest (omega arith) (omega arith) lv
        in
        let three : read p fn k (e + b) (close (e + b) ts bs) (drop b (drop a rs) ++ rest) ≡ (X3 >>= λ _. K) =
        ap (λ l. read p fn k (e + b) (close (e + b) ts bs) (l ++ rest)) (drop-drop b a rs)
        ∙ go (e + b) l ts bs (drop (a + b) rs) rest (omega arith) (record { ends = omega (arith, w.ends); levels = w.levels; deep = w.deep; tail = w.tail })
        ∙ ap (λ y. X3 >>= λ _. y) (at_index (e + b + length (drop (a + b) rs)) (i + suc (length rs)) ts bs rest (omega arith))
        in
        ap (λ S. read p fn k (suc i) S (rs ++ rest)) (sym (close_stays size (suc i) us Y (omega arith)))
        ∙ ap (λ l. read p fn k (suc i) (close (suc i) us Y) l) split
        ∙ one
        ∙ ap (λ y. X >>= λ _. y) (two ∙ ap (λ y. X2 >>= λ _. y) three)
        ∙ ap (λ y. X >>= λ _. y) (sym (then_assoc X2 X3 K))
        ∙ sym (then_assoc X (X2 >>= λ _. X3) K)

    -- any other record
    pub passed : (i l : ℕ) (ts zs : List Ty) (bs : List Block) (r : Option Op) (rs rest : List (Option Op)) → length rs < f → At i l ts bs (r ∷ rs) rest → length ts ≤ length zs
        → read p fn k (suc i) (close (suc i) zs bs) (rs ++ rest) ≡ (scan p fn k f l (suc i) zs (sort_of bs) rs >>= λ _. Behind i ts bs (r ∷ rs) rest)
    passed i l ts zs bs r rs rest low w more =
        let n : suc i + length rs ≡ i + suc (length rs) = omega arith in
        go (suc i) l zs bs rs rest low (record { ends = omega (arith, w.ends); levels = w.levels; deep = omega (arith, w.deep); tail = w.tail })
        ∙ ap (λ y. scan p fn k f l (suc i) zs (sort_of bs) rs >>= λ _. y)
        (at_index (suc i + length rs) (i + suc (length rs)) zs bs rest n ∙ close_any (i + suc (length rs)) zs ts bs rest w.ends w.tail)

    pub followed : (i l : ℕ) (ts zs : List Ty) (bs : List Block) (sh : Shape) (r : Option Op) (rs rest : List (Option Op)) → length rs < f → At i l ts bs (r ∷ rs) rest → length ts ≤ length zs
        → fitting l (length rs) (sort_of bs) sh ≡ true
        → read p fn k (suc i) (move i (state ts bs) zs (yes_types p fn ts) sh) (rs ++ rest) ≡ (follow p fn k (scan p fn k f) l i ts zs (sort_of bs) sh rs >>= λ _. Behind i ts bs (r ∷ rs) rest)
    followed i l ts zs bs Plain r rs rest low w more h = passed i l ts zs bs r rs rest low w more
    followed i l ts zs bs Last r rs rest low w more h = passed i l ts zs bs r rs rest low w more
    followed i l ts zs bs (Joins n) r rs rest low w more h = passed i l ts zs bs r rs rest low w more
    followed i l ts zs bs (Asks t a b) r rs rest low w more h = tested i l ts bs t a b r rs rest low w h

    -- a record that is refused, and one that is not
    pub decided : (i l : ℕ) (ts : List Ty) (bs : List Block) (r : Option Op) (rs rest : List (Option Op)) → length rs < f → At i l ts bs (r ∷ rs) rest → (o : Option Op)
        → (settled (refusal p fn i (state ts bs) o) k i >>= λ _. read p fn k (suc i) (after p fn i (state ts bs) o) (rs ++ rest))
        ≡ ((settled (judge p fn k l (length rs) (sort_of bs) ts o) k i >>= λ _. follow_of p fn k (scan p fn k f) l i ts (sort_of bs) o rs) >>= λ _. Behind i ts bs (r ∷ rs) rest)
    decided i l ts bs r rs rest low w None = refl
    decided i l ts bs r rs rest low w (Some op) =
        let same = judged_same i l (length rs) ts bs op (omega (arith, w.ends)) w.levels w.deep in
        ap (λ v. settled v k i >>= λ _. read p fn k (suc i) (after p fn i (state ts bs) (Some op)) (rs ++ rest)) same
        ∙ by (judge p fn k l (length rs) (sort_of bs) ts (Some op)) refl
      where
        by : (v : Option ℕ) → judge p fn k l (length rs) (sort_of bs) ts (Some op) ≡ v
            → (settled v k i >>= λ _. read p fn k (suc i) (after p fn i (state ts bs) (Some op)) (rs ++ rest))
            ≡ ((settled v k i >>= λ _. follow_of p fn k (scan p fn k f) l i ts (sort_of bs) (Some op) rs) >>= λ _. Behind i ts bs (r ∷ rs) rest)
        by (Some n) e = refl
        by None e =
            let a = first_append (premises p fn ts op) ((28, fitting l (length rs) (sort_of bs) (shape op)) ∷ []) e in
            let b = first_cons (28, fitting l (length rs) (sort_of bs) (shape op)) [] a.1 in
            followed i l ts (grown ts (bound p fn ts op)) bs (shape op) r rs rest low w (grown_more ts (bound p fn ts op)) b.0

  pub reads : (f : ℕ) → Reads f
  reads zero i l ts bs rs rest h w = absurd (omega arith)
  reads (suc f) i l ts bs [] rest h w = at_index i (i + 0) ts bs rest (omega arith)
  reads (suc f) i l ts bs (r ∷ rs) rest h w =
      ap (λ S. read p fn k i S (r ∷ (rs ++ rest))) (close_stays size i ts bs (omega (arith, w.ends)))
      ∙ decided f (reads f) i l ts bs r rs rest (omega arith) w r

pub scan_stands : ScanStands
scan_stands p fn k f h =
    let a = reads p fn k f 0 7 fn.params [] fn.records [] h (record { ends = omega arith; levels = refl; deep = omega arith; tail = refl }) in
    ap (λ l. read p fn k 0 (start p fn) l) (sym (append-nil fn.records)) ∙ a ∙ then_done (scan p fn k f 7 0 fn.params InBody fn.records)
