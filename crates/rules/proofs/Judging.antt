-- What a record that is judged says, and the check of a part by its first record.
use Rattle.std.proofs.Common.{◌≡◌, ℕ, zero, suc, ◌+◌, ◌-◌, ◌<◌, ◌≤◌, Bool, true, false, cond, not, ◌&&◌, ◌||◌, eqb, ltb, leb, List, [], ◌∷◌, ◌++◌, length, get_or, take, drop, Some, None, Ok, Err, Option, Result, sym, refl, ap, ◌∙◌, subst, arith, length-drop}
use Rattle.std.proofs.lemmas.Bool.Decides.{nat_tests}
use Rattle.std.proofs.lemmas.List.{take-take, length-take-le, drop_more, drop-take, drop-drop}
use Rattle.std.proofs.lemmas.Bool.{and_parts, ltb-true, eqb-true}
use Rattle.table.specs.declared.fault.Place.TheVariants.{Record}
use Rattle.table.specs.declared.fault.Fault.{Fault}
use Rattle.table.specs.declared.types.Ty.{Ty}
use Rattle.table.specs.declared.records.Test.{Test}
use Rattle.table.specs.declared.records.Test.TheVariants.{Nil, Same, Equal, Less, Link, Unlink, Swap, Try, Fix, Stable}
use Rattle.table.specs.declared.records.Record as declared
use Rattle.table.specs.declared.records.Record.TheVariants as coded
use Rattle.table.specs.Faults.{Passes, fault, required, ◌>>=◌}
use Rattle.table.specs.Records.{Op, New, Null, Int, Share, Own, Get, Take, Set, Add, Call, Fork, Return, Again, Join, Emit, Ask, meant}
use Rattle.table.specs.Program.{Function, Program}
use Rattle.rules.specs.declared.parts.Sort.{Sort}
use Rattle.rules.specs.declared.parts.Sort.TheVariants.{InYes, InNo}
use Rattle.table.specs.Types.{is_pristine, is_var, is_once, is_spec}
use Rattle.rules.specs.Rules.{Premise, first, premises, asks, bound, yes_types, slot, slot_kind, in_scope, has_field, there, field_mode}
use Rattle.rules.specs.Scopes.{Shape, Plain, Last, Joins, Asks, shape, grown, settled}
use Rattle.rules.specs.Scan.{Scanner, is_no, fitting, judge, judged_of, test_by, follow, follow_of, scan}
use Rattle.rules.specs.Scoped.{Low, Changes}
use Rattle.rules.specs.Parts.{span}
use Rattle.rules.proofs.Steps.{first_cons, first_append}
use Rattle.rules.proofs.Types.{premise}

-- fuel that is above some number is one more than some fuel
pub spent : (n f : ℕ) → n < f → (g : ℕ) × (f ≡ suc g) × (n ≤ g)
spent n zero h = absurd (omega arith)
spent n (suc g) h = (g, refl, omega arith)

-- what is left where there is nothing
pub none_left : {X : Type 0} (o : Option X) → ((x : X) → o ≡ Some x → ⊥) → o ≡ None
none_left None h = refl
none_left (Some x) h = absurd (h x refl)

-- the records from place i up to j
module _ (rs : List (Option Op)) where
  pub span_none : (i j : ℕ) → j ≤ i → span rs i j ≡ []
  span_none i j h = let e : j - i ≡ 0 = omega arith in ap (λ (n : ℕ). take n (drop i rs)) e

  pub span_more : (i j : ℕ) → i < j → j ≤ length rs → span rs i j ≡ get_or rs i None ∷ span rs (i + 1) j
  span_more i j h l =
      let e : j - i ≡ suc (j - (i + 1)) = omega arith in
      ap (λ (n : ℕ). take n (drop i rs)) e ∙ ap (λ (xs : List (Option Op)). take (suc (j - (i + 1))) xs) (drop_more rs i None (omega arith))

  pub span_length : (i j : ℕ) → j ≤ length rs → length (span rs i j) ≡ j - i
  span_length i j l = length-take-le (j - i) (drop i rs) (let e = length-drop i rs in omega arith)

  pub span_front : (i j a : ℕ) → i + a ≤ j → take a (span rs i j) ≡ span rs i (i + a)
  span_front i j a h =
      let e : a ≡ (i + a) - i = omega arith in
      take-take a (j - i) (drop i rs) (omega arith) ∙ ap (λ (n : ℕ). take n (drop i rs)) e

  pub span_rest : (i j a : ℕ) → i + a ≤ j → drop a (span rs i j) ≡ span rs (i + a) j
  span_rest i j a h =
      let e : j - i ≡ a + (j - (i + a)) = omega arith in
      ap (λ (n : ℕ). drop a (take n (drop i rs))) e ∙ drop-take a (j - (i + a)) (drop i rs) ∙ ap (λ (xs : List (Option Op)). take (j - (i + a)) xs) (drop-drop a i rs)

  -- the two blocks of a test at the place before i, and what is behind them
  pub yes_span : (i j a b : ℕ) → i + a + b ≤ j → span rs i (i + a) ≡ take a (span rs i j)
  yes_span i j a b h = sym (span_front i j a (omega arith))

  pub no_span : (i j a b : ℕ) → i + a + b ≤ j → span rs (i + a) (i + a + b) ≡ take b (drop a (span rs i j))
  no_span i j a b h = sym (ap (λ (xs : List (Option Op)). take b xs) (span_rest i j a (omega arith)) ∙ span_front (i + a) j b h)

  pub rest_span : (i j a b : ℕ) → i + a + b ≤ j → span rs (i + a + b) j ≡ drop (a + b) (span rs i j)
  rest_span i j a b h =
      let e : i + (a + b) ≡ i + a + b = omega arith in
      sym (span_rest i j (a + b) (omega arith) ∙ ap (λ (n : ℕ). span rs n j) e)

-- premises, and then another
pub first_some : (qs xs : List Premise) (n : ℕ) → first qs ≡ Some n → first (qs ++ xs) ≡ Some n
first_some [] xs n h = let z : ◌≡◌ {A = ℕ} 0 1 = cc in absurd (omega arith)
first_some ((m, true) ∷ qs) xs n h = first_some qs xs n h
first_some ((m, false) ∷ qs) xs n h = h

pub first_none : (qs xs : List Premise) → first qs ≡ None → first (qs ++ xs) ≡ first xs
first_none [] xs h = refl
first_none ((m, true) ∷ qs) xs h = first_none qs xs h
first_none ((m, false) ∷ qs) xs h = let z : ◌≡◌ {A = ℕ} 0 1 = cc in absurd (omega arith)

pub last_fails : (n : ℕ) (b : Bool) → b ≡ false → first ((n, b) ∷ []) ≡ Some n
last_fails n true h = let z : ◌≡◌ {A = ℕ} 0 1 = cc in absurd (omega arith)
last_fails n false h = refl

-- a condition that holds, and one that does not
pub required_ok : {E : Type 0} (b : Bool) (e : E) (u : Unit {0}) → Ok u ≡ required b e → b ≡ true
required_ok true e u h = refl
required_ok false e u h = let z : ◌≡◌ {A = ℕ} 0 1 = cc in absurd (omega arith)

pub required_err : {E : Type 0} (b : Bool) (e f : E) → Err f ≡ required b e → (b ≡ false) × (f ≡ e)
required_err true e f h = let z : ◌≡◌ {A = ℕ} 0 1 = cc in absurd (omega arith)
required_err false e f h = (refl, cc)

pub settled_none : (x : Option ℕ) (k i : ℕ) (u : Unit {0}) → Ok u ≡ settled x k i → x ≡ None
settled_none None k i u h = refl
settled_none (Some n) k i u h = let z : ◌≡◌ {A = ℕ} 0 1 = cc in absurd (omega arith)

-- chains
pub then_again : {A B : Type 0} (x : Passes) (a : A) (go : A → Result B Fault) → (x >>= λ _. go a) ≡ ((x >>= λ _. Ok a) >>= go)
then_again (Ok u) a go = refl
then_again (Err e) a go = refl

pub then_err : {A B : Type 0} (x : Result A Fault) (e : Fault) (go : A → Result B Fault) → Err e ≡ x → Err e ≡ (x >>= go)
then_err x e go h = rw (← h) refl

pub then_taken : {A B : Type 0} (x : Result A Fault) (a : A) (go : A → Result B Fault) → Ok a ≡ x → go a ≡ (x >>= go)
then_taken x a go h = rw (← h) refl

pub settle_ok : (x : Option ℕ) (k i : ℕ) (a b : Op) → Ok b ≡ (settled x k i >>= λ _. Ok a) → (x ≡ None) × (a ≡ b)
settle_ok None k i a b h = (refl, cc)
settle_ok (Some n) k i a b h = let z : ◌≡◌ {A = ℕ} 0 1 = cc in absurd (omega arith)

module _ (p : Program) (fn : Function) where
  -- a field that is there is among the first eight
  pub low_field : ((s : ℕ) → length (get_or p.structs s []) ≤ 8) → (t : Ty) (f : ℕ) → has_field p t f ≡ true → f < 8
  low_field h t f e = let a = ltb-true f (length (get_or p.structs t.strukt [])) e in let b = h t.strukt in omega arith

  -- what an accepted record lets its effect rest on
  pub accepted_low : ((s : ℕ) → length (get_or p.structs s []) ≤ 8) → (ts : List Ty) (op : Op) → first (premises p fn ts op) ≡ None → Low op
  accepted_low h ts (New z s) e = tt
  accepted_low h ts (Null z s) e = tt
  accepted_low h ts (Int z n) e = tt
  accepted_low h ts (Share z x) e = tt
  accepted_low h ts (Own z x) e = tt
  accepted_low h ts (Get z x f) e = tt
  accepted_low h ts (Take z x f) e = tt
  accepted_low h ts (Set z x f y) e =
      low_field h (slot ts x) f (and_parts (there p fn ts x f) (cond (is_pristine (slot_kind p fn ts x)) (not (is_once (field_mode p fn ts x f))) (is_var (field_mode p fn ts x f))) (premise (premises p fn ts (Set z x f y)) e 3)).0
  accepted_low h ts (Add z x y) e = tt
  accepted_low h ts (Call z n args) e = tt
  accepted_low h ts (Fork n args) e = tt
  accepted_low h ts (Return x) e = tt
  accepted_low h ts (Again args) e = tt
  accepted_low h ts (Join n) e = tt
  accepted_low h ts (Emit x) e = tt
  accepted_low h ts (Ask t a b) e = tt

  pub free_low : (ts : List Ty) (z : ℕ) → (eqb z (length ts) && ltb z 16) ≡ true → length ts < 16
  free_low ts z h = let a = and_parts (eqb z (length ts)) (ltb z 16) h in omega (arith, eqb-true z (length ts) a.0, ltb-true z 16 a.1)

  pub accepted_room : (ts : List Ty) (op : Op) (t : Ty) → first (premises p fn ts op) ≡ None → Some t ≡ bound p fn ts op → length ts < 16
  accepted_room ts (New z s) t e b = free_low ts z (premise (premises p fn ts (New z s)) e 0)
  accepted_room ts (Null z s) t e b = free_low ts z (premise (premises p fn ts (Null z s)) e 0)
  accepted_room ts (Int z n) t e b = free_low ts z (premise (premises p fn ts (Int z n)) e 0)
  accepted_room ts (Share z x) t e b = free_low ts z (premise (premises p fn ts (Share z x)) e 0)
  accepted_room ts (Own z x) t e b = free_low ts z (premise (premises p fn ts (Own z x)) e 0)
  accepted_room ts (Get z x f) t e b = free_low ts z (premise (premises p fn ts (Get z x f)) e 0)
  accepted_room ts (Take z x f) t e b = free_low ts z (premise (premises p fn ts (Take z x f)) e 0)
  accepted_room ts (Set z x f y) t e b = free_low ts z (premise (premises p fn ts (Set z x f y)) e 0)
  accepted_room ts (Add z x y) t e b = free_low ts z (premise (premises p fn ts (Add z x y)) e 0)
  accepted_room ts (Call z n args) t e b = free_low ts z (premise (premises p fn ts (Call z n args)) e 0)
  accepted_room ts (Fork n args) t e b = let z : ◌≡◌ {A = ℕ} 0 1 = cc in absurd (omega arith)
  accepted_room ts (Return x) t e b = let z : ◌≡◌ {A = ℕ} 0 1 = cc in absurd (omega arith)
  accepted_room ts (Again args) t e b = let z : ◌≡◌ {A = ℕ} 0 1 = cc in absurd (omega arith)
  accepted_room ts (Join n) t e b = let z : ◌≡◌ {A = ℕ} 0 1 = cc in absurd (omega arith)
  accepted_room ts (Emit x) t e b = let z : ◌≡◌ {A = ℕ} 0 1 = cc in absurd (omega arith)
  accepted_room ts (Ask u m n) t e b = let z : ◌≡◌ {A = ℕ} 0 1 = cc in absurd (omega arith)

  pub two_in : (ts : List Ty) (x y : ℕ) → (in_scope p fn ts x && in_scope p fn ts y) ≡ true → (x < length ts) × (y < length ts)
  two_in ts x y h = let a = and_parts (in_scope p fn ts x) (in_scope p fn ts y) h in (ltb-true x (length ts) a.0, ltb-true y (length ts) a.1)

  pub accepted_changes : ((s : ℕ) → length (get_or p.structs s []) ≤ 8) → (ts : List Ty) (t : Test) → first (asks p fn ts t) ≡ None → Changes ts t
  accepted_changes h ts (Nil x) e = ltb-true x (length ts) (premise (asks p fn ts (Nil x)) e 0)
  accepted_changes h ts (Same x y) e = (two_in ts x y (premise (asks p fn ts (Same x y)) e 0)).0
  accepted_changes h ts (Equal x y) e = (two_in ts x y (premise (asks p fn ts (Equal x y)) e 0)).0
  accepted_changes h ts (Less x y) e = (two_in ts x y (premise (asks p fn ts (Less x y)) e 0)).0
  accepted_changes h ts (Link x f y g) e = (two_in ts x y (and_parts (in_scope p fn ts x && in_scope p fn ts y) (not (eqb x y)) (premise (asks p fn ts (Link x f y g)) e 0)).0).0
  accepted_changes h ts (Unlink x f y g) e =
      let a = and_parts (in_scope p fn ts x && in_scope p fn ts y) (not (eqb x y)) (premise (asks p fn ts (Unlink x f y g)) e 0) in
      let b = and_parts (there p fn ts x f && is_spec (field_mode p fn ts x f) && there p fn ts y g) (not (is_var (field_mode p fn ts y g))) (premise (asks p fn ts (Unlink x f y g)) e 2) in
      let c = and_parts (there p fn ts x f && is_spec (field_mode p fn ts x f)) (there p fn ts y g) b.0 in
      ((two_in ts x y a.0).1, low_field h (slot ts y) g c.1)
  accepted_changes h ts (Swap x f y w) e =
      let d = in_scope p fn ts x && in_scope p fn ts y && in_scope p fn ts w in
      let a = and_parts (d && not (eqb x y) && not (eqb x w)) (not (eqb y w)) (premise (asks p fn ts (Swap x f y w)) e 0) in
      let b = and_parts (d && not (eqb x y)) (not (eqb x w)) a.0 in
      let c = and_parts d (not (eqb x y)) b.0 in
      (two_in ts x y (and_parts (in_scope p fn ts x && in_scope p fn ts y) (in_scope p fn ts w) c.0).0).1
  accepted_changes h ts (Try x f y) e =
      let a = and_parts (in_scope p fn ts x && in_scope p fn ts y) (not (eqb x y)) (premise (asks p fn ts (Try x f y)) e 0) in
      ((two_in ts x y a.0).0, low_field h (slot ts x) f (and_parts (there p fn ts x f) (is_once (field_mode p fn ts x f)) (premise (asks p fn ts (Try x f y)) e 2)).0)
  accepted_changes h ts (Fix x f y) e =
      ((two_in ts x y (premise (asks p fn ts (Fix x f y)) e 0)).0, low_field h (slot ts x) f (and_parts (there p fn ts x f) (is_spec (field_mode p fn ts x f)) (premise (asks p fn ts (Fix x f y)) e 2)).0)
  accepted_changes h ts (Stable x f) e = (
    ltb-true x (length ts) (premise (asks p fn ts (Stable x f)) e 0),
    low_field h (slot ts x) f (and_parts (there p fn ts x f) (is_once (field_mode p fn ts x f) || is_spec (field_mode p fn ts x f)) (premise (asks p fn ts (Stable x f)) e 2)).0,
  )

pub accepted_fits : (levels left : ℕ) (q : Sort) (t : Test) (a b : ℕ) → fitting levels left q (Asks t a b) ≡ true → (a + b ≤ left) × (1 ≤ levels)
accepted_fits levels left q t a b h = elim (is_no q) as (λ n. (not (eqb a 0) && cond n (leb (a + b) left) (ltb (a + b) left) && not (eqb levels 0)) ≡ true → (a + b ≤ left) × (1 ≤ levels)) [
  | true ↦ λ k. (grind (arith, nat_tests), grind (arith, nat_tests))
  | false ↦ λ k. (grind (arith, nat_tests), grind (arith, nat_tests))
] h

-- a record that is no test, by its shape
pub no_test : (P : Shape → Type 0) → P Plain → P Last → ((n : ℕ) → P (Joins n)) → (r : declared.Record) → ((t : Test) (a b : ℕ) → r ≡ coded.Ask t a b → ⊥) → P (shape (meant r))
no_test P plain last joins (coded.New z s) n = plain
no_test P plain last joins (coded.Null z s) n = plain
no_test P plain last joins (coded.Int z x) n = plain
no_test P plain last joins (coded.Share z x) n = plain
no_test P plain last joins (coded.Own z x) n = plain
no_test P plain last joins (coded.Get z x f) n = plain
no_test P plain last joins (coded.Take z x f) n = plain
no_test P plain last joins (coded.Set z x f y) n = plain
no_test P plain last joins (coded.Add z x y) n = plain
no_test P plain last joins (coded.Call z x args) n = plain
no_test P plain last joins (coded.Fork x args) n = plain
no_test P plain last joins (coded.Return x) n = last
no_test P plain last joins (coded.Again args) n = last
no_test P plain last joins (coded.Join x) n = joins x
no_test P plain last joins (coded.Emit x) n = plain
no_test P plain last joins (coded.Ask t a b) n = absurd (n t a b refl)

module _ (p : Program) (fn : Function) (k : ℕ) where
  abbrev judged : ℕ → ℕ → Sort → List Ty → ℕ → Option Op → Result Op Fault
  judged levels left q ts i o = judged_of p fn k levels left q ts i o

  abbrev placed_last : ℕ → ℕ → Sort → Op → List Premise
  placed_last levels left q op = (28, fitting levels left q (shape op)) ∷ []

  -- a record that is refused by its rule, or by its place
  pub judged_refused : (levels left : ℕ) (q : Sort) (ts : List Ty) (i : ℕ) (o : Option Op) (op : Op) (n : ℕ) → Some op ≡ o → Some n ≡ first (premises p fn ts op)
      → Err (fault n (Record k i)) ≡ judged_of p fn k levels left q ts i o
  judged_refused levels left q ts i o op n d h =
      sym (ap (λ (x : Option Op). judged_of p fn k levels left q ts i x) (sym d)
      ∙ ap (λ (x : Option ℕ). settled x k i >>= λ _. Ok op) (first_some (premises p fn ts op) (placed_last levels left q op) n (sym h)))

  pub judged_settled : (levels left : ℕ) (q : Sort) (ts : List Ty) (i : ℕ) (o : Option Op) (op : Op) (x : Option ℕ) (f : Fault) → Some op ≡ o → x ≡ first (premises p fn ts op)
      → Err f ≡ settled x k i → Err f ≡ judged_of p fn k levels left q ts i o
  judged_settled levels left q ts i o op None f d h e = let z : ◌≡◌ {A = ℕ} 0 1 = cc in absurd (omega arith)
  judged_settled levels left q ts i o op (Some n) f d h e = let z : f ≡ fault n (Record k i) = cc in ap Err z ∙ judged_refused levels left q ts i o op n d h

  pub judged_misplaced : (levels left : ℕ) (q : Sort) (ts : List Ty) (i : ℕ) (o : Option Op) (op : Op) → Some op ≡ o → None ≡ first (premises p fn ts op)
      → fitting levels left q (shape op) ≡ false → Err (fault 28 (Record k i)) ≡ judged_of p fn k levels left q ts i o
  judged_misplaced levels left q ts i o op d h b =
      sym (ap (λ (x : Option Op). judged_of p fn k levels left q ts i x) (sym d)
      ∙ ap (λ (x : Option ℕ). settled x k i >>= λ _. Ok op) (first_none (premises p fn ts op) (placed_last levels left q op) (sym h) ∙ last_fails 28 (fitting levels left q (shape op)) b))

  -- what an accepted record keeps
  pub accepted : (levels left : ℕ) (q : Sort) (ts : List Ty) (i : ℕ) (o : Option Op) (op : Op) → Ok op ≡ judged_of p fn k levels left q ts i o
      → (first (premises p fn ts op) ≡ None) × (fitting levels left q (shape op) ≡ true)
  accepted levels left q ts i None op h = let z : ◌≡◌ {A = ℕ} 0 1 = cc in absurd (omega arith)
  accepted levels left q ts i (Some x) op h =
      let a = settle_ok (first (premises p fn ts x ++ placed_last levels left q x)) k i x op h in
      let b = first_append (premises p fn ts x) (placed_last levels left q x) a.0 in
      let c = first_cons (28, fitting levels left q (shape x)) [] b.1 in
      subst (λ (y : Op). (first (premises p fn ts y) ≡ None) × (fitting levels left q (shape y) ≡ true)) a.1 (b.0, c.0)

  pub accepted_test : (levels i j : ℕ) (q : Sort) (ts : List Ty) (o : Option Op) (op : Op) (t : Test) (a b : ℕ) → i < j → op ≡ Ask t a b
      → Ok op ≡ judged_of p fn k levels (j - (i + 1)) q ts i o → (i + 1 + a + b ≤ j) × (1 ≤ levels) × (first (asks p fn ts t) ≡ None)
  accepted_test levels i j q ts o op t a b l e h =
      let g = accepted levels (j - (i + 1)) q ts i o (Ask t a b) (ap Ok (sym e) ∙ h) in
      let f = accepted_fits levels (j - (i + 1)) q t a b g.1 in
      let m : i + 1 + a + b ≤ j = omega arith in
      (m, f.1, g.0)

  -- a part by its first record
  pub step_of : (go : Scanner) (levels i : ℕ) (ts : List Ty) (q : Sort) (o : Option Op) (rest : List (Option Op))
      → (settled (judge p fn k levels (length rest) q ts o) k i >>= λ _. follow_of p fn k go levels i ts q o rest)
      ≡ (judged_of p fn k levels (length rest) q ts i o >>= λ op. follow p fn k go levels i ts (grown ts (bound p fn ts op)) q (shape op) rest)
  step_of go levels i ts q None rest = refl
  step_of go levels i ts q (Some op) rest =
      then_again (settled (judge p fn k levels (length rest) q ts (Some op)) k i) op (λ x. follow p fn k go levels i ts (grown ts (bound p fn ts x)) q (shape x) rest)

  pub scan_step : (f g levels left i : ℕ) (ts : List Ty) (q : Sort) (rs : List (Option Op)) (o : Option Op) (rest : List (Option Op)) → f ≡ suc g → rs ≡ o ∷ rest → length rest ≡ left
      → scan p fn k f levels i ts q rs ≡ (judged_of p fn k levels left q ts i o >>= λ op. follow p fn k (scan p fn k g) levels i ts (grown ts (bound p fn ts op)) q (shape op) rest)
  scan_step f g levels left i ts q rs o rest e d l = rw (e, d, ← l) (step_of (scan p fn k g) levels i ts q o rest)

  pub scan_end : (f g levels i : ℕ) (ts : List Ty) (q : Sort) (rs : List (Option Op)) → f ≡ suc g → rs ≡ [] → Ok tt ≡ scan p fn k f levels i ts q rs
  scan_end f g levels i ts q rs e h = rw (e, h) refl

  pub block_refused : (f g levels left i : ℕ) (ts : List Ty) (q : Sort) (rs : List (Option Op)) (o : Option Op) (rest : List (Option Op)) (e : Fault) → f ≡ suc g → rs ≡ o ∷ rest
      → length rest ≡ left → Err e ≡ judged_of p fn k levels left q ts i o → Err e ≡ scan p fn k f levels i ts q rs
  block_refused f g levels left i ts q rs o rest e a b l j =
      then_err (judged_of p fn k levels left q ts i o) e (λ op. follow p fn k (scan p fn k g) levels i ts (grown ts (bound p fn ts op)) q (shape op) rest) j
      ∙ sym (scan_step f g levels left i ts q rs o rest a b l)

  pub block_taken : (f g levels left i : ℕ) (ts : List Ty) (q : Sort) (rs : List (Option Op)) (o : Option Op) (rest : List (Option Op)) (op : Op) → f ≡ suc g → rs ≡ o ∷ rest
      → length rest ≡ left → Ok op ≡ judged_of p fn k levels left q ts i o
      → follow p fn k (scan p fn k g) levels i ts (grown ts (bound p fn ts op)) q (shape op) rest ≡ scan p fn k f levels i ts q rs
  block_taken f g levels left i ts q rs o rest op a b l j =
      then_taken (judged_of p fn k levels left q ts i o) op (λ x. follow p fn k (scan p fn k g) levels i ts (grown ts (bound p fn ts x)) q (shape x) rest) j
      ∙ sym (scan_step f g levels left i ts q rs o rest a b l)

  -- one that begins with a test
  pub block_asks : (f g levels left i : ℕ) (ts : List Ty) (q : Sort) (rs : List (Option Op)) (o : Option Op) (rest : List (Option Op)) (op : Op) (t : Test) (x y : ℕ) → f ≡ suc g → rs ≡ o ∷ rest
      → length rest ≡ left → op ≡ Ask t x y → Ok op ≡ judged_of p fn k levels left q ts i o
      → test_by p fn k (scan p fn k g) levels i ts q t x y rest ≡ scan p fn k f levels i ts q rs
  block_asks f g levels left i ts q rs o rest op t x y a b l e j = block_taken f g levels left i ts q rs o rest (Ask t x y) a b l (ap Ok (sym e) ∙ j)

  pub follow_on : (go : Scanner) (levels i m : ℕ) (ts zs : List Ty) (q : Sort) (r : declared.Record) (rest : List (Option Op)) → m ≡ suc i → ((t : Test) (a b : ℕ) → r ≡ coded.Ask t a b → ⊥)
      → go levels m zs q rest ≡ follow p fn k go levels i ts zs q (shape (meant r)) rest
  follow_on go levels i m ts zs q r rest e n =
      let h : go levels m zs q rest ≡ go levels (suc i) zs q rest = ap (λ (x : ℕ). go levels x zs q rest) e in
      no_test (λ (sh : Shape). go levels m zs q rest ≡ follow p fn k go levels i ts zs q sh rest) h h (λ x. h) r n

  -- and one that begins with any other record
  pub block_goes : (f g levels left i m : ℕ) (ts us : List Ty) (q : Sort) (rs : List (Option Op)) (o : Option Op) (rest : List (Option Op)) (r : declared.Record) → f ≡ suc g → rs ≡ o ∷ rest
      → length rest ≡ left → m ≡ suc i → us ≡ grown ts (bound p fn ts (meant r)) → ((t : Test) (a b : ℕ) → r ≡ coded.Ask t a b → ⊥) → Ok (meant r) ≡ judged_of p fn k levels left q ts i o
      → scan p fn k g levels m us q rest ≡ scan p fn k f levels i ts q rs
  block_goes f g levels left i m ts us q rs o rest r a b l e u n j =
      ap (λ (vs : List Ty). scan p fn k g levels m vs q rest) u
      ∙ follow_on (scan p fn k g) levels i m ts (grown ts (bound p fn ts (meant r))) q r rest e n
      ∙ block_taken f g levels left i ts q rs o rest (meant r) a b l j

  -- a test by its blocks
  pub test_first : (go : Scanner) (levels i : ℕ) (ts : List Ty) (q : Sort) (t : Test) (a b : ℕ) (rs ys : List (Option Op)) (e : Fault) (i1 : ℕ) → i1 ≡ suc i → ys ≡ take a rs
      → Err e ≡ go (levels - 1) i1 (yes_types p fn ts t) (InYes b) ys → Err e ≡ test_by p fn k go levels i ts q t a b rs
  test_first go levels i ts q t a b rs ys e i1 d y x = let m = rw (d, y) at x in rw (← m) refl

  pub test_second : (go : Scanner) (levels i : ℕ) (us ts : List Ty) (q : Sort) (t : Test) (a b : ℕ) (rs ys ns : List (Option Op)) (e : Fault) (i1 i2 : ℕ) → i1 ≡ suc i → i2 ≡ suc i + a
      → ys ≡ take a rs → ns ≡ take b (drop a rs) → us ≡ ts
      → Ok tt ≡ go (levels - 1) i1 (yes_types p fn ts t) (InYes b) ys
      → Err e ≡ go (levels - 1) i2 us InNo ns → Err e ≡ test_by p fn k go levels i ts q t a b rs
  test_second go levels i us ts q t a b rs ys ns e i1 i2 d1 d2 y n u x z = let m = rw (d1, y) at x in let o = rw (d2, n, u) at z in rw (← m, ← o) refl

  pub test_third : (go : Scanner) (levels i : ℕ) (us vs ts : List Ty) (q : Sort) (t : Test) (a b : ℕ) (rs ys ns zs : List (Option Op)) (i1 i2 i3 : ℕ) → i1 ≡ suc i → i2 ≡ suc i + a → i3 ≡ suc i + a + b
      → ys ≡ take a rs → ns ≡ take b (drop a rs) → zs ≡ drop (a + b) rs → us ≡ ts → vs ≡ us
      → Ok tt ≡ go (levels - 1) i1 (yes_types p fn ts t) (InYes b) ys
      → Ok tt ≡ go (levels - 1) i2 us InNo ns
      → go levels i3 vs q zs ≡ test_by p fn k go levels i ts q t a b rs
  test_third go levels i us vs ts q t a b rs ys ns zs i1 i2 i3 d1 d2 d3 y n d u v x z =
      let m = rw (d1, y) at x in let o = rw (d2, n, u) at z in rw (d3, v, u, d, ← m, ← o) refl
