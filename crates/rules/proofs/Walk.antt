-- Each step leads on to the scope before a record.
use Rattle.std.proofs.Common.{◌≡◌, ℕ, suc, ◌+◌, ◌<◌, ◌≤◌, cond, eqb, List, [], ◌∷◌, length, take, Some, None, Ok, Option, sym, refl, ap, ◌∙◌, subst, arith}
use mathlib.Core.Path.{subst⁻¹}
use Rattle.std.proofs.lemmas.Bool.{ne_eqb, cond-false}
use Rattle.table.specs.declared.types.Ty.{Ty}
use Rattle.table.specs.declared.records.Test.{Test}
use Rattle.table.specs.declared.records.Record as declared
use Rattle.table.specs.declared.records.Record.TheVariants as coded
use Rattle.table.specs.Records.{Op, Ask, meant, meant_by}
use Rattle.table.specs.Program.{Function, Program}
use Rattle.rules.specs.Rules.{record_at, callee, first, premises, asks, bound, yes_types}
use Rattle.rules.specs.Scopes.{Block, Yes, No, State, state, end_of, close, shape, grown, move, after, before, verdict}
use Rattle.rules.specs.Blocks.{Accepted, Tests}
use Rattle.rules.specs.declared.body.Body.{Body}
use Rattle.rules.specs.Seen.{program_in, function_in}
use Rattle.rules.specs.Walk.{unless, allowing, Toward, Leads, Gives}
use Rattle.rules.proofs.Steps.{good, before_suc, verdict_stands}
use Rattle.rules.proofs.Blocks.{blocks_stand}
use Rattle.rules.proofs.Before.{function_there}

-- a block that goes on past record n stays open
pub close_open : (size n : ℕ) (ts : List Ty) (bs : List Block) → n < end_of size bs → close n ts bs ≡ state ts bs
close_open size n ts [] h = refl
close_open size n ts (Yes k e s ∷ bs) h =
    cond-false (eqb e n) (cond (eqb k 0) (close n s bs) (state s (No (n + k) s ∷ bs))) (state ts (Yes k e s ∷ bs)) (ne_eqb e n (λ x. omega arith))
close_open size n ts (No e s ∷ bs) h = cond-false (eqb e n) (close n s bs) (state ts (No e s ∷ bs)) (ne_eqb e n (λ x. omega arith))

-- what an allowed record says
pub allowed_some : (p : Program) (fn : Function) (ts : List Ty) (o : Option Op) (op : Op) → Some op ≡ allowing p fn ts o → (o ≡ Some op) × (first (premises p fn ts op) ≡ None)
allowed_some p fn ts None op h = let z : ◌≡◌ {A = ℕ} 0 1 = cc in absurd (omega arith)
allowed_some p fn ts (Some x) op h = by (first (premises p fn ts x)) refl h
  where
    by : (n : Option ℕ) → first (premises p fn ts x) ≡ n → Some op ≡ unless n x → (Some x ≡ Some op) × (first (premises p fn ts op) ≡ None)
    by None e k = let same : x ≡ op = cc in (ap Some same, subst (λ (y : Op). first (premises p fn ts y) ≡ None) same e)
    by (Some n) e k = let z : ◌≡◌ {A = ℕ} 0 1 = cc in absurd (omega arith)

pub none_meant : (r : Option declared.Record) → ((x : declared.Record) → r ≡ Some x → ⊥) → None ≡ meant_by r
none_meant None h = refl
none_meant (Some x) h = absurd (h x refl)

pub allowed_test : (p : Program) (fn : Function) (ts : List Ty) (op : Op) (t : Test) (a b : ℕ) → op ≡ Ask t a b → first (premises p fn ts op) ≡ None → first (asks p fn ts t) ≡ None
allowed_test p fn ts op t a b e h = subst (λ (x : Op). first (premises p fn ts x) ≡ None) e h

module _ (p : Program) (fn : Function) (j : ℕ) (ok : Accepted p fn) (there : j < length fn.records) where
  -- an accepted record is allowed
  pub never_refused : (i : ℕ) (ts : List Ty) → i < j → Toward p fn j i ts → None ≡ allowing p fn ts (record_at fn i) → ⊥
  never_refused i ts l w h =
      let g = good p fn i (before p fn i) (record_at fn i) (ok i (omega arith)) in
      let e : first (premises p fn ts g.op) ≡ None = subst (λ (us : List Ty). first (premises p fn us g.op) ≡ None) w.types g.held in
      let k : allowing p fn ts (record_at fn i) ≡ Some g.op = ap (allowing p fn ts) g.is ∙ ap (λ n. unless n g.op) e in
      let z : ◌≡◌ {A = ℕ} 0 1 = cc in omega arith

  -- behind a record that is no test
  pub plain_move : (i : ℕ) (S : State) (ts : List Ty) (us : Test → List Ty) (r : declared.Record) → ((t : Test) (a b : ℕ) → r ≡ coded.Ask t a b → ⊥) → move i S ts us (shape (meant r)) ≡ close (suc i) ts S.blocks
  plain_move i S ts us (coded.New z s) n = refl
  plain_move i S ts us (coded.Null z s) n = refl
  plain_move i S ts us (coded.Int z x) n = refl
  plain_move i S ts us (coded.Share z x) n = refl
  plain_move i S ts us (coded.Own z x) n = refl
  plain_move i S ts us (coded.Get z x f) n = refl
  plain_move i S ts us (coded.Take z x f) n = refl
  plain_move i S ts us (coded.Set z x f y) n = refl
  plain_move i S ts us (coded.Add z x y) n = refl
  plain_move i S ts us (coded.Call z x args) n = refl
  plain_move i S ts us (coded.Fork x args) n = refl
  plain_move i S ts us (coded.Return x) n = refl
  plain_move i S ts us (coded.Again args) n = refl
  plain_move i S ts us (coded.Join x) n = refl
  plain_move i S ts us (coded.Emit x) n = refl
  plain_move i S ts us (coded.Ask t a b) n = absurd (n t a b refl)

  pub toward_by : (i m : ℕ) (S : State) (ts : List Ty) → m ≡ i → before p fn i ≡ S → S.types ≡ ts → j < end_of (length fn.records) S.blocks → Toward p fn j m ts
  toward_by i m S ts d e t l = record {
    types = ap (λ n. (before p fn n).types) d ∙ ap (λ (Z : State). Z.types) e ∙ t;
    inside = subst⁻¹ (λ (Z : State). j < end_of (length fn.records) Z.blocks) (ap (λ n. before p fn n) d ∙ e) l;
  }

  pub toward_plain : (i m : ℕ) (ts us : List Ty) (r : declared.Record) → m ≡ suc i → i < j → Toward p fn j i ts → record_at fn i ≡ Some (meant r) → ((t : Test) (a b : ℕ) → r ≡ coded.Ask t a b → ⊥)
      → us ≡ grown ts (bound p fn ts (meant r)) → Toward p fn j m us
  toward_plain i m ts us r d l w e n u =
      let S = before p fn i in
      let zs = grown S.types (bound p fn S.types (meant r)) in
      let moved : before p fn (suc i) ≡ close (suc i) zs S.blocks =
      before_suc p fn i (omega arith) ∙ ap (after p fn i S) e ∙ plain_move i S zs (yes_types p fn S.types) r n
      in
      let low : suc i < end_of (length fn.records) S.blocks = omega (arith, w.inside) in
      toward_by (suc i) m (state zs S.blocks) us d (moved ∙ close_open (length fn.records) (suc i) zs S.blocks low)
      (ap (λ (vs : List Ty). grown vs (bound p fn vs (meant r))) w.types ∙ sym u) w.inside

  -- behind a test: into its yes block, into its no block, or past both
  module _ (i : ℕ) (ts : List Ty) (t : Test) (a b : ℕ) (w : Toward p fn j i ts) (tests : Tests fn i t a b) where
    pub toward_yes : (m : ℕ) (us : List Ty) → m ≡ suc i → j < suc i + a → us ≡ yes_types p fn ts t → Toward p fn j m us
    toward_yes m us d l u =
        let q = blocks_stand p fn ok i t a b tests in
        toward_by (suc i) m (state (yes_types p fn (before p fn i).types t) (Yes b (suc i + a) (before p fn i).types ∷ (before p fn i).blocks)) us d q.begins
        (ap (λ (vs : List Ty). yes_types p fn vs t) w.types ∙ sym u) l

    pub toward_no : (m : ℕ) → m ≡ suc i + a → suc i + a ≤ j → j < suc i + a + b → Toward p fn j m ts
    toward_no m d g l =
        let q = blocks_stand p fn ok i t a b tests in
        toward_by (suc i + a) m (state (before p fn i).types (No (suc i + a + b) (before p fn i).types ∷ (before p fn i).blocks)) ts d (q.turns (omega arith)) w.types l

    pub toward_behind : (m : ℕ) → m ≡ suc i + a + b → suc i + a + b ≤ j → Toward p fn j m ts
    toward_behind m d g =
        let q = blocks_stand p fn ok i t a b tests in
        let S = before p fn i in
        let low : suc i + a + b < end_of (length fn.records) S.blocks = omega (arith, w.inside) in
        toward_by (suc i + a + b) m (state S.types S.blocks) ts d (q.comes_back ∙ close_open (length fn.records) (suc i + a + b) S.types S.blocks low) w.types w.inside

-- the start of a body
pub toward_start : (p : Program) (fn : Function) (j : ℕ) (ts : List Ty) → j < length fn.records → ts ≡ fn.params → Toward p fn j 0 ts
toward_start p fn j ts l e = record { types = sym e; inside = l }

pub accepted_of : (p : Program) (n i : ℕ) → verdict p ≡ Ok tt → i < length (callee p n).records → Accepted p (callee p n)
accepted_of p n i v h = verdict_stands p v n (function_there p n i h)

-- at the record the types are those before it
pub gives : (p : Program) (fn : Function) (j i d : ℕ) (ts xs : List Ty) → i ≡ j → d ≡ length ts → take d xs ≡ ts → Toward p fn j i ts → Gives (before p fn j).types xs (Some d)
gives p fn j i d ts xs e l f w =
    let t : (before p fn j).types ≡ ts = ap (λ n. (before p fn n).types) (sym e) ∙ w.types in
    record { count = ap Some (l ∙ ap length (sym t)); types = ap (λ m. take m xs) (ap length t ∙ sym l) ∙ f ∙ sym t }

pub no_step : (b : Body) (j : ℕ) (ts : List Ty) (r : Option ℕ) → ((k : ℕ) → r ≡ Some k → ⊥) → Leads b j ts r → Accepted (program_in b) (function_in b) → j < length (function_in b).records → ⊥
no_step b j ts None h w ok l = w ok l
no_step b j ts (Some k) h w ok l = h k refl
