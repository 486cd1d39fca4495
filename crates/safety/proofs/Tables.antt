-- Every table that is read and accepted keeps the promise.
use Rattle.std.proofs.Common.{◌≡◌, ℕ, ◌+◌, ◌-◌, ◌<◌, ◌≤◌, Bool, true, false, cond, eqb, List, [], ◌∷◌, ◌++◌, length, Ok, Err, Result, sym, refl, ap, ◌∙◌, subst, arith}
use Rattle.std.proofs.lemmas.Bool.{eqb-true, eqb-false, ne_eqb, le-ltb, lt-ltb, cond_both}
use Rattle.table.specs.declared.fault.Fault.{Fault}
use Rattle.table.specs.declared.fault.Place.TheVariants.{Nothing}
use Rattle.table.specs.declared.types.Ty.{Ty}
use Rattle.table.specs.Faults.{need}
use Rattle.table.specs.Program.{Program}
use Rattle.table.proofs.Each.{ok_then, need_true}
use Rattle.rules.specs.Scopes.{verdict}
use Rattle.rules.specs.Formed.{Formed, Shaped}
use Rattle.rules.proofs.Formed.{program_stands}
use Rattle.memory.specs.Model.{Store, count_of}
use Rattle.machine.specs.World.{World, starting, started}
use Rattle.machine.specs.Steps.{Taken, stepped, after_step}
use Rattle.safety.specs.Checked.{Checked}
use Rattle.safety.specs.Notes.{notes}
use Rattle.safety.specs.Owners.{tasks_owning, owners_of, frames_known, owners}
use Rattle.safety.specs.Runs.{runs, Ran, ran_step, ran, turns_of, took, Counted, ran_within}
use Rattle.safety.specs.Safe.{SafeNow, Safe, TableSafe, RunSafe, StaysSafe}
use Rattle.safety.proofs.Notes.{accepted_checked, notes_types}
use Rattle.safety.proofs.Promise.{Well, runs_well, start_well, never_stuck, no_clash, few_owners, known}

-- a start that is not refused
pub started_is : (m : Store) (W : World) → started m ≡ Ok W → (count_of m ≡ 0) × (starting m ≡ W)
started_is m W h =
    let a = ok_then (need (eqb (count_of m) 0) 60 Nothing) (λ _. Ok (starting m)) W h in
    let e : starting m ≡ W = cc a.1 in
    (eqb-true (count_of m) 0 (need_true (eqb (count_of m) 0) 60 Nothing a.0), e)

-- what every run of an accepted program reaches is well
pub reached : (p : Program) (ck : Checked p (notes p)) (m : Store) (W : World) (turns : List (ℕ × ℕ)) → started m ≡ Ok W → Well p (notes p) ck (runs p W turns)
reached p ck m W turns h =
    let s = started_is m W h in
    runs_well p (notes p) ck W turns (subst (Well p (notes p) ck) s.1 (start_well p (notes p) ck m s.0))

-- owners is not refused
answered : (p : Program) (W : World) (scratch o : ℕ) → verdict p ≡ Ok tt → frames_known p W ≡ Ok tt → 128 ≤ scratch → o < count_of W.memory → owners scratch p W o ≡ Ok (owners_of p W o)
answered p W scratch o v k l h = rw (le-ltb scratch 128 l, v, lt-ltb o (count_of W.memory) h, k) refl

pub accepted_safe : (p : Program) → Formed p → Shaped p → verdict p ≡ Ok tt → Safe p
accepted_safe p formed shaped v m W turns h =
    let ck = accepted_checked p formed shaped v in
    let N = runs p W turns in
    let w = reached p ck m W turns h in
    record {
      never_stuck = never_stuck p (notes p) ck N w;
      no_clash = no_clash p (notes p) ck N w;
      one_owner = λ scratch o l k. (
        owners_of p N o,
        answered p N scratch o v (known p (notes p) ck N w) l k,
        subst (λ (ts : ℕ → ℕ → List Ty). tasks_owning ts N.tasks o ≤ 1) (notes_types p) (few_owners p (notes p) ck N w o),
      );
    }

pub table_safe : TableSafe
table_safe b p h v = let f = program_stands b p h in accepted_safe p f.0 f.1 v

-- steps of threads in turn are turns
ran_is : (p : Program) (size : ℕ) (R : Ran) (threads : List ℕ) → (ran p size R threads).world ≡ runs p R.world (turns_of p size R threads)
ran_is p size R [] = refl
ran_is p size R (i ∷ threads) = ran_is p size (ran_step p size R i) threads

pub run_safe : RunSafe
run_safe b p h v m W s size out threads =
    let R : Ran = record { world = W; out = out } in
    subst (SafeNow p) (sym (ran_is p size R threads)) (table_safe b p h v m W (turns_of p size R threads) s)

-- turns behind turns
runs_both : (p : Program) (W : World) (a b : List (ℕ × ℕ)) → runs p W (a ++ b) ≡ runs p (runs p W a) b
runs_both p W [] b = refl
runs_both p W (t ∷ a) b = runs_both p (after_step W (stepped p t.1 W t.0)) a b

-- what turns of a machine leave
pub stays_safe : (p : Program) (W V : World) (turns : List (ℕ × ℕ)) → V ≡ runs p W turns → StaysSafe p W V
stays_safe p W V turns e o v r =
    let all = r.turns ++ turns in
    let is : runs p r.begun (r.turns ++ turns) ≡ V = runs_both p r.begun r.turns turns ∙ ap (λ (U : World). runs p U turns) r.is ∙ sym e in (
      record { store = r.store; begun = r.begun; turns = all; starts = r.starts; is = is },
      λ more. subst (SafeNow p) (runs_both p r.begun all more ∙ ap (λ (U : World). runs p U more) is) (table_safe o.0 p o.1 v r.store r.begun (all ++ more) r.starts),
    )

-- steps until so many were taken are turns, and all of them where there are no more than that
pub within_runs : (p : Program) (size limit : ℕ) (R : Ran) (is : List ℕ) → (ts : List (ℕ × ℕ)) × ((ran_within p size limit R is).ran.world ≡ runs p R.world ts)
within_runs p size limit R [] = ([], refl)
within_runs p size limit R (i ∷ is) =
    let k = took (stepped p (size - length R.out) R.world i) in
    by (eqb limit 0) (ran_within p size (limit - k) (ran_step p size R i) is) (within_runs p size (limit - k) (ran_step p size R i) is)
  where
    by : (b : Bool) (c : Counted) → (ts : List (ℕ × ℕ)) × (c.ran.world ≡ runs p (ran_step p size R i).world ts)
        → (ts : List (ℕ × ℕ)) × ((cond {A = Counted} b (record { ran = R; taken = 0 }) (record { ran = c.ran; taken = took (stepped p (size - length R.out) R.world i) + c.taken })).ran.world ≡ runs p R.world ts)
    by true c h = ([], refl)
    by false c h = ((i, size - length R.out) ∷ h.0, h.1)

took_one : (s : Result Taken Fault) → took s ≤ 1
took_one (Ok t) = omega arith
took_one (Err e) = omega arith

pub within_all : (p : Program) (size limit : ℕ) (R : Ran) (is : List ℕ) → length is ≤ limit → (ran_within p size limit R is).ran ≡ ran p size R is
within_all p size limit R [] h = refl
within_all p size limit R (i ∷ is) h =
    let s = stepped p (size - length R.out) R.world i in
    let o = took_one s in
    let m : length is ≤ limit - took (stepped p (size - length R.out) R.world i) = omega (arith, o) in
    let rest = ran_within p size (limit - took s) (ran_step p size R i) is in
    let z : eqb limit 0 ≡ false = ne_eqb limit 0 (λ (e : limit ≡ 0). omega arith) in
    ap (λ (b : Bool). (cond {A = Counted} b (record { ran = R; taken = 0 }) (record { ran = rest.ran; taken = took s + rest.taken })).ran) z ∙ within_all p size (limit - took s) (ran_step p size R i) is m

-- no more steps are taken than may be
pub within_most : (p : Program) (size limit : ℕ) (R : Ran) (is : List ℕ) → (ran_within p size limit R is).taken ≤ limit
within_most p size limit R [] = omega arith
within_most p size limit R (i ∷ is) =
    let s = stepped p (size - length R.out) R.world i in
    let o = took_one s in
    let rest = ran_within p size (limit - took s) (ran_step p size R i) is in
    let m = within_most p size (limit - took s) (ran_step p size R i) is in
    cond_both (eqb limit 0) (record { ran = R; taken = 0 }) (record { ran = rest.ran; taken = took s + rest.taken }) (λ (c : Counted). c.taken ≤ limit)
    (λ _. omega arith)
    (λ e. let z : limit ≡ 0 → ⊥ = eqb-false limit 0 e in omega (arith, o, m, z))

-- one call behind another
pub stays_safe_both : (p : Program) (U V W : World) → StaysSafe p U V → StaysSafe p V W → StaysSafe p U W
stays_safe_both p U V W a b o v r = b o v (a o v r).0
