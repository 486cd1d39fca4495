-- The records before a record are read in turn, and what is answered then.
use Rattle.std.proofs.Common.{◌≡◌, ℕ, zero, suc, ◌+◌, ◌<◌, ◌≤◌, ltb, List, [], ◌∷◌, ◌++◌, length, get_or, take, drop, None, Ok, Err, Option, sym, refl, ap, ◌∙◌, inl, inr, add-one, arith}
use mathlib.Core.Path.{subst⁻¹}
use Rattle.std.proofs.lemmas.List.{length-take-le, get_or-take, drop_more, at_drop_all}
use Rattle.std.proofs.lemmas.Bool.{cond-true, cond-false, lt-ltb, le-ltb}
use Rattle.table.specs.declared.fault.Fault.{Fault}
use Rattle.table.specs.declared.types.Ty.{Ty}
use Rattle.table.specs.declared.fault.Place.TheVariants.{Nothing, Record}
use Rattle.table.specs.Faults.{Passes, fault, ◌>>=◌}
use Rattle.table.specs.Records.{Op}
use Rattle.table.specs.Program.{Function, Program}
use Rattle.rules.specs.declared.body.Body.{Body}
use Rattle.rules.specs.declared.nesting.Open.{Open}
use Rattle.rules.specs.Scopes.{Block, State, end_of, settled, refusal, after, read, start, before, verdict}
use Rattle.rules.specs.Seen.{program_in, function_in}
use Rattle.rules.specs.Blocks.{Still}
use Rattle.rules.specs.Rules.{no_function, callee, record_at}
use Rattle.rules.proofs.Steps.{before_suc, settle, verdict_stands}
use Rattle.rules.proofs.Laws.{accepted_read}
use Rattle.rules.proofs.Blocks.{stepped_at}
use Rattle.rules.proofs.Judging.{then_err, then_taken}
use Rattle.rules.specs.Stacks.{blocks_of, state_of, Deep, Behind}
use Rattle.rules.specs.Before.{read_before, counted, scoped}

-- record i of a body is reached on the way to record j: these types and open blocks stand for the state before it, and what is left to read
-- decides
pub record Reached (b : Body) (j i : ℕ) (ts : List Ty) (os : List Open) : Type 0 where
  pub is : state_of ts os ≡ before (program_in b) (function_in b) i
  pub deep : Deep (length ts) os
  pub still : Still (length (function_in b).records) [] i (before (program_in b) (function_in b) i)
  pub rest : read (program_in b) (function_in b) b.function i (before (program_in b) (function_in b) i) (drop i (take j (function_in b).records))
      ≡ read_before (program_in b) b.function j

module _ (b : Body) (j : ℕ) (there : j < length (function_in b).records) where
  abbrev at : ℕ → State
  at i = before (program_in b) (function_in b) i

  abbrev its_records : List (Option Op)
  its_records = (function_in b).records

  abbrev reading : ℕ → State → List (Option Op) → Passes
  reading i Z rs = read (program_in b) (function_in b) b.function i Z rs

  -- the verdict on the records before record j
  abbrev all_before : Passes
  all_before = read_before (program_in b) b.function j

  pub reached_start : (ts : List Ty) (os : List Open) → ts ≡ (function_in b).params → os ≡ [] → Reached b j 0 ts os
  reached_start ts os e h = record {
    is = ap (λ (us : List Ty). state_of us os) e ∙ ap (state_of (function_in b).params) h;
    deep = subst⁻¹ (Deep (length ts)) h tt;
    still = record { inner = []; stack = refl; nested = tt; low = omega arith };
    rest = refl;
  }

  module _ (i : ℕ) (ts : List Ty) (os : List Open) (w : Reached b j i ts os) where
    pub reached_low : i < end_of (length its_records) (blocks_of ts os)
    reached_low =
        let a : blocks_of ts os ≡ w.still.inner ++ [] = ap (λ (Z : State). Z.blocks) w.is ∙ w.still.stack in
        subst⁻¹ (λ (bs : List Block). i < end_of (length its_records) bs) a w.still.low

    module _ (low : i < j) where
      pub reads_on : reading i (at i) (drop i (take j its_records))
          ≡ (settled (refusal (program_in b) (function_in b) i (at i) (record_at (function_in b) i)) b.function i >>= λ _.
          reading (suc i) (after (program_in b) (function_in b) i (at i) (record_at (function_in b) i)) (drop (i + 1) (take j its_records)))
      reads_on =
          let n = length-take-le j its_records (omega arith) in
          let e : get_or (take j its_records) i None ≡ record_at (function_in b) i = get_or-take j its_records i None low in
          ap (reading i (at i)) (drop_more (take j its_records) i None (omega arith))
          ∙ ap (λ (o : Option Op). reading i (at i) (o ∷ drop (i + 1) (take j its_records))) e

      pub reached_refused : (e : Fault) → Err e ≡ settled (refusal (program_in b) (function_in b) i (state_of ts os) (record_at (function_in b) i)) b.function i → Err e ≡ all_before
      reached_refused e h =
          let f : Err e ≡ settled (refusal (program_in b) (function_in b) i (at i) (record_at (function_in b) i)) b.function i =
          h ∙ ap (λ (Z : State). settled (refusal (program_in b) (function_in b) i Z (record_at (function_in b) i)) b.function i) w.is
          in
          then_err (settled (refusal (program_in b) (function_in b) i (at i) (record_at (function_in b) i)) b.function i) e
          (λ x. reading (suc i) (after (program_in b) (function_in b) i (at i) (record_at (function_in b) i)) (drop (i + 1) (take j its_records))) f
          ∙ sym reads_on ∙ w.rest

      pub reached_next : (us : List Ty) (ks : List Open) → Behind b i (state_of ts os) us ks → Reached b j (i + 1) us ks
      reached_next us ks v =
          let m : i < length its_records = omega arith in
          let ok : refusal (program_in b) (function_in b) i (at i) (record_at (function_in b) i) ≡ None =
          ap (λ (Z : State). refusal (program_in b) (function_in b) i Z (record_at (function_in b) i)) (sym w.is) ∙ v.allowed
          in
          let next : after (program_in b) (function_in b) i (at i) (record_at (function_in b) i) ≡ at (i + 1) =
          sym (before_suc (program_in b) (function_in b) i m) ∙ ap at (sym (add-one i))
          in
          let go : Still (length its_records) [] (suc i) (at (suc i)) =
          elim (stepped_at (program_in b) (function_in b) [] i m ok w.still) [
            | inl x ↦ x
            | inr x ↦ absurd (omega (arith, x.there))
          ]
          in
          record {
            is = v.is ∙ ap (λ (Z : State). after (program_in b) (function_in b) i Z (record_at (function_in b) i)) w.is ∙ next;
            deep = v.deep;
            still = subst⁻¹ (λ (n : ℕ). Still (length its_records) [] n (at n)) (add-one i) go;
            rest =
                ap (λ (n : ℕ). reading n (at (i + 1)) (drop (i + 1) (take j its_records))) (add-one i)
                ∙ ap (λ (Z : State). reading (suc i) Z (drop (i + 1) (take j its_records))) (sym next)
                ∙ ap (λ (v : Option ℕ). settled v b.function i >>= λ _. reading (suc i) (after (program_in b) (function_in b) i (at i) (record_at (function_in b) i)) (drop (i + 1) (take j its_records))) (sym ok)
                ∙ sym reads_on ∙ w.rest;
          }

    module _ (here : i ≡ j) where
      pub reached_types : ts ≡ (at j).types
      reached_types = ap (λ (Z : State). Z.types) w.is ∙ ap (λ (n : ℕ). (at n).types) here

      pub reached_all : Ok tt ≡ all_before
      reached_all =
          let n = length-take-le j its_records (omega arith) in
          sym (at_drop_all (reading i (at i)) (take j its_records) i (omega arith)) ∙ w.rest

-- what is answered
module _ (n j : ℕ) (p : Program) where
  abbrev wanted : Function
  wanted = callee p n

  pub counted_missing : length wanted.records ≤ j → Err (fault 20 (Record n j)) ≡ counted p n j
  counted_missing l = sym (cond-false (ltb j (length wanted.records)) _ _ (le-ltb j (length wanted.records) l))

  pub counted_there : j < length wanted.records → (read_before p n j >>= λ _. Ok (length (before p wanted j).types)) ≡ counted p n j
  counted_there l = sym (cond-true (ltb j (length wanted.records)) _ _ (lt-ltb j (length wanted.records) l))

  pub counted_refused : (e : Fault) → j < length wanted.records → Err e ≡ read_before p n j → Err e ≡ counted p n j
  counted_refused e l r = then_err (read_before p n j) e (λ x. Ok (length (before p wanted j).types)) r ∙ counted_there l

  pub counted_found : (d : ℕ) → j < length wanted.records → Ok tt ≡ read_before p n j → d ≡ length (before p wanted j).types → Ok d ≡ counted p n j
  counted_found d l r e = ap Ok e ∙ then_taken (read_before p n j) tt (λ x. Ok (length (before p wanted j).types)) r ∙ counted_there l

-- a function that has a record is there
pub function_there : (p : Program) (n i : ℕ) → i < length (callee p n).records → n < length p.functions
function_there p n i h = of p.functions n h
  where
    of : (fs : List Function) (k : ℕ) → i < length (get_or fs k no_function).records → k < length fs
    of [] k l = absurd (omega arith)
    of (f ∷ fs) zero l = omega arith
    of (f ∷ fs) (suc k) l = let a = of fs k l in omega arith

-- where no record is refused, none of the first is
pub read_front : (p : Program) (fn : Function) (k i : ℕ) (S : State) (rs : List (Option Op)) (m : ℕ) → read p fn k i S rs ≡ Ok tt → read p fn k i S (take m rs) ≡ Ok tt
read_front p fn k i S rs zero h = refl
read_front p fn k i S [] (suc m) h = refl
read_front p fn k i S (r ∷ rs) (suc m) h =
    let a = settle p fn (refusal p fn i S r) k i (read p fn k (suc i) (after p fn i S r) rs) h in
    ap (λ (v : Option ℕ). settled v k i >>= λ _. read p fn k (suc i) (after p fn i S r) (take m rs)) a.0 ∙ read_front p fn k (suc i) (after p fn i S r) rs m a.1

-- an accepted program: every record that is there has an answer
pub counted_accepted : (n i : ℕ) (p : Program) → verdict p ≡ Ok tt → i < length (callee p n).records → counted p n i ≡ Ok (length (before p (callee p n) i).types)
counted_accepted n i p v l =
    let ok = accepted_read p (callee p n) n (verdict_stands p v n (function_there p n i l)) in
    sym (counted_found n i p (length (before p (callee p n) i).types) l (sym (read_front p (callee p n) n 0 (start p (callee p n)) (callee p n).records i ok)) refl)

-- given scratch enough
pub scoped_large : (room n i : ℕ) (p : Program) → 128 ≤ room → counted p n i ≡ scoped room p n i
scoped_large room n i p h = sym (cond-false (ltb room 128) (Err (fault 30 Nothing)) (counted p n i) (le-ltb room 128 h))

pub scoped_accepted : (room n i : ℕ) (p : Program) → 128 ≤ room → verdict p ≡ Ok tt → i < length (callee p n).records → scoped room p n i ≡ Ok (length (before p (callee p n) i).types)
scoped_accepted room n i p h v l = sym (scoped_large room n i p h) ∙ counted_accepted n i p v l
