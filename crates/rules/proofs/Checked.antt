-- The check of all functions gives the verdict, and what the verdict says.
use Rattle.std.proofs.Common.{◌≡◌, ℕ, suc, ◌+◌, ◌-◌, ◌<◌, ◌≤◌, ltb, List, length, drop, Ok, Err, Option, sym, ap, ◌∙◌, inl, inr, add-one, arith}
use Rattle.std.proofs.lemmas.List.{take_all, drop_more, at_drop_all}
use Rattle.std.proofs.lemmas.Bool.{lt-ltb, le-ltb, cases_lt, cond-true, cond-false}
use Rattle.table.specs.declared.fault.Fault.{Fault}
use Rattle.table.specs.declared.fault.Place.TheVariants.{Nothing}
use Rattle.table.specs.declared.types.Ty.{Ty}
use Rattle.table.specs.declared.view.Table.{Table}
use Rattle.table.specs.Faults.{Passes, fault, ◌>>=◌}
use Rattle.table.specs.Records.{Op}
use Rattle.table.specs.Program.{Function, Program}
use Rattle.table.specs.Reading.{program_of}
use Rattle.rules.specs.declared.parts.Sort.TheVariants.{InBody}
use Rattle.rules.specs.Rules.{no_function, callee}
use Rattle.rules.specs.Scopes.{read, start, bodies, verdict}
use Rattle.rules.specs.Scan.{scan}
use Rattle.rules.specs.Seen.{seen}
use Rattle.rules.proofs.Seen.{seen_is}
use Rattle.rules.specs.Parts.{span}
use Rattle.rules.specs.Checked.{checked, Opens, Says}
use Rattle.rules.proofs.Formed.{program_stands}
use Rattle.rules.proofs.Steps.{verdict_stands}
use Rattle.rules.proofs.Laws.{verdict_lawful}
use Rattle.rules.proofs.Blocks.{blocks_stand}
use Rattle.rules.proofs.Types.{types_stand}
use Rattle.rules.proofs.Scan.{scan_stands}

-- a whole body
pub whole : (rs : List (Option Op)) (n : ℕ) → n ≡ length rs → span rs 0 n ≡ rs
whole rs n h = take_all (n - 0) rs (omega arith)

pub body_read : (p : Program) (fn : Function) (k n : ℕ) (r : Passes) (ts : List Ty) → ts ≡ fn.params → n ≡ length fn.records
    → r ≡ scan p fn k (suc (length fn.records)) 7 0 ts InBody (span fn.records 0 n) → r ≡ read p fn k 0 (start p fn) fn.records
body_read p fn k n r ts u l h =
    h ∙ ap (λ (xs : List (Option Op)). scan p fn k (suc (length fn.records)) 7 0 ts InBody xs) (whole fn.records n l)
    ∙ ap (λ (vs : List Ty). scan p fn k (suc (length fn.records)) 7 0 vs InBody fn.records) u
    ∙ sym (scan_stands p fn k (suc (length fn.records)) (omega arith))

-- the functions in turn
module _ (p : Program) where
  abbrev its_reading : ℕ → Passes
  its_reading i = read p (callee p i) i 0 (start p (callee p i)) (callee p i).records

  pub bodies_split : (i : ℕ) → i < length p.functions → bodies p i (drop i p.functions) ≡ (its_reading i >>= λ _. bodies p (suc i) (drop (i + 1) p.functions))
  bodies_split i l = ap (λ (fs : List Function). bodies p i fs) (drop_more p.functions i no_function l)

  pub bodies_stop : (i : ℕ) (e : Fault) → i < length p.functions → bodies p i (drop i p.functions) ≡ verdict p → Err e ≡ its_reading i → Err e ≡ verdict p
  bodies_stop i e l h r = ap (λ (x : Passes). x >>= λ _. bodies p (suc i) (drop (i + 1) p.functions)) r ∙ sym (bodies_split i l) ∙ h

  pub bodies_go : (i : ℕ) → i < length p.functions → bodies p i (drop i p.functions) ≡ verdict p → Ok tt ≡ its_reading i → bodies p (i + 1) (drop (i + 1) p.functions) ≡ verdict p
  bodies_go i l h r =
      ap (λ (n : ℕ). bodies p n (drop (i + 1) p.functions)) (add-one i)
      ∙ ap (λ (x : Passes). x >>= λ _. bodies p (suc i) (drop (i + 1) p.functions)) r ∙ sym (bodies_split i l) ∙ h

  pub bodies_end : (i : ℕ) → length p.functions ≤ i → bodies p i (drop i p.functions) ≡ verdict p → Ok tt ≡ verdict p
  bodies_end i l h = sym (at_drop_all (λ (fs : List Function). bodies p i fs) p.functions i l) ∙ h

-- what the answer says
pub answer_says : (p : Program) (room : ℕ) (r : Passes) → Opens p → r ≡ checked room p → Says p room r
answer_says p room r o h = record {
  is = h;
  exactly = λ l.
      let e = h ∙ cond-false (ltb room 128) (Err (fault 30 Nothing)) (verdict p) (le-ltb room 128 l) in
      let a = verdict_lawful p in
      (λ y. a.0 (sym e ∙ y), λ y. e ∙ a.1 y);
  behind = λ y n l. blocks_stand p (callee p n) (verdict_stands p (accepted_by y) n l);
  inside = λ y n l. types_stand p (callee p n) (program_stands o.0 p o.1).0 (verdict_stands p (accepted_by y) n l);
}
  where
    accepted_by : r ≡ Ok tt → verdict p ≡ Ok tt
    accepted_by y =
        elim (cases_lt room 128) [
          | inl x ↦ (let e = h ∙ cond-true (ltb room 128) (Err (fault 30 Nothing)) (verdict p) (lt-ltb room 128 x) in let z : ◌≡◌ {A = ℕ} 0 1 = cc in absurd (omega arith))
          | inr x ↦ sym (h ∙ cond-false (ltb room 128) (Err (fault 30 Nothing)) (verdict p) (le-ltb room 128 x)) ∙ y
        ]

-- the two clauses of the check
pub answer : (t : Table) (room : ℕ) (r : Passes) → r ≡ checked room (seen t) → (r ≡ checked room (program_of t)) × (Opens (program_of t) → Says (program_of t) room r)
answer t room r h =
    let is = h ∙ ap (checked room) (seen_is t) in
    (is, λ o. answer_says (program_of t) room r o is)

pub checked_small : (room : ℕ) (p : Program) → room < 128 → Err (fault 30 Nothing) ≡ checked room p
checked_small room p h = sym (cond-true (ltb room 128) (Err (fault 30 Nothing)) (verdict p) (lt-ltb room 128 h))

pub checked_large : (room : ℕ) (p : Program) → 128 ≤ room → verdict p ≡ checked room p
checked_large room p h = sym (cond-false (ltb room 128) (Err (fault 30 Nothing)) (verdict p) (le-ltb room 128 h))
