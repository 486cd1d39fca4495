-- Acceptance in the words of the rules: every record satisfies all that is asked of it in the scope before it.
use Rattle.std.specs.Prelude.{◌≡◌, ℕ, ◌<◌, true, List, [], ◌∷◌, length, Some, None, Ok, Option}
use Rattle.table.specs.Records.{Op}
use Rattle.table.specs.Program.{Function, Program}
use Rattle.rules.specs.Rules.{Premise, callee, record_at}
use Rattle.rules.specs.Scopes.{State, asked, before, verdict}

-- all premises hold
abbrev pub Holds : List Premise → Type 0
Holds [] = Unit {0}
Holds (q ∷ qs) = (q.1 ≡ true) × Holds qs

-- record i says something, and satisfies all that is asked of it in this state
abbrev pub Obeys : Program → Function → ℕ → State → Option Op → Type 0
Obeys p fn i S None = ⊥
Obeys p fn i S (Some op) = Holds (asked p fn i S op)

-- every record of every function does, in the state before it
abbrev pub Lawful : Program → Type 0
Lawful p = (n : ℕ) → n < length p.functions → (i : ℕ) → i < length (callee p n).records → Obeys p (callee p n) i (before p (callee p n) i) (record_at (callee p n) i)

-- a program is accepted exactly when it is lawful
abbrev pub VerdictLawful : Type 0
VerdictLawful = (p : Program) → (verdict p ≡ Ok tt → Lawful p) × (Lawful p → verdict p ≡ Ok tt)
