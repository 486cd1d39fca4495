-- What the check answers, and what its answer says of a program.
use Rattle.std.specs.Prelude.{◌≡◌, ℕ, ◌<◌, ◌≤◌, cond, List, length, Ok, Err, nat_lt}
use Rattle.table.specs.declared.fault.Place.TheVariants.{Nothing}
use Rattle.table.specs.declared.records.Test.{Test}
use Rattle.table.specs.Faults.{Passes, fault}
use Rattle.table.specs.Program.{Program, program}
use Rattle.rules.specs.Rules.{callee}
use Rattle.rules.specs.Scopes.{verdict}
use Rattle.rules.specs.Laws.{Lawful}
use Rattle.rules.specs.Blocks.{Tests, TwoBlocks, TypesKept}

-- the answer, given scratch for so many types
abbrev pub checked : ℕ → Program → Passes
checked room p = cond (nat_lt room 128) (Err (fault 30 Nothing)) (verdict p)

-- a program that some table holds
abbrev pub Opens : Program → Type 0
Opens p = (b : List ℕ) × (program b ≡ Ok p)

pub record Says (p : Program) (room : ℕ) (answer : Passes) : Type 0 where
  pub is : answer ≡ checked room p
  -- accepted exactly when each record satisfies all premises of its rule in the scope before it
  pub exactly : 128 ≤ room → (answer ≡ Ok tt → Lawful p) × (Lawful p → answer ≡ Ok tt)
  -- behind a test's blocks the types in scope are those before the test
  pub behind : answer ≡ Ok tt → (n : ℕ) → n < length p.functions → (i : ℕ) (t : Test) (yes_count no_count : ℕ) → Tests (callee p n) i t yes_count no_count
      → TwoBlocks p (callee p n) i t yes_count no_count
  -- within a block the type of an outer slot only grows
  pub inside : answer ≡ Ok tt → (n : ℕ) → n < length p.functions → TypesKept p (callee p n)
