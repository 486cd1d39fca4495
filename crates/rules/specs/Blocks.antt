-- What an accepted body keeps: blocks are nested, each ends where its test says, and types in scope only grow inside it.
use Rattle.std.specs.Prelude.{◌≡◌, ℕ, suc, ◌+◌, ◌<◌, ◌≤◌, true, ◌⊎◌, List, [], ◌∷◌, ◌++◌, length, Some, None, Ok}
use Rattle.table.specs.declared.types.Kind.{Kind}
use Rattle.table.specs.declared.types.Kind.TheVariants.{Number, Alias, Owned, Pristine}
use Rattle.table.specs.declared.types.Ty.{Ty}
use Rattle.table.specs.declared.types.Field.{Field}
use Rattle.table.specs.declared.records.Test.{Test}
use Rattle.table.specs.Records.{Op, Join, Ask}
use Rattle.table.specs.Program.{Function, Program}
use Rattle.rules.specs.Rules.{has, callee, record_at, bound, yes_types}
use Rattle.rules.specs.Scopes.{Block, Yes, No, State, state, saved, close, inside, end_of, reach, Plain, shape, grown, refusal, before, verdict}
use Rattle.rules.specs.Formed.{AllKeep, Formed}

-- no record of a function is refused
abbrev pub Accepted : Program → Function → Type 0
Accepted p fn = (i : ℕ) → i < length fn.records → refusal p fn i (before p fn i) (record_at fn i) ≡ None

-- record i is a test with these counts
abbrev pub Tests : Function → ℕ → Test → ℕ → ℕ → Type 0
Tests fn i t a b = (i < length fn.records) × (record_at fn i ≡ Some (Ask t a b))

-- the blocks stand in one another, and a yes block's no block with it
abbrev pub Nested : ℕ → List Block → Type 0
Nested size [] = Unit {0}
Nested size (b ∷ bs) = (inside size (reach b) bs ≡ true) × Nested size bs

-- these blocks are still open before record n, with others in them
pub record Still (size : ℕ) (base : List Block) (n : ℕ) (S : State) : Type 0 where
  pub inner : List Block
  pub stack : S.blocks ≡ inner ++ base
  pub nested : Nested size (inner ++ base)
  pub low : n < end_of size (inner ++ base)

-- the innermost of these blocks has just ended
pub record Ended (size : ℕ) (base : List Block) (n : ℕ) (S : State) : Type 0 where
  pub types : List Ty
  pub there : n ≡ end_of size base
  pub is : S ≡ close n types base

-- a set is part of another
abbrev pub Within : ℕ → ℕ → Type 0
Within w v = (f : ℕ) → has w f ≡ true → has v f ≡ true

-- how the type of a slot may change inside a block: a number or a pristine type never does, an alias stays a reference of its struct and may
-- become owned, and what is owned stays so and withholds no less
abbrev pub Grows : Kind → Ty → Ty → Type 0
Grows Number t u = t ≡ u
Grows Alias t u = ((u.kind ≡ Alias) ⊎ (u.kind ≡ Owned)) × (u.strukt ≡ t.strukt)
Grows Owned t u = (u.kind ≡ Owned) × (u.strukt ≡ t.strukt) × Within t.withheld u.withheld
Grows Pristine t u = t ≡ u

abbrev pub Grew : Ty → Ty → Type 0
Grew t u = Grows t.kind t u

-- each slot of the first is in the second, with a type that it may have grown to
abbrev pub Grown : List Ty → List Ty → Type 0
Grown [] us = Unit {0}
Grown (t ∷ ts) [] = ⊥
Grown (t ∷ ts) (u ∷ us) = Grew t u × Grown ts us

-- the types that come back as the blocks end have grown to those in scope
abbrev pub Kept : List Ty → List Block → Type 0
Kept ts [] = Unit {0}
Kept ts (b ∷ bs) = Grown (saved b) ts × Kept (saved b) bs

-- what an open block brings back keeps its rules too
abbrev pub SavedKeep : List (List Field) → List Block → Type 0
SavedKeep ss [] = Unit {0}
SavedKeep ss (b ∷ bs) = AllKeep ss (saved b) × (length (saved b) ≤ 16) × SavedKeep ss bs

-- in an accepted body every type in use keeps its rules, at most 16 slots are in scope, and level 8 is the deepest
pub record Fit (p : Program) (S : State) : Type 0 where
  pub types : AllKeep p.structs S.types
  pub slots : length S.types ≤ 16
  pub saved : SavedKeep p.structs S.blocks
  pub levels : length S.blocks ≤ 7

abbrev pub FitStands : Type 0
FitStands = (p : Program) (n : ℕ) → Formed p → Accepted p (callee p n) → (i : ℕ) → i ≤ length (callee p n).records → Fit p (before p (callee p n) i)

-- the two blocks of the test at record i
pub record TwoBlocks (p : Program) (fn : Function) (i : ℕ) (t : Test) (a b : ℕ) : Type 0 where
  pub begins : before p fn (suc i) ≡ state (yes_types p fn (before p fn i).types t) (Yes b (suc i + a) (before p fn i).types ∷ (before p fn i).blocks)
  -- in the yes block, and in the no block
  pub in_yes : (k : ℕ) → suc i ≤ k → k < suc i + a → Still (length fn.records) (Yes b (suc i + a) (before p fn i).types ∷ (before p fn i).blocks) k (before p fn k)
  pub in_no : (k : ℕ) → suc i + a ≤ k → k < suc i + a + b → Still (length fn.records) (No (suc i + a + b) (before p fn i).types ∷ (before p fn i).blocks) k (before p fn k)
  -- where a no leads: to the no block, with the types from before the test
  pub turns : 0 < b → before p fn (suc i + a) ≡ state (before p fn i).types (No (suc i + a + b) (before p fn i).types ∷ (before p fn i).blocks)
  -- behind both blocks all is as before the test, but for the blocks that end there too
  pub comes_back : before p fn (suc i + a + b) ≡ close (suc i + a + b) (before p fn i).types (before p fn i).blocks
  pub room : suc i + a + b < length fn.records

-- a join's block is a yes block that ends with it, and it leads behind the no block, where the types from before the test are back
pub record Joined (p : Program) (fn : Function) (j n : ℕ) : Type 0 where
  pub back : List Ty
  pub outer : List Block
  pub block : (before p fn j).blocks ≡ Yes n (suc j) back ∷ outer
  pub leads : before p fn (suc j + n) ≡ close (suc j + n) back outer
  pub room : suc j + n < length fn.records

abbrev pub BlocksStand : Type 0
BlocksStand = (p : Program) (fn : Function) → Accepted p fn → (i : ℕ) (t : Test) (a b : ℕ) → Tests fn i t a b → TwoBlocks p fn i t a b

abbrev pub JoinsStand : Type 0
JoinsStand = (p : Program) (fn : Function) → Accepted p fn → (j n : ℕ) → j < length fn.records → record_at fn j ≡ Some (Join n) → Joined p fn j n

-- in an accepted body: what comes back has grown to what is in scope; in a test's blocks the types from before the test have grown; and wherever
-- a record leads, the types in scope there have grown to those at the record, with what it binds
pub record TypesKept (p : Program) (fn : Function) : Type 0 where
  pub kept : (i : ℕ) → i < length fn.records → Kept (before p fn i).types (before p fn i).blocks
  pub in_blocks : (i : ℕ) (t : Test) (a b : ℕ) → Tests fn i t a b → (k : ℕ) → suc i ≤ k → k < suc i + a + b → Grown (before p fn i).types (before p fn k).types
  pub on : (i : ℕ) (op : Op) → i < length fn.records → record_at fn i ≡ Some op → shape op ≡ Plain
      → Grown (before p fn (suc i)).types (grown (before p fn i).types (bound p fn (before p fn i).types op))
  pub no : (i : ℕ) (t : Test) (a b : ℕ) → Tests fn i t a b → Grown (before p fn (suc i + a)).types (before p fn i).types
  pub join : (j n : ℕ) → j < length fn.records → record_at fn j ≡ Some (Join n) → Grown (before p fn (suc j + n)).types (before p fn j).types

abbrev pub TypesStand : Type 0
TypesStand = (p : Program) (fn : Function) → Formed p → Accepted p fn → TypesKept p fn

-- the verdict on a program says of each function that none of its records is refused
abbrev pub VerdictStands : Type 0
VerdictStands = (p : Program) → verdict p ≡ Ok tt → (n : ℕ) → n < length p.functions → Accepted p (callee p n)
