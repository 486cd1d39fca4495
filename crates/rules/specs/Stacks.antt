-- How one list of types and a short list of open blocks stand for the state before a record.
use Rattle.std.specs.Prelude.{◌≡◌, ℕ, ◌-◌, ◌<◌, ◌≤◌, List, [], ◌∷◌, reverse, length, Some, None, Ok, Err, Option}
use Rattle.table.specs.declared.types.Ty.{Ty}
use Rattle.table.specs.Faults.{Passes}
use Rattle.list.specs.Held.{held}
use Rattle.rules.specs.declared.body.Body.{Body}
use Rattle.rules.specs.declared.parts.Part.{Part}
use Rattle.rules.specs.declared.parts.Sort.{Sort}
use Rattle.rules.specs.declared.parts.Sort.TheVariants.{InBody, InYes, InNo}
use Rattle.rules.specs.declared.nesting.Blocks.{Blocks}
use Rattle.rules.specs.declared.nesting.Open.{Open}
use Rattle.rules.specs.Rules.{record_at}
use Rattle.rules.specs.Scopes.{Block, Yes, No, State, state, settled, refusal, after}
use Rattle.rules.specs.Seen.{program_in, function_in}
use Rattle.rules.specs.InScope.{back}

-- a yes block has the count of the no block behind it
abbrev pub block_by : Option ℕ → ℕ → List Ty → Block
block_by (Some k) e s = Yes k e s
block_by None e s = No e s

abbrev pub sort_by : Option ℕ → Sort
sort_by (Some k) = InYes k
sort_by None = InNo

abbrev pub following : Option ℕ → ℕ
following (Some k) = k
following None = 0

-- the blocks that are open, the innermost first
abbrev pub blocks_of : List Ty → List Open → List Block
blocks_of ts [] = []
blocks_of ts (o ∷ os) = block_by o.count o.end (back ts o.saved) ∷ blocks_of (back ts o.saved) os

abbrev pub state_of : List Ty → List Open → State
state_of ts os = state ts (blocks_of ts os)

abbrev pub stack : Blocks → List Open
stack s = reverse (held s.list.now)

-- each open block began with no more slots in scope than there are, and the one that changed among them
abbrev pub Deep : ℕ → List Open → Type 0
Deep n [] = Unit {0}
Deep n (o ∷ os) = (o.saved.depth ≤ n) × (o.saved.slot < o.saved.depth) × Deep o.saved.depth os

-- the innermost block from record i on, in a body of this size
abbrev pub part_at : ℕ → ℕ → List Open → Part
part_at size i [] = record { place = i; end = size; levels = 7; sort = InBody; floor = 0 }
part_at size i (o ∷ os) = record { place = i; end = o.end; levels = 7 - length (o ∷ os); sort = sort_by o.count; floor = o.saved.depth }

-- record i of a body is not refused in a state, and these types and open blocks stand for the state behind it
pub record Behind (b : Body) (i : ℕ) (S : State) (ts : List Ty) (os : List Open) : Type 0 where
  pub allowed : refusal (program_in b) (function_in b) i S (record_at (function_in b) i) ≡ None
  pub is : state_of ts os ≡ after (program_in b) (function_in b) i S (record_at (function_in b) i)
  pub deep : Deep (length ts) os

-- what passing it answers
abbrev pub Passed : Body → ℕ → State → List Ty → List Open → Passes → Type 0
Passed b i S ts os (Ok u) = Behind b i S ts os
Passed b i S ts os (Err e) = Err e ≡ settled (refusal (program_in b) (function_in b) i S (record_at (function_in b) i)) b.function i
