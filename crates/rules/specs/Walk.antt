-- The way to the scope before a record.
use Rattle.std.specs.Prelude.{◌≡◌, ℕ, ◌<◌, ◌≤◌, List, length, take, Some, None, Option}
use Rattle.table.specs.declared.types.Ty.{Ty}
use Rattle.table.specs.Records.{Op}
use Rattle.table.specs.Program.{Function, Program}
use Rattle.rules.specs.declared.body.Body.{Body}
use Rattle.rules.specs.Rules.{first, premises}
use Rattle.rules.specs.Scopes.{end_of, before}
use Rattle.rules.specs.Blocks.{Accepted}
use Rattle.rules.specs.Seen.{program_in, function_in}

-- what a record says, unless its rule refuses it
abbrev pub unless : Option ℕ → Op → Option Op
unless None op = Some op
unless (Some n) op = None

abbrev pub allowing : Program → Function → List Ty → Option Op → Option Op
allowing p fn ts None = None
allowing p fn ts (Some op) = unless (first (premises p fn ts op)) op

-- these are the types in scope before record i, and record j lies in its innermost block
pub record Toward (p : Program) (fn : Function) (j i : ℕ) (ts : List Ty) : Type 0 where
  pub types : (before p fn i).types ≡ ts
  pub inside : j < end_of (length fn.records) (before p fn i).blocks

-- the same in a body, if it is accepted and has a record j
abbrev pub Way : Body → ℕ → ℕ → List Ty → Type 0
Way b j i ts = Accepted (program_in b) (function_in b) → j < length (function_in b).records → Toward (program_in b) (function_in b) j i ts

-- a step from record i is nearer to record j
abbrev pub Nearer : ℕ → ℕ → Option ℕ → Type 0
Nearer i j None = Unit {0}
Nearer i j (Some k) = (i < k) × (k ≤ j)

-- and it leads to record j, with these types in scope
abbrev pub Leads : Body → ℕ → List Ty → Option ℕ → Type 0
Leads b j ts None = Accepted (program_in b) (function_in b) → j < length (function_in b).records → ⊥
Leads b j ts (Some k) = Way b j k ts

-- an answer gives these types, in the front of xs
pub record Gives (ts xs : List Ty) (r : Option ℕ) : Type 0 where
  pub count : r ≡ Some (length ts)
  pub types : take (length ts) xs ≡ ts
