-- The scopes before the records of bodies where tests and blocks meet, computed.
use Rattle.std.specs.Prelude.{◌≡◌, ℕ, List, [], ◌∷◌, map, Ok, Err, Option, Result}
use Rattle.table.specs.declared.fault.Fault.{Fault}
use Rattle.table.specs.declared.fault.Place.TheVariants.{Nothing, Record}
use Rattle.table.specs.Faults.{fault}
use Rattle.table.specs.Records.{Op}
use Rattle.rules.specs.Before.{scoped}
use Rattle.rules.specs.Trials.{around, asking, int, join, return, emit}

-- a body that binds a slot in each block of its test and behind it, and one whose record 6 is refused
abbrev pub in_blocks : List (Option Op)
in_blocks = asking 2 1 (int 2 ∷ join 1 ∷ int 2 ∷ int 2 ∷ return 2 ∷ [])

abbrev pub refused_late : List (Option Op)
refused_late = asking 2 1 (int 2 ∷ join 1 ∷ int 2 ∷ emit 2 ∷ return 0 ∷ [])

-- how many types are in scope before a record of the first function
abbrev pub counted : ℕ → List (Option Op) → ℕ → Result ℕ Fault
counted room rs i = scoped room (around rs) 0 i

abbrev pub scopes_table : List (Result ℕ Fault × Result ℕ Fault)
scopes_table =
    (counted 128 in_blocks 0, Ok 0)
    ∷ (counted 128 in_blocks 4, Ok 3)
    ∷ (counted 128 in_blocks 5, Ok 2)
    ∷ (counted 128 in_blocks 6, Ok 2)
    ∷ (counted 128 in_blocks 7, Ok 3)
    ∷ (counted 128 in_blocks 8, Err (fault 20 (Record 0 8)))
    ∷ (counted 127 in_blocks 4, Err (fault 30 Nothing))
    ∷ (counted 128 refused_late 6, Ok 2)
    ∷ (counted 128 refused_late 7, Err (fault 22 (Record 0 6)))
    ∷ []

abbrev pub ScopeTrials : Type 0
ScopeTrials = map (λ e. e.0) scopes_table ≡ map (λ e. e.1) scopes_table
