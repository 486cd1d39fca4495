-- Tables and the verdicts on them, and what flows where.
use Rattle.std.specs.Prelude.{◌≡◌, ℕ, Bool, true, false, List, [], ◌∷◌, Ok, Err, slice_set}
use Rattle.table.specs.declared.fault.Place.TheVariants.{Byte, Record}
use Rattle.table.specs.declared.types.Kind.TheVariants.{Alias, Owned, Pristine}
use Rattle.table.specs.declared.types.Ty.{Ty}
use Rattle.table.specs.Faults.{Passes, fault}
use Rattle.rules.specs.Rules.{flows, type}
use Rattle.rules.specs.Scopes.{judged}

-- one struct with a number, and one function: `int 0` with number 7, `emit 0`, `return 0`
abbrev pub seven : List ℕ
seven =
    0x01 ∷ 0x01 ∷ 0x01 ∷ 0x00 ∷ 0x0C ∷ 0x00 ∷ 0x06 ∷ 0x00 ∷ 0x12 ∷ 0x00 ∷ 0x29 ∷ 0x00
    ∷ 0x01 ∷ 0x00 ∷ 0x00 ∷ 0x00 ∷ 0x00 ∷ 0x00
    ∷ 0x00 ∷ 0x00 ∷ 0x00 ∷ 0x00 ∷ 0x00
    ∷ 3 ∷ 0 ∷ 0 ∷ 0 ∷ 0 ∷ 0 ∷ 0 ∷ 0 ∷ 7 ∷ 0 ∷ 0 ∷ 0
    ∷ 15 ∷ 0 ∷ 0 ∷ 0 ∷ 0 ∷ 0 ∷ 0 ∷ 0 ∷ 0 ∷ 0 ∷ 0 ∷ 0
    ∷ 12 ∷ 0 ∷ 0 ∷ 0 ∷ 0 ∷ 0 ∷ 0 ∷ 0 ∷ 0 ∷ 0 ∷ 0 ∷ 0
    ∷ []

-- the number of its first record, in four bytes
abbrev pub numbered : ℕ → ℕ → ℕ → ℕ → List ℕ
numbered a b c d = slice_set (slice_set (slice_set (slice_set seven 31 a) 32 b) 33 c) 34 d

-- a table with its verdict, or two types and whether the first flows to the second
pub data Example : Type 0 where
  Judged : (bytes : List ℕ) (verdict : Passes) → Example
  Flows : (from to : Ty) (does : Bool) → Example

abbrev pub Right : Example → Type 0
Right (Judged b v) = judged b ≡ v
Right (Flows t u x) = flows t u ≡ x

abbrev pub table : List Example
table =
    Judged seven (Ok tt)
    ∷ Judged (slice_set seven 0 2) (Err (fault 2 (Byte 0)))
    ∷ Judged (slice_set seven 10 0x28) (Err (fault 4 (Byte 8)))
    ∷ Judged (slice_set seven 24 1) (Err (fault 21 (Record 0 0)))
    ∷ Judged (slice_set seven 37 1) (Err (fault 22 (Record 0 1)))
    ∷ Judged (numbered 0 0 0 0x80) (Err (fault 20 (Record 0 0)))
    ∷ Judged (numbered 0xFF 0xFF 0xFF 0x7F) (Ok tt)
    ∷ Flows (type Owned 0 0) (type Alias 0 0) true
    ∷ Flows (type Alias 0 0) (type Owned 0 0) false
    ∷ Flows (type Pristine 0 0) (type Alias 0 0) false
    ∷ []

abbrev pub AllRight : List Example → Type 0
AllRight [] = Unit {0}
AllRight (e ∷ es) = Right e × AllRight es

abbrev pub Examples : Type 0
Examples = AllRight table
