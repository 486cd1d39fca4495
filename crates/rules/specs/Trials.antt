-- Bodies and the verdicts on them: what the rules say where tests, blocks and withheld fields meet.
use Rattle.std.specs.Prelude.{◌≡◌, ℕ, ◌+◌, ◌*◌, ◌/◌, ◌%◌, List, [], ◌∷◌, ◌++◌, map, take, Ok, Err, Option}
use Rattle.table.specs.declared.fault.Place.TheVariants.{Record}
use Rattle.table.specs.declared.types.Kind.TheVariants.{Owned, Alias}
use Rattle.table.specs.declared.types.Mode.{Mode}
use Rattle.table.specs.declared.types.Mode.TheVariants.{Var, Val, Once, Spec}
use Rattle.table.specs.declared.types.Ty.{Ty}
use Rattle.table.specs.declared.types.Field.{Field}
use Rattle.table.specs.Faults.{fault, Passes}
use Rattle.table.specs.Records.{Op, decoded}
use Rattle.table.specs.Program.{Function, Program}
use Rattle.rules.specs.Rules.{type, number, slot}
use Rattle.rules.specs.Scopes.{verdict, before}

abbrev pub a_field : Mode → Ty → Field
a_field m t = record { mode = m; ty = t }

-- var number, val owned, once owned, spec owned, var owned, spec alias
abbrev pub a_struct : List Field
a_struct =
    a_field Var number ∷ a_field Val (type Owned 0 0) ∷ a_field Once (type Owned 0 0) ∷ a_field Spec (type Owned 0 0) ∷ a_field Var (type Owned 0 0) ∷ a_field Spec (type Alias 0 0) ∷ []

-- a record: its op, slot byte, operand bytes and number
abbrev pub r : ℕ → ℕ → List ℕ → ℕ → Option Op
r op z xs n = decoded (op ∷ z ∷ take 6 (xs ++ (0 ∷ 0 ∷ 0 ∷ 0 ∷ 0 ∷ 0 ∷ [])) ++ (n % 256 ∷ n / 256 % 256 ∷ n / 65536 % 256 ∷ n / 16777216 ∷ []))

abbrev pub counts : ℕ → ℕ → ℕ
counts a b = a + 65536 * b

abbrev pub main : List (Option Op) → Function
main rs = record { params = []; result = number; records = rs }

abbrev pub two : Function
two = record { params = type Owned 0 0 ∷ number ∷ []; result = type Owned 0 0; records = r 12 0 (0 ∷ []) 0 ∷ [] }

abbrev pub around : List (Option Op) → Program
around rs = record { structs = a_struct ∷ []; functions = main rs ∷ two ∷ [] }

abbrev pub bad : ℕ → ℕ → Passes
bad n i = Err (fault n (Record 0 i))

abbrev pub int : ℕ → Option Op
int z = r 3 z [] 7

-- two numbers, then a test of them
abbrev pub asking : ℕ → ℕ → List (Option Op) → List (Option Op)
asking a b rs = int 0 ∷ int 1 ∷ r 18 0 (0 ∷ 1 ∷ []) (counts a b) ∷ rs

abbrev pub return : ℕ → Option Op
return x = r 12 0 (x ∷ []) 0

abbrev pub emit : ℕ → Option Op
emit x = r 15 0 (x ∷ []) 0

abbrev pub join : ℕ → Option Op
join n = r 14 0 [] n

-- slot 0 null, slot 1 owned, slot 2 an alias of slot 1, slot 3 pristine, slot 4 a number, slot 5 an alias read from a field
abbrev pub objects : List (Option Op) → List (Option Op)
objects rs = r 1 0 (0 ∷ []) 0 ∷ r 5 1 (0 ∷ []) 0 ∷ r 4 2 (1 ∷ []) 0 ∷ r 1 3 (0 ∷ []) 0 ∷ int 4 ∷ r 6 5 (1 ∷ 3 ∷ []) 0 ∷ rs

abbrev pub finishing : Option Op → List (Option Op)
finishing t = objects (t ∷ return 4 ∷ return 4 ∷ [])

abbrev pub bodies_table : List (List (Option Op) × Passes)
bodies_table =
    (asking 1 0 (return 0 ∷ return 0 ∷ []), Ok tt)
    ∷ (asking 1 1 (join 1 ∷ emit 0 ∷ return 0 ∷ []), Ok tt)
    ∷ (asking 1 1 (join 2 ∷ emit 0 ∷ return 0 ∷ []), bad 28 3)
    ∷ (asking 1 0 (emit 0 ∷ return 0 ∷ []), bad 28 3)
    ∷ (asking 1 1 (join 1 ∷ return 0 ∷ []), bad 28 2)
    ∷ (asking 2 5 (join 1 ∷ return 0 ∷ []), bad 28 2)
    ∷ (asking 0 0 (return 0 ∷ []), bad 28 2)
    ∷ (int 0 ∷ join 0 ∷ return 0 ∷ [], bad 28 1)
    ∷ (int 0 ∷ return 0 ∷ return 0 ∷ [], bad 28 1)
    ∷ (int 0 ∷ [], bad 28 0)
    ∷ (asking 1 3 (join 3 ∷ r 18 0 (0 ∷ 1 ∷ []) (counts 1 1) ∷ join 1 ∷ emit 0 ∷ return 0 ∷ []), Ok tt)
    ∷ (asking 3 0 (r 18 0 (0 ∷ 1 ∷ []) (counts 1 1) ∷ join 1 ∷ emit 0 ∷ return 0 ∷ []), bad 28 3)
    ∷ (asking 2 1 (int 2 ∷ join 1 ∷ int 2 ∷ int 2 ∷ return 2 ∷ []), Ok tt)
    ∷ (asking 2 1 (int 2 ∷ join 1 ∷ int 2 ∷ emit 2 ∷ return 0 ∷ []), bad 22 6)
    ∷ (asking 1 1 (join 1 ∷ join 0 ∷ return 0 ∷ []), bad 28 4)
    ∷ (asking 1 1 (join 1 ∷ return 1 ∷ return 0 ∷ []), Ok tt)
    ∷ (finishing (r 20 0 (1 ∷ 3 ∷ 3 ∷ 1 ∷ []) 1), bad 26 6)
    ∷ (objects (r 8 6 (3 ∷ 1 ∷ 2 ∷ []) 0 ∷ r 20 0 (1 ∷ 3 ∷ 6 ∷ 1 ∷ []) 1 ∷ return 4 ∷ return 4 ∷ []), Ok tt)
    ∷ (finishing (r 21 0 (1 ∷ 3 ∷ 5 ∷ 1 ∷ []) 1), Ok tt)
    ∷ (finishing (r 21 0 (1 ∷ 3 ∷ 5 ∷ 2 ∷ []) 1), bad 26 6)
    ∷ (finishing (r 21 0 (1 ∷ 3 ∷ 5 ∷ 0 ∷ []) 1), bad 25 6)
    ∷ (finishing (r 21 0 (1 ∷ 3 ∷ 3 ∷ 1 ∷ []) 1), bad 24 6)
    ∷ (finishing (r 22 0 (1 ∷ 3 ∷ 5 ∷ 3 ∷ []) 1), Ok tt)
    ∷ (finishing (r 22 0 (1 ∷ 3 ∷ 5 ∷ 5 ∷ []) 1), bad 22 6)
    ∷ (finishing (r 23 0 (1 ∷ 2 ∷ 3 ∷ []) 1), Ok tt)
    ∷ (finishing (r 23 0 (1 ∷ 3 ∷ 3 ∷ []) 1), bad 25 6)
    ∷ (finishing (r 24 0 (2 ∷ 3 ∷ 1 ∷ []) 1), Ok tt)
    ∷ (finishing (r 25 0 (3 ∷ 3 ∷ []) 1), bad 24 6)
    ∷ (finishing (r 25 0 (1 ∷ 8 ∷ []) 1), bad 25 6)
    ∷ (finishing (r 25 0 (1 ∷ 3 ∷ 0 ∷ 1 ∷ []) 1), bad 20 6)
    ∷ (objects (r 11 0 (1 ∷ 3 ∷ 4 ∷ []) 0 ∷ return 4 ∷ []), Ok tt)
    ∷ (objects (r 11 0 (1 ∷ 3 ∷ 3 ∷ []) 0 ∷ return 4 ∷ []), bad 22 6)
    ∷ (objects (r 11 0 (1 ∷ 3 ∷ 4 ∷ 1 ∷ []) 0 ∷ return 4 ∷ []), bad 23 6)
    ∷ (objects (r 11 0 (2 ∷ 9 ∷ 9 ∷ []) 0 ∷ return 4 ∷ []), bad 23 6)
    ∷ (objects (r 10 6 (1 ∷ 2 ∷ 4 ∷ []) 0 ∷ return 4 ∷ []), bad 27 6)
    ∷ (objects (r 8 6 (3 ∷ 3 ∷ 2 ∷ []) 0 ∷ r 8 7 (6 ∷ 3 ∷ 1 ∷ []) 0 ∷ r 5 8 (7 ∷ []) 0 ∷ return 4 ∷ []), Ok tt)
    ∷ (objects (r 8 6 (3 ∷ 3 ∷ 2 ∷ []) 0 ∷ r 5 7 (6 ∷ []) 0 ∷ return 4 ∷ []), bad 26 7)
    ∷ (objects (r 8 6 (1 ∷ 3 ∷ 2 ∷ []) 0 ∷ return 4 ∷ []), bad 25 6)
    ∷ (objects (r 6 6 (2 ∷ 4 ∷ []) 0 ∷ return 4 ∷ []), bad 26 6)
    ∷ []

-- the type of a slot in the yes block, and behind it
abbrev pub types_of : List (Option Op) → ℕ → ℕ → Ty
types_of rs i x = slot (before (around rs) (main rs) i).types x

abbrev pub types_table : List (Ty × Ty)
types_table =
    (types_of (finishing (r 21 0 (1 ∷ 3 ∷ 5 ∷ 1 ∷ []) 1)) 7 5, type Owned 0 2)
    ∷ (types_of (finishing (r 21 0 (1 ∷ 3 ∷ 5 ∷ 1 ∷ []) 1)) 8 5, type Alias 0 0)
    ∷ (types_of (finishing (r 22 0 (1 ∷ 3 ∷ 5 ∷ 3 ∷ []) 1)) 7 5, type Owned 0 0)
    ∷ (types_of (finishing (r 23 0 (1 ∷ 2 ∷ 3 ∷ []) 1)) 7 1, type Owned 0 4)
    ∷ (types_of (finishing (r 23 0 (1 ∷ 2 ∷ 3 ∷ []) 1)) 8 1, type Owned 0 0)
    ∷ []

abbrev pub Trials : Type 0
Trials = (map (λ e. verdict (around e.0)) bodies_table ≡ map (λ e. e.1) bodies_table) × (map (λ e. e.0) types_table ≡ map (λ e. e.1) types_table)
