-- What the rules ask of a record in the scope that the code has at hand.
use Rattle.std.specs.Prelude.{ℕ, ◌<◌, Bool, List, length, Some, None, Ok, Err, Option, Result}
use Rattle.table.specs.declared.fault.Refusal.{Refusal}
use Rattle.table.specs.declared.types.Mode.{Mode}
use Rattle.table.specs.declared.types.Ty.{Ty}
use Rattle.table.specs.declared.records.Test.{Test}
use Rattle.table.specs.declared.records.Test.TheVariants.{Nil, Same, Equal, Less, Link, Unlink, Swap, Try, Fix, Stable}
use Rattle.table.specs.Faults.{number_of}
use Rattle.table.specs.Records.{Op, New, Null, Int, Share, Own, Get, Take, Set, Add, Call, Fork, Return, Again, Join, Emit, Ask}
use Rattle.rules.specs.declared.scope.Scope.{Scope}
use Rattle.rules.specs.Rules.{Premise, first, premises, asks, bound, yes_types, slot, there, field_mode, field_type, tentative, callee}
use Rattle.rules.specs.Seen.{program_in, function_in}

abbrev pub types_in : Scope → List Ty
types_in s = s.types.now

-- the type of a slot; whether its struct has a field, and that field's mode and declared type
abbrev pub slot_in : Scope → ℕ → Ty
slot_in s x = slot (types_in s) x

abbrev pub there_in : Scope → ℕ → ℕ → Bool
there_in s x f = there (program_in s.body) (function_in s.body) (types_in s) x f

abbrev pub mode_in : Scope → ℕ → ℕ → Mode
mode_in s x f = field_mode (program_in s.body) (function_in s.body) (types_in s) x f

abbrev pub field_type_in : Scope → ℕ → ℕ → Ty
field_type_in s x f = field_type (program_in s.body) (function_in s.body) (types_in s) x f

-- whether y is written to a field of x's that will own it
abbrev pub tentative_in : Scope → ℕ → ℕ → ℕ → Bool
tentative_in s x f y = tentative (program_in s.body) (function_in s.body) (types_in s) x f y

-- the parameters of a function
abbrev pub params_in : Scope → ℕ → List Ty
params_in s n = (callee (program_in s.body) n).params

-- a premise with its refusal, by the refusal's number
abbrev pub by_number : Refusal × Bool → Premise
by_number q = (number_of q.0, q.1)

-- the number that something is refused with
abbrev pub refusal_of : Result (Unit {0}) Refusal → Option ℕ
refusal_of (Ok u) = None
refusal_of (Err r) = Some (number_of r)

-- the number of the first premise of a record that fails
abbrev pub refused : Scope → Op → Option ℕ
refused s op = first (premises (program_in s.body) (function_in s.body) (types_in s) op)

-- and of a test
abbrev pub refused_test : Scope → Test → Option ℕ
refused_test s t = first (asks (program_in s.body) (function_in s.body) (types_in s) t)

-- a field that a record adds to a set or takes from it is among the first eight
abbrev pub Low : Op → Type 0
Low (New z s) = Unit {0}
Low (Null z s) = Unit {0}
Low (Int z n) = Unit {0}
Low (Share z x) = Unit {0}
Low (Own z x) = Unit {0}
Low (Get z x f) = Unit {0}
Low (Take z x f) = Unit {0}
Low (Set z x f y) = f < 8
Low (Add z x y) = Unit {0}
Low (Call z n args) = Unit {0}
Low (Fork n args) = Unit {0}
Low (Return x) = Unit {0}
Low (Again args) = Unit {0}
Low (Join n) = Unit {0}
Low (Emit x) = Unit {0}
Low (Ask t a b) = Unit {0}

-- the slot whose type a test's yes block changes is in scope, and so is its field among the first eight; where none changes, x is in scope
abbrev pub Changes : List Ty → Test → Type 0
Changes ts (Nil x) = x < length ts
Changes ts (Same x y) = x < length ts
Changes ts (Equal x y) = x < length ts
Changes ts (Less x y) = x < length ts
Changes ts (Link x f y g) = x < length ts
Changes ts (Unlink x f y g) = (y < length ts) × (g < 8)
Changes ts (Swap x f y w) = y < length ts
Changes ts (Try x f y) = (x < length ts) × (f < 8)
Changes ts (Fix x f y) = (x < length ts) × (f < 8)
Changes ts (Stable x f) = (x < length ts) × (f < 8)

abbrev pub binding : Scope → Op → Option Ty
binding s op = bound (program_in s.body) (function_in s.body) (types_in s) op

abbrev pub changed : Scope → Test → List Ty
changed s t = yes_types (program_in s.body) (function_in s.body) (types_in s) t
