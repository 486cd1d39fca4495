-- Refusals, and the first of several.
use Rattle.std.specs.Prelude.{ℕ, zero, suc, Bool, true, false, cond, Ok, Err, Result, nat_lt, ◌≡◌, ◌<◌}
use Rattle.table.specs.declared.fault.Layer.{Layer}
use Rattle.table.specs.declared.fault.Layer.TheVariants.{File, Rules, Run}
use Rattle.table.specs.declared.fault.Refusal.{Refusal}
use Rattle.table.specs.declared.fault.Refusal.TheVariants as refusal
use Rattle.table.specs.declared.fault.Place.{Place}
use Rattle.table.specs.declared.fault.Fault.{Fault}

-- the number of each refusal
abbrev pub number_of : Refusal → ℕ
number_of refusal.Length = 1
number_of refusal.Edition = 2
number_of refusal.Counts = 3
number_of refusal.Sections = 4
number_of refusal.Structs = 5
number_of refusal.Functions = 6
number_of refusal.Types = 7
number_of refusal.Entry = 8
number_of refusal.Record = 20
number_of refusal.Binding = 21
number_of refusal.Operand = 22
number_of refusal.Callee = 23
number_of refusal.Kind = 24
number_of refusal.Field = 25
number_of refusal.Withheld = 26
number_of refusal.Flow = 27
number_of refusal.Block = 28
number_of refusal.Leak = 29
number_of refusal.Scratch = 30
number_of refusal.Full = 50
number_of refusal.Absent = 51
number_of refusal.Capacity = 52
number_of refusal.InUse = 60
number_of refusal.NoObject = 63
number_of refusal.NotRunning = 64
number_of refusal.NoRoom = 65
number_of refusal.Frames = 66
number_of refusal.Threads = 67
number_of refusal.List = 68
number_of refusal.Unknown = 69
number_of refusal.NoRecord = 70
number_of refusal.NoOperand = 71
number_of refusal.Sort = 72
number_of refusal.NoPart = 73
number_of refusal.Lost = 74

-- what is refused by a number
abbrev pub numbered : {A : Type 0} → Result A Refusal → Result A ℕ
numbered (Ok x) = Ok x
numbered (Err r) = Err (number_of r)

-- a condition, with its refusal
abbrev pub required : {E : Type 0} → Bool → E → Result (Unit {0}) E
required true e = Ok tt
required false e = Err e

-- the layer of a refusal's number
abbrev pub layered : ℕ → Layer
layered n = cond (nat_lt n 20) File (cond (nat_lt n 50) Rules Run)

abbrev pub fault : ℕ → Place → Fault
fault n place = record { number = n; layer = layered n; place = place }

-- nothing to say but that it is not refused
abbrev pub Passes : Type 0
Passes = Result (Unit {0}) Fault

infixl 20 ◌>>=◌
-- what comes after, or the refusal
abbrev pub ◌>>=◌ : {A B : Type 0} → Result A Fault → (A → Result B Fault) → Result B Fault
Ok x >>= k = k x
Err e >>= k = Err e

-- a condition, with its number and place
abbrev pub need : Bool → ℕ → Place → Passes
need holds n place = required holds (fault n place)

-- the first refusal at the places 0 to n - 1
abbrev pub each : ℕ → (ℕ → Passes) → Passes
each zero at = Ok tt
each (suc n) at = each n at >>= λ _. at n

-- whatever is answered at the places 0 to n - 1 is what `at` has there
abbrev pub Answers : (ℕ → Passes → Type 0) → ℕ → (ℕ → Passes) → Type 0
Answers answered n at = (i : ℕ) (r : Passes) → i < n → answered i r → r ≡ at i
