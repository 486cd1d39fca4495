-- Runs of small programs, accepted and not, and what their steps answer.
use Rattle.std.specs.Prelude.{◌≡◌, ℕ, ◌^◌, List, [], ◌∷◌, ◌++◌, map, take, replicate, Some, None, Ok, Err, Option, Result}
use Rattle.table.specs.declared.fault.Fault.{Fault}
use Rattle.table.specs.declared.fault.Place.TheVariants.{Nothing, Record, Thread}
use Rattle.table.specs.declared.types.Kind.TheVariants.{Alias, Owned}
use Rattle.table.specs.declared.types.Mode.{Mode}
use Rattle.table.specs.declared.types.Mode.TheVariants.{Var, Val, Once, Spec}
use Rattle.table.specs.declared.types.Ty.{Ty}
use Rattle.table.specs.declared.types.Field.{Field}
use Rattle.table.specs.declared.records.Test.TheVariants.{Equal, Link, Unlink, Swap, Try, Fix, Stable}
use Rattle.table.specs.Faults.{Passes, fault, ◌>>=◌}
use Rattle.table.specs.Records.{Op, New, Null, Int, Share, Own, Get, Set, Add, Call, Fork, Return, Again, Join, Emit, Ask}
use Rattle.table.specs.Program.{Function, Program, program}
use Rattle.rules.specs.Rules.{type, number}
use Rattle.rules.specs.Scopes.{verdict}
use Rattle.memory.specs.declared.object.Object.{Object}
use Rattle.memory.specs.Model.{Store, fresh}
use Rattle.machine.specs.declared.threads.Slot.{Slot}
use Rattle.machine.specs.declared.threads.Slot.TheVariants as V
use Rattle.machine.specs.declared.threads.Status.{Status}
use Rattle.machine.specs.declared.threads.Status.TheVariants.{Running, Ended, Halted}
use Rattle.machine.specs.declared.clashing.Clash.{Clash}
use Rattle.machine.specs.World.{Task, World, starting, started}
use Rattle.machine.specs.Steps.{Taken, stepped, after_step}
use Rattle.machine.specs.Clashes.{clashes}
use Rattle.safety.specs.Owners.{owners}
use Rattle.safety.specs.Runs.{runs}

abbrev pub field_of : Mode → Ty → Field
field_of m t = record { mode = m; ty = t }

-- fields 0 to 4: spec owned, val owned, var number, val number, once owned
abbrev pub node : List Field
node =
    field_of Spec (type Owned 0 0) ∷ field_of Val (type Owned 0 0)
    ∷ field_of Var number ∷ field_of Val number ∷ field_of Once (type Owned 0 0) ∷ []

-- a function of these records, and a program of one struct with such a body for function 0
abbrev pub function_of : List Ty → Ty → List (Option Op) → Function
function_of ps t rs = record { params = ps; result = t; records = rs }

abbrev pub says : List Op → List (Option Op)
says ops = map (λ (o : Op). Some o) ops

abbrev pub around : List Op → List Function → Program
around ops fs = record { structs = node ∷ []; functions = function_of [] number (says ops) ∷ fs }

-- so many argument bytes
abbrev pub bytes : ℕ → List ℕ → List ℕ
bytes n xs = take n (xs ++ replicate n 0)

-- the first program of all: put 7 out, and end
abbrev pub seven : Program
seven = around (Int 0 7 ∷ Emit 0 ∷ Return 0 ∷ []) []

-- the same as a table
abbrev pub seven_bytes : List ℕ
seven_bytes =
    1 ∷ 1 ∷ 1 ∷ 0 ∷ 12 ∷ 0 ∷ 6 ∷ 0 ∷ 18 ∷ 0 ∷ 41 ∷ 0
    ∷ 1 ∷ 0 ∷ 0 ∷ 0 ∷ 0 ∷ 0
    ∷ 0 ∷ 0 ∷ 0 ∷ 0 ∷ 0
    ∷ 3 ∷ 0 ∷ 0 ∷ 0 ∷ 0 ∷ 0 ∷ 0 ∷ 0 ∷ 7 ∷ 0 ∷ 0 ∷ 0
    ∷ 15 ∷ 0 ∷ 0 ∷ 0 ∷ 0 ∷ 0 ∷ 0 ∷ 0 ∷ 0 ∷ 0 ∷ 0 ∷ 0
    ∷ 12 ∷ 0 ∷ 0 ∷ 0 ∷ 0 ∷ 0 ∷ 0 ∷ 0 ∷ 0 ∷ 0 ∷ 0 ∷ 0 ∷ []

-- a push and a pop: a tentative write, link, unlink
abbrev pub push_pop : Program
push_pop = around
    (New 0 0 ∷ Own 1 0 ∷ New 2 0 ∷ Int 3 5 ∷ Set 4 2 3 3 ∷ Get 5 1 0 ∷ Set 6 4 1 5
    ∷ Ask (Link 1 0 6 1) 4 1 ∷ Get 7 1 0 ∷ Get 8 7 3 ∷ Emit 8 ∷ Join 1 ∷ Emit 3
    ∷ Get 7 1 0 ∷ Ask (Unlink 1 0 7 1) 3 1 ∷ Get 8 7 3 ∷ Emit 8 ∷ Join 1 ∷ Emit 3
    ∷ Return 3 ∷ []) []

-- try once, and once more in vain; then the field is stable
abbrev pub once_only : Program
once_only = around
    (New 0 0 ∷ Own 1 0 ∷ New 2 0 ∷ Int 3 5
    ∷ Ask (Try 1 4 2) 2 0 ∷ Emit 3 ∷ Join 0
    ∷ New 4 0 ∷ Ask (Try 1 4 4) 2 0 ∷ Emit 3 ∷ Join 0
    ∷ Ask (Stable 1 4) 2 0 ∷ Emit 3 ∷ Join 0 ∷ Return 3 ∷ []) []

-- swap, fix, and a swap of a marked field in vain
abbrev pub swap_fix : Program
swap_fix = around
    (Int 0 5 ∷ New 1 0 ∷ Own 2 1 ∷ New 3 0 ∷ Get 4 2 0
    ∷ Ask (Swap 2 0 4 3) 2 0 ∷ Emit 0 ∷ Join 0
    ∷ Get 5 2 0 ∷ Ask (Fix 2 0 5) 2 0 ∷ Emit 0 ∷ Join 0
    ∷ Ask (Swap 2 0 5 3) 2 0 ∷ Emit 0 ∷ Join 0 ∷ Return 0 ∷ []) []

-- a call that hands an owned object over and back, and a fork that takes it
abbrev pub hand_over : Program
hand_over = around
    (New 0 0 ∷ Own 1 0 ∷ Int 2 7 ∷ Call 3 1 (bytes 5 (1 ∷ 2 ∷ [])) ∷ Fork 1 (bytes 5 (3 ∷ 2 ∷ [])) ∷ Return 2 ∷ [])
    (function_of (type Owned 0 0 ∷ number ∷ []) (type Owned 0 0) (says (Return 0 ∷ [])) ∷ [])

-- a function that goes round three times
abbrev pub loops : Program
loops = around
    (Int 0 0 ∷ Call 1 1 (bytes 5 (0 ∷ [])) ∷ Return 1 ∷ [])
    (function_of (number ∷ []) number
    (says (Int 1 2 ∷ Ask (Equal 0 1) 1 0 ∷ Return 0 ∷ Emit 0 ∷ Int 2 1 ∷ Add 3 0 2 ∷ Again (bytes 6 (3 ∷ [])) ∷ [])) ∷ [])

-- a function that calls itself, and one that forks for ever
abbrev pub deep : Program
deep = around (Call 0 1 (bytes 5 []) ∷ Return 0 ∷ []) (function_of [] number (says (Call 0 1 (bytes 5 []) ∷ Return 0 ∷ [])) ∷ [])

abbrev pub many : Program
many = around (Fork 1 (bytes 5 []) ∷ Again (bytes 6 []) ∷ []) (function_of [] number (says (Int 0 0 ∷ Return 0 ∷ [])) ∷ [])

-- not accepted: a thread that is forked with an alias gets a var field of its object
abbrev pub clashing : Program
clashing = around
    (New 0 0 ∷ Own 1 0 ∷ Share 2 1 ∷ Fork 1 (bytes 5 (2 ∷ [])) ∷ Get 3 1 2 ∷ Return 3 ∷ [])
    (function_of (type Alias 0 0 ∷ []) number (says (Get 1 0 2 ∷ Return 1 ∷ [])) ∷ [])

-- not accepted: one owned slot goes to two parameters
abbrev pub twice : Program
twice = around
    (New 0 0 ∷ Own 1 0 ∷ Call 2 1 (bytes 5 (1 ∷ 1 ∷ [])) ∷ Return 2 ∷ [])
    (function_of (type Owned 0 0 ∷ type Owned 0 0 ∷ []) number (says (Int 2 0 ∷ Return 2 ∷ [])) ∷ [])

-- a null x
abbrev pub null_get : Program
null_get = around (Null 0 0 ∷ Get 1 0 2 ∷ []) []

-- what a turn answers: it goes, puts a number out, or is refused
pub data Answer : Type 0 where
  Goes : Answer
  Puts Stops : ℕ → Answer

abbrev pub put : Option ℕ → Answer
put None = Goes
put (Some n) = Puts n

abbrev pub answer : Result Taken Fault → Answer
answer (Ok t) = put t.out
answer (Err e) = Stops e.number

abbrev pub answers : Program → World → List (ℕ × ℕ) → List Answer
answers p W [] = []
answers p W (t ∷ ts) = let s = stepped p t.1 W t.0 in answer s ∷ answers p (after_step W s) ts

-- so many turns of a thread, with room in the list
abbrev pub turns : ℕ → ℕ → List (ℕ × ℕ)
turns n i = replicate n (i, 9)

abbrev pub go : ℕ → List Answer
go n = replicate n Goes

abbrev pub empty : ℕ → World
empty c = starting (record { capacity = c; objects = [] })

abbrev pub after : Program → ℕ → ℕ → World
after p c n = runs p (empty c) (turns n 0)

-- a last record behind a new object in slot 0 and a number in slot 1
abbrev pub last_answer : Option Op → Answer
last_answer r =
    let p : Program = record { structs = node ∷ []; functions = function_of [] number (Some (New 0 0) ∷ Some (Int 1 7) ∷ r ∷ []) ∷ [] } in
    answer (stepped p 9 (after p 1 2) 0)

-- the same in a machine that no run reaches: these slots, and this memory
abbrev pub alone : List Slot → List Object → World
alone vs os = record {
  tasks = record { status = Running; frames = record { function = 0; index = 0; slots = take 16 (vs ++ replicate 16 V.Empty) } ∷ [] } ∷ [];
  memory = record { capacity = 8; objects = os };
}

abbrev pub refused_with : Result Taken Fault → Option Fault
refused_with (Ok t) = None
refused_with (Err e) = Some e

pub data Case : Type 0 where
  Judges : Program → Passes → Case
  Answers : Program → ℕ → List (ℕ × ℕ) → List Answer → Case
  Leaves : Program → ℕ → List (ℕ × ℕ) → List Status → Case
  Owners : Program → ℕ → World → ℕ → Result ℕ Fault → Case
  Clashes : Program → World → Option Clash → Case
  Last : Option Op → Answer → Case
  Refuses : Program → World → Option Fault → Case
  Starts : Store → Result World Fault → Case

abbrev pub CaseHolds : Case → Type 0
CaseHolds (Judges p v) = verdict p ≡ v
CaseHolds (Answers p c ts rs) = answers p (empty c) ts ≡ rs
CaseHolds (Leaves p c ts ss) = map (λ (t : Task). t.status) (runs p (empty c) ts).tasks ≡ ss
CaseHolds (Owners p scratch W o r) = owners scratch p W o ≡ r
CaseHolds (Clashes p W c) = clashes p W ≡ c
CaseHolds (Last r a) = last_answer r ≡ a
CaseHolds (Refuses p W e) = refused_with (stepped p 9 W 0) ≡ e
CaseHolds (Starts m r) = started m ≡ r

abbrev pub AllHold : List Case → Type 0
AllHold [] = Unit {0}
AllHold (c ∷ cs) = CaseHolds c × AllHold cs

abbrev pub accepted : Passes
accepted = Ok tt

abbrev pub first_object : List Object
first_object = fresh 0 ∷ []

abbrev pub cases : List Case
cases =
    Answers seven 1 (turns 4 0) (Goes ∷ Puts 7 ∷ Goes ∷ Stops 64 ∷ [])
    -- a full list; threads that are not there
    ∷ Answers seven 1 ((0, 1) ∷ (0, 0) ∷ (1, 1) ∷ (8, 1) ∷ (0, 1) ∷ []) (Goes ∷ Stops 68 ∷ Stops 64 ∷ Stops 64 ∷ Puts 7 ∷ [])
    ∷ Judges push_pop accepted
    ∷ Answers push_pop 2 (turns 19 0) (go 10 ++ (Puts 5 ∷ go 4 ++ (Puts 5 ∷ Goes ∷ Goes ∷ Stops 64 ∷ [])))
    -- a full memory
    ∷ Answers push_pop 1 (turns 3 0) (Goes ∷ Goes ∷ Stops 65 ∷ [])
    -- the second object is owned by a slot, by the field behind the link, by a slot in the yes block of unlink, and by none behind that
    ∷ Owners push_pop 128 (after push_pop 2 3) 1 (Ok 1)
    ∷ Owners push_pop 128 (after push_pop 2 7) 1 (Ok 1)
    ∷ Owners push_pop 128 (after push_pop 2 8) 1 (Ok 0)
    ∷ Owners push_pop 128 (after push_pop 2 14) 1 (Ok 1)
    ∷ Owners push_pop 128 (after push_pop 2 17) 1 (Ok 0)
    -- in the order of its refusals: scratch, the verdict, the object, a frame
    ∷ Owners twice 127 (after push_pop 2 3) 2 (Err (fault 30 Nothing))
    ∷ Owners twice 128 (after push_pop 2 3) 2 (Err (fault 22 (Record 0 2)))
    ∷ Owners seven 128 (after push_pop 2 3) 2 (Err (fault 63 Nothing))
    ∷ Owners seven 128 (after push_pop 2 3) 1 (Err (fault 69 (Thread 0)))
    ∷ Judges once_only accepted
    ∷ Answers once_only 3 (turns 14 0) (go 5 ++ (Puts 5 ∷ go 4 ++ (Puts 5 ∷ Goes ∷ Goes ∷ Stops 64 ∷ [])))
    ∷ Judges swap_fix accepted
    ∷ Answers swap_fix 2 (turns 15 0) (go 6 ++ (Puts 5 ∷ go 3 ++ (Puts 5 ∷ Goes ∷ Goes ∷ Goes ∷ Stops 64 ∷ [])))
    ∷ Judges hand_over accepted
    ∷ Answers hand_over 1 (turns 7 0 ++ turns 2 1) (go 8 ++ (Stops 64 ∷ []))
    ∷ Leaves hand_over 1 (turns 7 0) (Ended ∷ Running ∷ [])
    ∷ Owners hand_over 128 (after hand_over 1 4) 0 (Ok 1)
    ∷ Owners hand_over 128 (after hand_over 1 7) 0 (Ok 1)
    ∷ Judges loops accepted
    ∷ Answers loops 1 (turns 19 0) (go 4 ++ (Puts 0 ∷ go 5 ++ (Puts 1 ∷ go 7 ++ (Stops 64 ∷ []))))
    -- eight frames, and eight threads
    ∷ Judges deep accepted
    ∷ Answers deep 1 (turns 8 0) (go 7 ++ (Stops 66 ∷ []))
    ∷ Judges many accepted
    ∷ Answers many 1 (turns 15 0) (go 14 ++ (Stops 67 ∷ []))
    -- what the rules keep out
    ∷ Judges clashing (Err (fault 26 (Record 1 0)))
    ∷ Clashes clashing (after clashing 1 3) None
    ∷ Clashes clashing (after clashing 1 4) (Some (record { lower = 0; higher = 1; object = 0; field = 2 }))
    ∷ Judges twice (Err (fault 22 (Record 0 2)))
    ∷ Leaves null_get 1 (turns 2 0) (Halted ∷ [])
    -- stuck
    ∷ Last None (Stops 70)
    ∷ Last (Some (Emit 2)) (Stops 71)
    ∷ Last (Some (Share 16 0)) (Stops 71)
    ∷ Last (Some (Emit 0)) (Stops 72)
    ∷ Last (Some (Own 2 1)) (Stops 72)
    ∷ Last (Some (Set 2 0 2 0)) (Stops 72)
    ∷ Last (Some (Ask (Stable 0 2) 1 0)) (Stops 72)
    ∷ Last (Some (Get 2 0 5)) (Stops 73)
    ∷ Last (Some (Null 2 1)) (Stops 73)
    ∷ Last (Some (Call 2 1 (bytes 5 []))) (Stops 73)
    -- in machines that no run reaches: an object that is not there, and a word that no cell may hold
    ∷ Refuses (around (Get 1 0 2 ∷ []) []) (alone (V.Reference 3 ∷ []) first_object) (Some (fault 74 (Thread 0)))
    ∷ Refuses (around (Set 2 0 2 1 ∷ []) []) (alone (V.Reference 0 ∷ V.Number (2 ^ 31) ∷ []) first_object) (Some (fault 51 Nothing))
    -- a start over objects
    ∷ Starts (record { capacity = 8; objects = first_object }) (Err (fault 60 Nothing))
    ∷ []

abbrev pub ends : Result Program Fault → List Answer
ends (Ok p) = answers p (empty 64) (turns 4 0)
ends (Err e) = []

abbrev pub Rehearsals : Type 0
Rehearsals = AllHold cases × ((program seven_bytes >>= verdict) ≡ accepted) × (ends (program seven_bytes) ≡ Goes ∷ Puts 7 ∷ Goes ∷ Stops 64 ∷ [])
