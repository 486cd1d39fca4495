-- The records: what each asks of its thread and of the memory, whether it halts, what may be full, and what it changes.
use Rattle.std.specs.Prelude.{ℕ, zero, suc, ◌+◌, ◌-◌, ◌%◌, ◌^◌, Bool, true, false, cond, ◌&&◌, List, [], ◌∷◌, ◌++◌, length, take, Some, None, Option, nat_lt, slice_index_or, slice_set}
use Rattle.table.specs.declared.types.Ty.{Ty}
use Rattle.table.specs.Records.{Op, New, Null, Int, Share, Own, Get, Take, Set, Add, Call, Fork, Return, Again, Join, Emit, Ask}
use Rattle.table.specs.Program.{Program}
use Rattle.rules.specs.Rules.{Premise, callee}
use Rattle.memory.specs.Model.{Store, count_of, with_object}
use Rattle.machine.specs.declared.threads.Slot.{Slot}
use Rattle.machine.specs.declared.threads.Slot.TheVariants as V
use Rattle.machine.specs.declared.threads.Frame.{Frame}
use Rattle.machine.specs.declared.threads.Status.{Status}
use Rattle.machine.specs.declared.threads.Status.TheVariants.{Running, Ended}
use Rattle.machine.specs.Values.{is_null, holds_number, is_reference, word_of, value_of, suits, left, at, given, all_given, all_suit, leaving, passing}
use Rattle.machine.specs.World.{no_frame, op_at}
use Rattle.machine.specs.Reading.{field_type, cell, write, slot_has_object, has_field, where_field, touched}
use Rattle.machine.specs.Tests.{trial}

-- what a step does to its thread: the status and the frames that it leaves, the memory, and the first frame of a new thread
pub record Change : Type 0 where
  pub status : Status
  pub frames : List Frame
  pub memory : Store
  pub forked : Option Frame

-- what may refuse a record that is not stuck: a memory asked with these words, a full memory, the thread's frames, the threads, the list
pub data Limit : Type 0 where
  ByWords : List ℕ → Limit
  ByMemory ByFrames ByThreads ByList : Limit

-- what a record asks, in the order of the numbers; the var field that it touches; whether it halts; what it changes and puts out
pub record Way : Type 0 where
  pub asks : List Premise
  pub touches : Option (ℕ × ℕ)
  pub halts : Bool
  pub limit : Limit
  pub change : Change
  pub out : Option ℕ

-- the slot that a call binds when its callee returns
abbrev pub called : Op → Option ℕ
called (Call z n args) = Some z
called (New z s) = None
called (Null z s) = None
called (Int z n) = None
called (Share z x) = None
called (Own z x) = None
called (Get z x f) = None
called (Take z x f) = None
called (Set z x f y) = None
called (Add z x y) = None
called (Fork n args) = None
called (Return x) = None
called (Again args) = None
called (Join n) = None
called (Emit x) = None
called (Ask t a b) = None

abbrev pub call_of : Option Op → Option ℕ
call_of None = None
call_of (Some op) = called op

abbrev pub is_some : Option ℕ → Bool
is_some None = false
is_some (Some z) = true

abbrev pub or_zero : Option ℕ → ℕ
or_zero None = 0
or_zero (Some z) = z

abbrev pub is_call : Option Op → Bool
is_call o = is_some (call_of o)

abbrev pub call_slot : Option Op → ℕ
call_slot o = or_zero (call_of o)

-- a slot to bind
abbrev pub is_slot : ℕ → Bool
is_slot z = nat_lt z 16

-- the newest of a thread's frames, and the one that waits for it
abbrev pub newest : List Frame → Frame
newest fs = slice_index_or fs (length fs - 1) no_frame

abbrev pub waiting : List Frame → Frame
waiting fs = slice_index_or fs (length fs - 2) no_frame

-- the record that a thread stands before; there is none without a frame
abbrev pub standing : Program → List Frame → Option Op
standing p fs = cond (nat_lt 0 (length fs)) (op_at p (newest fs)) None

-- a thread with these frames, over this memory
module _ (p : Program) (m : Store) (fs : List Frame) where
  abbrev pub slots : List Slot
  slots = (newest fs).slots

  abbrev pub value : ℕ → Slot
  value x = at slots x

  abbrev pub params : ℕ → List Ty
  params n = (callee p n).params

  abbrev pub framed : List Frame → Store → Change
  framed gs n = record { status = Running; frames = gs; memory = n; forked = None }

  abbrev pub stopped : Status → List Frame → Change
  stopped s gs = record { status = s; frames = gs; memory = m; forked = None }

  -- the newest frame goes to a record, with other slots
  abbrev pub moved : ℕ → List Slot → List Frame
  moved index vs = slice_set fs (length fs - 1) (record { function = (newest fs).function; index = index; slots = vs })

  abbrev pub go : ℕ → List Slot → Store → Change
  go index vs n = framed (moved index vs) n

  abbrev pub next : ℕ
  next = suc (newest fs).index

  abbrev pub bind : ℕ → Slot → Change
  bind z v = go next (slice_set slots z v) m

  -- a frame at the start of a function
  abbrev pub opened : ℕ → List ℕ → Frame
  opened n args = record { function = n; index = 0; slots = passing slots args (params n) 16 }

  -- a result goes to the frame that waits, or ends the thread
  abbrev pub returned : ℕ → ℕ → Change
  returned x (suc (suc d)) =
      let w = waiting fs in
      framed (slice_set (take (suc d) fs) d (record { function = w.function; index = suc w.index; slots = slice_set w.slots (call_slot (op_at p w)) (value x) })) m
  returned x (suc zero) = stopped Ended []
  returned x zero = stopped Ended []

  -- a record that touches no field
  abbrev pub way_by : Limit → List Premise → Change → Way
  way_by l asks c = record { asks = asks; touches = None; halts = false; limit = l; change = c; out = None }

  abbrev pub way_free : List Premise → Change → Way
  way_free asks c = way_by (ByWords []) asks c

  -- get, take and set, of the field x.f
  abbrev pub way_field : Bool → Bool → ℕ → ℕ → List ℕ → Change → Way
  way_field there kinds x f words c = record {
    asks = (71, there) ∷ (72, kinds) ∷ (73, has_field p m (value x) f) ∷ (74, slot_has_object p m (value x)) ∷ [];
    touches = touched p m (value x) f;
    halts = is_null (value x);
    limit = ByWords words;
    change = c;
    out = None;
  }

  abbrev pub slot_and : ℕ → ℕ → Bool
  slot_and z x = is_slot z && given slots x

  -- arguments for the parameters of function n
  abbrev pub args_given : ℕ → List ℕ → Bool
  args_given n args = all_given slots args (params n)

  abbrev pub args_suit : ℕ → List ℕ → Premise
  args_suit n args = (72, all_suit slots args (params n))

  abbrev pub has_function : ℕ → Premise
  has_function n = (73, nat_lt n (length p.functions))

  abbrev pub has_struct : ℕ → Premise
  has_struct s = (73, nat_lt s (length p.structs))

  -- what field x.f holds
  abbrev pub got : ℕ → ℕ → Slot
  got x f = value_of (field_type p m (value x) f) (cell p m (value x) f).word

  -- a frame waits for this one
  abbrev pub where_waiting : Bool → Bool
  where_waiting b = cond (nat_lt 1 (length fs)) b true

  abbrev pub way : Op → Way
  way (New z s) = way_by ByMemory ((71, is_slot z) ∷ has_struct s ∷ []) (go next (slice_set slots z (V.Reference (count_of m))) (with_object m s))
  way (Null z s) = way_free ((71, is_slot z) ∷ has_struct s ∷ []) (bind z V.Null)
  way (Int z n) = way_free ((71, is_slot z) ∷ []) (bind z (V.Number n))
  way (Share z x) = way_free ((71, slot_and z x) ∷ []) (bind z (value x))
  way (Own z x) = way_free ((71, slot_and z x) ∷ (72, is_reference (value x)) ∷ []) (go next (slice_set (slice_set slots x V.Null) z (value x)) m)
  way (Get z x f) = way_field (slot_and z x) (is_reference (value x)) x f [] (bind z (got x f))
  way (Take z x f) = way_field (slot_and z x) (is_reference (value x)) x f [] (go next (slice_set slots z (got x f)) (write p m (value x) f 0 false))
  way (Set z x f y) =
      let t = field_type p m (value x) f in
      way_field (slot_and z x && given slots y) (is_reference (value x) && where_field p m (value x) f (suits t (value y))) x f (word_of (value y) ∷ [])
      (go next (slice_set (slice_set (slice_set slots y (left t (value y))) x V.Null) z (value x)) (write p m (value x) f (word_of (value y)) false))
  way (Add z x y) =
      way_free ((71, slot_and z x && given slots y) ∷ (72, holds_number (value x) && holds_number (value y)) ∷ [])
      (bind z (V.Number ((word_of (value x) + word_of (value y)) % 2 ^ 31)))
  way (Call z n args) =
      way_by ByFrames ((71, is_slot z && args_given n args) ∷ args_suit n args ∷ has_function n ∷ [])
      (framed (moved (newest fs).index (leaving slots args (params n)) ++ (opened n args ∷ [])) m)
  way (Fork n args) =
      way_by ByThreads ((71, args_given n args) ∷ args_suit n args ∷ has_function n ∷ [])
      (record { status = Running; frames = moved next (leaving slots args (params n)); memory = m; forked = Some (opened n args) })
  way (Return x) =
      let call = op_at p (waiting fs) in
      way_free
      ((70, where_waiting (is_call call))
      ∷ (71, given slots x && where_waiting (is_slot (call_slot call)))
      ∷ (72, suits (callee p (newest fs).function).result (value x))
      ∷ [])
      (returned x (length fs))
  way (Again args) =
      let n = (newest fs).function in
      way_free ((71, args_given n args) ∷ args_suit n args ∷ []) (go 0 (passing slots args (params n) 16) m)
  way (Join n) = way_free [] (go (next + n) slots m)
  way (Emit x) = record {
    asks = (71, given slots x) ∷ (72, holds_number (value x)) ∷ [];
    touches = None;
    halts = false;
    limit = ByList;
    change = go next slots m;
    out = Some (word_of (value x));
  }
  way (Ask t a b) =
      let q = trial p m slots t in
      record {
        asks = q.asks;
        touches = None;
        halts = q.halts;
        limit = ByWords q.words;
        change = cond q.says (go next q.slots q.memory) (go (next + a) slots m);
        out = None;
      }
