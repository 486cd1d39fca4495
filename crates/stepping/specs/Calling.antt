-- Calls, forks, `again` and returns: what they ask, and the frames that they leave.
use Rattle.std.specs.Prelude.{ℕ, suc, Bool, cond, ◌&&◌, List, [], ◌∷◌, Some, None, Ok, Err, Option, Result, slice_index_or, slice_set}
use Rattle.table.specs.declared.types.Ty.{Ty}
use Rattle.table.specs.declared.records.Record.{Record}
use Rattle.table.specs.Records.{Op, meant}
use Rattle.table.specs.Program.{Program}
use Rattle.rules.specs.Rules.{Premise, callee, number}
use Rattle.machine.specs.declared.threads.Slot.{Slot}
use Rattle.machine.specs.declared.threads.Frame.{Frame}
use Rattle.machine.specs.Values.{at, given, suits, all_given, all_suit, leaving, passing}
use Rattle.machine.specs.World.{op_at}
use Rattle.machine.specs.Ways.{is_call, call_slot, is_slot}
use Rattle.stepping.specs.declared.calls.Passed.{Passed}

-- the op of the record that a frame stands before
abbrev pub op_of : Option (Frame × Record) → Option Op
op_of None = None
op_of (Some q) = Some (meant q.1)

-- a value, unless something that is asked does not hold
abbrev pub granted : {X : Type 0} → List Premise → X → Result X ℕ
granted [] x = Ok x
granted (q ∷ qs) x = cond q.1 (granted qs x) (Err q.0)

-- whether the operand that comes with its number suits the parameter of that number
abbrev pub suit_at : List Slot → List Ty → ℕ × ℕ → Bool
suit_at vs ts q = suits (slice_index_or ts q.0 number) (at vs q.1)

module _ (p : Program) (F : Frame) where
  abbrev pub params : ℕ → List Ty
  params n = (callee p n).params

  -- the frame that hands its arguments over, and the one that begins with them
  abbrev pub handed : ℕ → List ℕ → Passed
  handed n args = record {
    caller = record { function = F.function; index = F.index; slots = leaving F.slots args (params n) };
    callee = record { function = n; index = 0; slots = passing F.slots args (params n) 16 };
  }

  -- at a fork the frame that hands them over goes on
  abbrev pub forking : ℕ → List ℕ → Passed
  forking n args = record {
    caller = record { function = F.function; index = suc F.index; slots = leaving F.slots args (params n) };
    callee = (handed n args).callee;
  }

  -- a call asks for a slot, so many operands, their sorts, and the function; then there has to be room
  abbrev pub handing : Bool → ℕ → List ℕ → List Premise → List Premise
  handing slotted n args more = (71, slotted && all_given F.slots args (params n)) ∷ (72, all_suit F.slots args (params n)) ∷ more

  -- the value of x for a thread that ends
  abbrev pub ending : ℕ → List Premise
  ending x = (71, given F.slots x) ∷ (72, suits (callee p F.function).result (at F.slots x)) ∷ []

  -- and for a frame that waits at its call
  abbrev pub resuming : Frame → ℕ → List Premise
  resuming w x =
      (70, is_call (op_at p w))
      ∷ (71, given F.slots x && is_slot (call_slot (op_at p w)))
      ∷ (72, suits (callee p F.function).result (at F.slots x))
      ∷ []

  -- that frame behind its call, with the value in the call's slot
  abbrev pub resumed : Frame → ℕ → Frame
  resumed w x = record { function = w.function; index = suc w.index; slots = slice_set w.slots (call_slot (op_at p w)) (at F.slots x) }

  abbrev pub returning : Option Frame → ℕ → Result (Option Frame) ℕ
  returning None x = granted (ending x) None
  returning (Some w) x = granted (resuming w x) (Some (resumed w x))
