-- A turn of a thread that has one frame, and what the code answers of it.
use Rattle.std.specs.Prelude.{ℕ, [], ◌∷◌, Ok, Err, Result}
use Rattle.table.specs.Records.{Op}
use Rattle.table.specs.Program.{Program}
use Rattle.memory.specs.Model.{Store}
use Rattle.machine.specs.declared.threads.Frame.{Frame}
use Rattle.machine.specs.declared.frames.Done.{Done}
use Rattle.machine.specs.Ways.{newest, way}
use Rattle.machine.specs.Steps.{Turn, Fails, Does, by_way}

-- a record that leads on within its frame does so whatever waits below
abbrev pub alone : Program → Store → Frame → ℕ → Op → Turn
alone p m F room op = by_way p m (F ∷ []) 0 room (way p m (F ∷ []) op)

-- the number of a refusal, or the newest frame and its thread's status
abbrev pub done_of : Turn → Result Done ℕ
done_of (Fails n) = Err n
done_of (Does c out) = Ok (record { status = c.status; frame = newest c.frames; out = out })

-- a refusal leaves the memory as it was
abbrev pub memory_after : Store → Turn → Store
memory_after m (Fails n) = m
memory_after m (Does c out) = c.memory
