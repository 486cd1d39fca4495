-- Threads, and a machine with its memory: as lists, and as the code's structs give them.
use Rattle.std.specs.Prelude.{ℕ, Bool, true, false, cond, ◌&&◌, List, [], ◌∷◌, map, length, replicate, None, Ok, Option, Result, ◌==◌, nat_lt, slice_index_or}
use Rattle.list.specs.Fronts.{front_of}
use Rattle.table.specs.declared.fault.Fault.{Fault}
use Rattle.table.specs.declared.fault.Place.TheVariants.{Nothing}
use Rattle.table.specs.Faults.{need, ◌>>=◌}
use Rattle.table.specs.Records.{Op}
use Rattle.table.specs.Program.{Program}
use Rattle.rules.specs.Rules.{callee, record_at}
use Rattle.memory.specs.Model.{Store, count_of}
use Rattle.machine.specs.declared.threads.Slot.TheVariants.{Empty}
use Rattle.machine.specs.declared.threads.Frame.{Frame}
use Rattle.machine.specs.declared.threads.Status.{Status}
use Rattle.machine.specs.declared.threads.Status.TheVariants.{Running, Ended, Halted}
use Rattle.machine.specs.declared.threads.Thread.{Thread}
use Rattle.machine.specs.declared.threads.Machine.{Machine}

-- a thread, with its frames from the oldest
pub record Task : Type 0 where
  pub status : Status
  pub frames : List Frame

-- a machine and its memory
pub record World : Type 0 where
  pub tasks : List Task
  pub memory : Store

-- what the code's structs stand for
abbrev pub task_of : Thread → Task
task_of t = record { status = t.status; frames = front_of t.frames }

abbrev pub world_of : Machine → Store → World
world_of M m = record { tasks = map task_of (front_of M.threads); memory = m }

-- where there is none
abbrev pub no_frame : Frame
no_frame = record { function = 0; index = 0; slots = [] }

abbrev pub no_task : Task
no_task = record { status = Ended; frames = [] }

abbrev pub no_thread : Thread
no_thread = record { status = Running; frames = record { items = []; len = 0 } }

abbrev pub task : World → ℕ → Task
task W i = slice_index_or W.tasks i no_task

abbrev pub is_running : Status → Bool
is_running Running = true
is_running Ended = false
is_running Halted = false

-- a frame that the table has, and the record that it stands before
abbrev pub in_table : Program → Frame → Bool
in_table p F = nat_lt F.function (length p.functions) && nat_lt F.index (length (callee p F.function).records)

abbrev pub op_at : Program → Frame → Option Op
op_at p F = cond (in_table p F) (record_at (callee p F.function) F.index) None

-- a thread that begins with this frame
abbrev pub begun : Frame → Task
begun F = record { status = Running; frames = F ∷ [] }

-- thread 0 at the start of function 0
abbrev pub main_frame : Frame
main_frame = record { function = 0; index = 0; slots = replicate 16 Empty }

abbrev pub starting : Store → World
starting m = record { tasks = begun main_frame ∷ []; memory = m }

-- 60: the memory has objects
abbrev pub started : Store → Result World Fault
started m = need (count_of m == 0) 60 Nothing >>= λ _. Ok (starting m)
