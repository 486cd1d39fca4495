-- One step of a thread: what it does to the thread, and its commit into the machine.
use Rattle.std.specs.Prelude.{ℕ, Bool, true, cond, ◌&&◌, List, [], ◌∷◌, ◌++◌, length, Some, None, Ok, Err, Option, Result, nat_lt, slice_set}
use Rattle.table.specs.declared.fault.Fault.{Fault}
use Rattle.table.specs.declared.fault.Place.{Place}
use Rattle.table.specs.declared.fault.Place.TheVariants.{Nothing, Thread}
use Rattle.table.specs.Faults.{fault}
use Rattle.table.specs.Records.{Op}
use Rattle.table.specs.Program.{Program}
use Rattle.rules.specs.Rules.{Premise, first}
use Rattle.memory.specs.Model.{Store, count_of, is_word}
use Rattle.machine.specs.declared.threads.Frame.{Frame}
use Rattle.machine.specs.declared.threads.Status.TheVariants.{Halted}
use Rattle.machine.specs.World.{Task, World, task, is_running, begun}
use Rattle.machine.specs.Ways.{Change, Limit, ByWords, ByMemory, ByFrames, ByThreads, ByList, Way, standing, stopped, way}

-- a thread's turn is refused with a number, or does something to the thread and may put a number out
pub data Turn : Type 0 where
  Fails : (number : ℕ) → Turn
  Does : (change : Change) (out : Option ℕ) → Turn

abbrev pub all_words : List ℕ → Bool
all_words [] = true
all_words (w ∷ ws) = is_word w && all_words ws

abbrev pub unless : Option ℕ → Turn → Turn
unless None t = t
unless (Some n) t = Fails n

-- a thread with these frames, over this memory
module _ (p : Program) (m : Store) (fs : List Frame) where
  -- 51 is the memory's own refusal of a word, which no run from a start meets
  abbrev pub room_for : ℕ → ℕ → Limit → List Premise
  room_for threads room (ByWords ws) = (51, all_words ws) ∷ []
  room_for threads room ByMemory = (65, nat_lt (count_of m) m.capacity) ∷ []
  room_for threads room ByFrames = (66, nat_lt (length fs) 8) ∷ []
  room_for threads room ByThreads = (67, nat_lt threads 8) ∷ []
  room_for threads room ByList = (68, nat_lt 0 room) ∷ []

  -- what a record asks comes first, then halting, and then what may be full
  abbrev pub by_way : ℕ → ℕ → Way → Turn
  by_way threads room w =
      unless (first w.asks)
      (cond w.halts (Does (stopped p m fs Halted fs) None)
      (unless (first (room_for threads room w.limit)) (Does w.change w.out)))

  -- 70: no such record or op
  abbrev pub taking : ℕ → ℕ → Option Op → Turn
  taking threads room None = Fails 70
  taking threads room (Some op) = by_way threads room (way p m fs op)

-- a step that is taken: what it leaves, and the number that it puts out
pub record Taken : Type 0 where
  pub world : World
  pub out : Option ℕ

abbrev pub joined : List Task → Option Frame → List Task
joined ts None = ts
joined ts (Some F) = ts ++ (begun F ∷ [])

-- what refuses a step of thread i; the memory's own refusals, below 60, name nothing
abbrev pub step_place : ℕ → ℕ → Place
step_place i n = cond (nat_lt n 60) Nothing (Thread i)

abbrev pub step_fault : ℕ → ℕ → Fault
step_fault i n = fault n (step_place i n)

-- a turn of thread i, put into the machine
abbrev pub commit : World → ℕ → Turn → Result Taken Fault
commit W i (Fails n) = Err (step_fault i n)
commit W i (Does c out) = Ok (record {
  world = record { tasks = joined (slice_set W.tasks i (record { status = c.status; frames = c.frames })) c.forked; memory = c.memory };
  out = out;
})

-- one step of thread i, with so much room in the list of numbers put out; 64: it is not running
abbrev pub stepped : Program → ℕ → World → ℕ → Result Taken Fault
stepped p room W i =
    let fs = (task W i).frames in
    cond (is_running (task W i).status)
    (commit W i (taking p W.memory fs (length W.tasks) room (standing p fs)))
    (Err (step_fault i 64))

-- a refused step alters nothing
abbrev pub after_step : World → Result Taken Fault → World
after_step W (Err e) = W
after_step W (Ok t) = t.world

abbrev pub put_out : Result Taken Fault → Option ℕ
put_out (Err e) = None
put_out (Ok t) = t.out
