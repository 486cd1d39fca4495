-- A turn put into the machine, and a step of it.
use Rattle.std.specs.Prelude.{ℕ, List, [], ◌∷◌, ◌++◌, Some, None, Ok, Err, Option, Result, slice_index_or, slice_set}
use Rattle.table.specs.declared.fault.Fault.{Fault}
use Rattle.table.specs.declared.fault.Refusal.{Refusal}
use Rattle.table.specs.Faults.{Passes, number_of}
use Rattle.machine.specs.declared.threads.Frame.{Frame}
use Rattle.machine.specs.declared.threads.Status.TheVariants.{Running, Ended}
use Rattle.machine.specs.World.{Task, no_task}
use Rattle.machine.specs.Stacks.{with_newest, returned_to}
use Rattle.machine.specs.Steps.{Taken, joined, step_fault}
use Rattle.stepping.specs.declared.turning.Outcome.{Outcome}
use Rattle.stepping.specs.declared.turning.Outcome.TheVariants.{Goes, Calls, Forks, Resumes, Ends}

-- a thread with these frames, and the thread that it forks, behind an outcome
abbrev pub task_after : List Frame → Outcome → Task
task_after fs (Goes d) = record { status = d.status; frames = with_newest fs d.frame }
task_after fs (Calls q) = record { status = Running; frames = with_newest fs q.caller ++ (q.callee ∷ []) }
task_after fs (Forks q) = record { status = Running; frames = with_newest fs q.caller }
task_after fs (Resumes F) = record { status = Running; frames = returned_to fs F }
task_after fs Ends = record { status = Ended; frames = [] }

abbrev pub forked_by : Outcome → Option Frame
forked_by (Goes d) = None
forked_by (Calls q) = None
forked_by (Forks q) = Some q.callee
forked_by (Resumes F) = None
forked_by Ends = None

abbrev pub tasks_after : List Task → ℕ → Outcome → List Task
tasks_after ts i o = joined (slice_set ts i (task_after (slice_index_or ts i no_task).frames o)) (forked_by o)

-- the number that an outcome puts out
abbrev pub out_of : Outcome → Option ℕ
out_of (Goes d) = d.out
out_of (Calls q) = None
out_of (Forks q) = None
out_of (Resumes F) = None
out_of Ends = None

-- what a step answers: that it was taken, or the refusal
abbrev pub passes : Result Taken Fault → Passes
passes (Ok t) = Ok tt
passes (Err e) = Err e

-- a turn of thread i, refused with what names the thread
abbrev pub faulted : ℕ → Result Outcome Refusal → Result Outcome Fault
faulted i (Ok o) = Ok o
faulted i (Err r) = Err (step_fault i (number_of r))

-- a list with the number that a step puts out
abbrev pub listed : List ℕ → Option ℕ → List ℕ
listed xs None = xs
listed xs (Some n) = xs ++ (n ∷ [])
