-- A thread's frames and a machine's threads, as steps change them.
use Rattle.std.specs.Prelude.{◌-◌, List, map, length, take, slice_set}
use Rattle.list.specs.Fronts.{front_of}
use Rattle.machine.specs.declared.threads.Frame.{Frame}
use Rattle.machine.specs.declared.threads.Thread.{Thread}
use Rattle.machine.specs.declared.threads.Machine.{Machine}
use Rattle.machine.specs.World.{Task, task_of}

-- the frames in use, and the threads that are there
abbrev pub frames_of : Thread → List Frame
frames_of t = (task_of t).frames

abbrev pub tasks_of : Machine → List Task
tasks_of M = map task_of (front_of M.threads)

abbrev pub with_newest : List Frame → Frame → List Frame
with_newest fs F = slice_set fs (length fs - 1) F

-- the newest frame is gone, and the one that waited has become this one
abbrev pub returned_to : List Frame → Frame → List Frame
returned_to fs F = slice_set (take (length fs - 1) fs) (length fs - 2) F
