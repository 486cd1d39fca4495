-- What a run finds and leaves: the machine with its memory, and the numbers put out.
use Rattle.std.specs.Prelude.{ℕ}
use Rattle.list.specs.declared.Bounded.{Bounded}
use Rattle.list.specs.Held.{held}
use Rattle.memory.specs.Model.{Store}
use Rattle.machine.specs.declared.threads.Machine.{Machine}
use Rattle.machine.specs.World.{world_of}
use Rattle.safety.specs.Runs.{Ran}

abbrev pub found : Machine → Store → Bounded ℕ → Ran
found M m xs = record { world = world_of M m; out = held xs }
