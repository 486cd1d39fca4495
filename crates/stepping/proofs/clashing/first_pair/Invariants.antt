use Rattle.std.proofs.Common.{◌≡◌, map, drop}
use Rattle.table.specs.Reading.{program_of}
use Rattle.machine.specs.World.{task_of}
use Rattle.machine.specs.Clashes.{clash_from}
use Rattle.stepping.proofs.clashing.first_pair.Given as goal

abbrev pub invariant-loop-lower : goal.invariant-loop-lower
invariant-loop-lower g l =
    clash_from (program_of l.table) (g.M.Memory.model l.memory) l.lower (map task_of (drop l.lower l.threads))
    ≡ clash_from (program_of l.table) (g.M.Memory.model l.memory) 0 (map task_of l.threads)
