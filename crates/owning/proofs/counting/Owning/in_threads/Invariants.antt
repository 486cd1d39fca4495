use Rattle.std.proofs.Common.{◌≡◌, ◌+◌, ◌*◌, ◌≤◌, map, drop}
use Rattle.table.specs.Reading.{program_of}
use Rattle.machine.specs.World.{task_of}
use Rattle.safety.specs.Owners.{tasks_owning, types_before}
use Rattle.owning.proofs.counting.Owning.in_threads.Given as goal

abbrev pub invariant-loop-thread : goal.invariant-loop-thread
invariant-loop-thread l =
    let types = types_before (program_of l.self.table.now) in
    (l.total ≤ 128 * l.thread-index)
    × (l.total + tasks_owning types (map task_of (drop l.thread-index l.threads)) l.self.object ≡ tasks_owning types (map task_of l.threads) l.self.object)
