use Rattle.std.proofs.Common.{◌≡◌, ◌+◌, ◌-◌, ◌≤◌, drop}
use Rattle.list.specs.Held.{room}
use Rattle.table.specs.Reading.{program_of}
use Rattle.safety.specs.Runs.{ran_within}
use Rattle.runner.specs.Runners.{found}
use Rattle.runner.proofs.run.Given as goal

-- what is left to do comes to what the whole list does
abbrev pub invariant-loop-thread : goal.invariant-loop-thread
invariant-loop-thread g l =
    let p = program_of l.table in
    let start = found l.initial.machine (g.M.Memory.model l.initial.memory) l.initial.out in
    let here = found l.machine (g.M.Memory.model l.memory) l.out in
    (l.taken ≤ l.limit)
    × (room l.out ≡ room l.initial.out)
    × ((ran_within p (room l.initial.out) (l.limit - l.taken) here (drop l.thread-index l.threads)).ran ≡ (ran_within p (room l.initial.out) l.limit start l.threads).ran)
    × (l.taken + (ran_within p (room l.initial.out) (l.limit - l.taken) here (drop l.thread-index l.threads)).taken ≡ (ran_within p (room l.initial.out) l.limit start l.threads).taken)
