use Rattle.std.proofs.Common.{◌≡◌, ℕ, ◌+◌, ◌-◌, ◌≤◌}
use Rattle.list.specs.Held.{room}
use Rattle.table.specs.Reading.{program_of}
use Rattle.machine.specs.World.{world_of}
use Rattle.safety.specs.Runs.{rounds}
use Rattle.safety.specs.Safe.{StaysSafe}
use Rattle.runner.specs.Runners.{found}
use Rattle.runner.proofs.rounds.Given as goal

-- the rounds that are left, no more than n, come to what all rounds do
abbrev pub invariant-loop-taken : goal.invariant-loop-taken
invariant-loop-taken g l =
    let p = program_of l.table in
    let size = room l.initial.out in
    let start = found l.initial.machine (g.M.Memory.model l.initial.memory) l.initial.out in
    let here = found l.machine (g.M.Memory.model l.memory) l.out in
    (n : ℕ)
    × (l.limit - l.taken ≤ n)
    × (l.taken ≤ l.limit)
    × (room l.out ≡ size)
    × ((rounds n p size (l.limit - l.taken) here).ran ≡ (rounds l.limit p size l.limit start).ran)
    × (l.taken + (rounds n p size (l.limit - l.taken) here).taken ≡ (rounds l.limit p size l.limit start).taken)
    × StaysSafe p (world_of l.initial.machine (g.M.Memory.model l.initial.memory)) (world_of l.machine (g.M.Memory.model l.memory))

abbrev pub decreases-loop-taken : goal.decreases-loop-taken
decreases-loop-taken g l = l.limit - l.taken
