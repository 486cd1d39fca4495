use Rattle.std.proofs.Common.{◌≡◌, ℕ, ◌-◌, ◌≤◌, List, length, get_or, drop, sym, ap, ◌∙◌, arith}
use Rattle.list.specs.Held.{held, room}
use Rattle.table.specs.Reading.{program_of}
use Rattle.table.specs.Program.{Program}
use Rattle.machine.specs.World.{world_of}
use Rattle.machine.specs.Steps.{stepped}
use Rattle.safety.specs.Runs.{Ran, Counted, took, ran_within, ran}
use Rattle.safety.specs.Safe.{StaysSafe}
use Rattle.safety.proofs.Tables.{stays_safe, within_runs, within_all}
use Rattle.runner.specs.Runners.{found}
use Rattle.runner.proofs.Going.{steps_on, goes_on, within_spent, within_end}
use Rattle.runner.proofs.run.Goals as goal

-- what a run that has ended leaves is safe, and all of its threads have stepped where they may
all_of : (p : Program) (size limit : ℕ) (R S : Ran) (is : List ℕ) → S ≡ (ran_within p size limit R is).ran → (length is ≤ limit → S ≡ ran p size R is) × StaysSafe p R.world S.world
all_of p size limit R S is e =
    let t = within_runs p size limit R is in (
      λ l. e ∙ within_all p size limit R is l,
      stays_safe p R.world S.world t.0 (ap (λ (x : Ran). x.world) e ∙ t.1),
    )

pub loop-thread-preserved : goal.loop-thread-preserved
loop-thread-preserved g c =
    let p = program_of c.args.table.now in
    let size = room c.args.out.now in
    let m = g.M.Memory.model c.loop-thread.memory in
    let W = world_of c.loop-thread.machine m in
    let xs = held c.loop-thread.out in
    let j = c.loop-thread.thread-index in
    let i = get_or c.args.threads.now j 0 in
    let inv = c.loop-thread.invariant in
    let k = c.counted-taken.ensures.value (stepped p (room c.loop-thread.out - length xs) W i) c.step.ensures.value ∙ ap (λ (n : ℕ). took (stepped p (n - length xs) W i)) inv.1 in
    let here = steps_on p size W (world_of c.step.new.machine (g.M.Memory.model c.step.new.memory)) xs (held c.step.new.out) (room c.loop-thread.out) i inv.1 c.step.ensures.world c.step.ensures.out in
    let on = goes_on p size c.args.limit c.loop-thread.taken c.counted-taken.result (found c.loop-thread.machine m c.loop-thread.out) (found c.step.new.machine (g.M.Memory.model c.step.new.memory) c.step.new.out) c.args.threads.now j c.if-taken-limit.false c.loop-thread-test.true here k in
    (omega (arith, c.counted-taken.ensures.most, c.if-taken-limit.false), c.step.ensures.room ∙ inv.1, on.0 ∙ inv.2, on.1 ∙ inv.3)

pub returns-then-taken-limit : goal.returns-then-taken-limit
returns-then-taken-limit g c =
    let p = program_of c.args.table.now in
    let size = room c.args.out.now in
    let R = found c.args.machine.now (g.M.Memory.model c.args.memory.now) c.args.out.now in
    let S = found c.loop-thread.machine (g.M.Memory.model c.loop-thread.memory) c.loop-thread.out in
    let inv = c.loop-thread.invariant in
    let z : c.args.limit - c.loop-thread.taken ≡ 0 = omega (arith, c.if-taken-limit.true) in
    let e = within_spent p size (c.args.limit - c.loop-thread.taken) S (drop c.loop-thread.thread-index c.args.threads.now) z in
    let left = sym (ap (λ (x : Counted). x.ran) e) ∙ inv.2 in
    let a = all_of p size c.args.limit R S c.args.threads.now left in
    record { taken = omega (arith, ap (λ (x : Counted). x.taken) e, inv.3); left = left; all = a.0; room = inv.1; safe = a.1 }

pub returns : goal.returns
returns g c =
    let p = program_of c.args.table.now in
    let size = room c.args.out.now in
    let R = found c.args.machine.now (g.M.Memory.model c.args.memory.now) c.args.out.now in
    let S = found c.loop-thread.machine (g.M.Memory.model c.loop-thread.memory) c.loop-thread.out in
    let inv = c.loop-thread.invariant in
    let e = within_end p size (c.args.limit - c.loop-thread.taken) S c.args.threads.now c.loop-thread.thread-index c.loop-thread-test.false in
    let left = sym (ap (λ (x : Counted). x.ran) e) ∙ inv.2 in
    let a = all_of p size c.args.limit R S c.args.threads.now left in
    record { taken = omega (arith, ap (λ (x : Counted). x.taken) e, inv.3); left = left; all = a.0; room = inv.1; safe = a.1 }
