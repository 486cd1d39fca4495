use Rattle.std.proofs.Common.{◌≡◌, ℕ, ◌+◌, ◌-◌, ◌<◌, ◌≤◌, [], sym, refl, ap, ◌∙◌, arith, w64, Fits, rules}
use Rattle.list.specs.Held.{room}
use Rattle.table.specs.Reading.{program_of}
use Rattle.safety.specs.Runs.{Counted, ran_within, all_threads, rounds}
use Rattle.safety.proofs.Tables.{stays_safe, stays_safe_both, within_most}
use Rattle.runner.specs.Runners.{found}
use Rattle.runner.proofs.Going.{rounds_spent, rounds_end, rounds_more}
use Rattle.runner.proofs.rounds.Goals as goal

pub loop-taken-init : goal.loop-taken-init
loop-taken-init g c =
    let p = program_of c.args.table.now in
    let size = room c.args.out.now in
    let R = found c.args.machine.now (g.M.Memory.model c.args.memory.now) c.args.out.now in
    let n : c.args.limit - 0 ≡ c.args.limit = omega arith in
    let e = ap (λ (k : ℕ). rounds c.args.limit p size k R) n in
    (c.args.limit, omega arith, omega arith, refl, ap (λ (x : Counted). x.ran) e, omega (arith, ap (λ (x : Counted). x.taken) e), stays_safe p R.world R.world [] refl)

-- what is taken in all is no more than may be
all_fit : (limit taken more most : ℕ) → Fits w64 limit → taken < limit → more ≡ most → most ≤ limit - taken → Fits w64 (taken + more)
all_fit limit taken more most f l e m = search rules

pub overflow_add-taken : goal.overflow_add-taken
overflow_add-taken g c =
    let p = program_of c.args.table.now in
    let R = found c.loop-taken.machine (g.M.Memory.model c.loop-taken.memory) c.loop-taken.out in
    let limit = c.args.limit - c.loop-taken.taken in
    all_fit c.args.limit c.loop-taken.taken c.run-more.result (ran_within p (room c.loop-taken.out) limit R all_threads).taken c.ranges.limit c.loop-taken-test.true c.run-more.ensures.taken (within_most p (room c.loop-taken.out) limit R all_threads)

pub loop-taken-preserved : goal.loop-taken-preserved
loop-taken-preserved g c =
    let p = program_of c.args.table.now in
    let size = room c.args.out.now in
    let limit = c.args.limit - c.loop-taken.taken in
    let R = found c.loop-taken.machine (g.M.Memory.model c.loop-taken.memory) c.loop-taken.out in
    let S = found c.run-more.new.machine (g.M.Memory.model c.run-more.new.memory) c.run-more.new.out in
    let more = c.run-more.result in
    let inv = c.loop-taken.invariant in
    let m = c.run-more.ensures.taken ∙ ap (λ (k : ℕ). (ran_within p k limit R all_threads).taken) inv.3 in
    let s = c.run-more.ensures.left ∙ ap (λ (k : ℕ). (ran_within p k limit R all_threads).ran) inv.3 in
    let l : 0 < c.args.limit - c.loop-taken.taken = omega (arith, c.loop-taken-test.true) in
    let on = rounds_more p size limit R S more m s inv.0 l inv.1 c.if-more-eq0.false in
    let most = within_most p size limit R all_threads in
    let less : c.args.limit - (c.loop-taken.taken + more) ≡ limit - more = omega arith in
    let e = ap (λ (k : ℕ). rounds on.0 p size k S) less in (
      on.0,
      omega (arith, on.1, less),
      omega (arith, most, m, c.loop-taken-test.true),
      c.run-more.ensures.room ∙ inv.3,
      ap (λ (x : Counted). x.ran) e ∙ on.2 ∙ inv.4,
      omega (arith, ap (λ (x : Counted). x.taken) e, on.3, inv.5),
      stays_safe_both p _ _ _ inv.6 c.run-more.ensures.safe,
    )

pub returns-then-more-eq0 : goal.returns-then-more-eq0
returns-then-more-eq0 g c =
    let p = program_of c.args.table.now in
    let size = room c.args.out.now in
    let limit = c.args.limit - c.loop-taken.taken in
    let R = found c.loop-taken.machine (g.M.Memory.model c.loop-taken.memory) c.loop-taken.out in
    let S = found c.run-more.new.machine (g.M.Memory.model c.run-more.new.memory) c.run-more.new.out in
    let more = c.run-more.result in
    let inv = c.loop-taken.invariant in
    let m = c.run-more.ensures.taken ∙ ap (λ (k : ℕ). (ran_within p k limit R all_threads).taken) inv.3 in
    let s = c.run-more.ensures.left ∙ ap (λ (k : ℕ). (ran_within p k limit R all_threads).ran) inv.3 in
    let l : 0 < c.args.limit - c.loop-taken.taken = omega (arith, c.loop-taken-test.true) in
    let on = rounds_end p size limit R S more m s inv.0 l inv.1 c.if-more-eq0.true in
    record { taken = omega (arith, on.1, inv.5); left = on.0 ∙ inv.4; room = c.run-more.ensures.room ∙ inv.3; safe = stays_safe_both p _ _ _ inv.6 c.run-more.ensures.safe }

pub returns : goal.returns
returns g c =
    let p = program_of c.args.table.now in
    let size = room c.args.out.now in
    let R = found c.loop-taken.machine (g.M.Memory.model c.loop-taken.memory) c.loop-taken.out in
    let inv = c.loop-taken.invariant in
    let z : c.args.limit - c.loop-taken.taken ≡ 0 = omega (arith, c.loop-taken-test.false) in
    let e = rounds_spent p size inv.0 (c.args.limit - c.loop-taken.taken) R z in
    record { taken = omega (arith, ap (λ (x : Counted). x.taken) e, inv.5); left = sym (ap (λ (x : Counted). x.ran) e) ∙ inv.4; room = inv.3; safe = inv.6 }
