-- What came of a table that is opened, accepted and started.
use Rattle.std.proofs.Common.{◌≡◌, ℕ, ◌≤◌, List, [], length, Ok, Result, sym, ap, ◌∙◌, arith}
use Rattle.std.proofs.lemmas.List.{length-take}
use Rattle.list.specs.declared.Bounded.{Bounded}
use Rattle.list.specs.Held.{held, room}
use Rattle.table.specs.declared.fault.Fault.{Fault}
use Rattle.table.specs.Faults.{◌>>=◌, Passes}
use Rattle.table.specs.Program.{Program, program}
use Rattle.rules.specs.Scopes.{verdict}
use Rattle.memory.specs.Model.{Store}
use Rattle.machine.specs.declared.threads.Machine.{Machine}
use Rattle.machine.specs.World.{World, started}
use Rattle.machine.specs.Stacks.{tasks_of}
use Rattle.safety.specs.Runs.{Ran, Counted, rounds}
use Rattle.runner.specs.Runners.{found}
use Rattle.rehearsing.specs.declared.tally.Tally.{Tally}
use Rattle.rehearsing.specs.Reports.{Told, Ran as said, tallied, told, rehearsed, run_over}

-- a list holds no more than there is room for
pub held_most : (xs : Bounded ℕ) (most : ℕ) → room xs ≡ most → length (held xs) ≤ most
held_most xs most r = omega (arith, r, length-take xs.len xs.items.now)

-- what a run leaves is told by its numbers, its threads and its steps
pub told_of : (limit : ℕ) (p : Program) (size : ℕ) (R : Ran) (M : Machine) (m : Store) (xs : Bounded ℕ) (steps : ℕ) (ns : List ℕ) (t : Tally)
    → size ≡ 256 → R.out ≡ []
    → found M m xs ≡ (rounds limit p size limit R).ran → steps ≡ (rounds limit p size limit R).taken
    → ns ≡ held xs → t ≡ tallied (tasks_of M) steps
    → said ns t ≡ told (rounds limit p 256 limit (record { world = R.world; out = [] }))
told_of limit p size R M m xs steps ns t s o left taken numbers tally =
    let F = λ (k : ℕ) (l : List ℕ). rounds limit p k limit (record { world = R.world; out = l }) in
    let e : F size R.out ≡ F 256 [] = ap (λ (k : ℕ). F k R.out) s ∙ ap (λ (l : List ℕ). F 256 l) o in
    let c = F 256 [] in
    let ran : found M m xs ≡ c.ran = left ∙ ap (λ (x : Counted). x.ran) e in
    let all : ns ≡ c.ran.out = numbers ∙ ap (λ (x : Ran). x.out) ran in
    let counts : t ≡ tallied c.ran.world.tasks c.taken =
    tally ∙ ap (λ (x : Ran). tallied x.world.tasks steps) ran ∙ ap (λ (n : ℕ). tallied c.ran.world.tasks n) (taken ∙ ap (λ (x : Counted). x.taken) e)
    in
    ap (λ (l : List ℕ). said l t) all ∙ ap (λ (x : Tally). said c.ran.out x) counts

-- a table that is opened, accepted and started was run
pub ran_over : (limit : ℕ) (m : Store) (b : List ℕ) (p : Program) (W : World) (t : Told)
    → program b ≡ Ok p → verdict p ≡ Ok tt → started m ≡ Ok W
    → t ≡ told (rounds limit p 256 limit (record { world = W; out = [] })) → Ok t ≡ run_over limit m b
unfolding run_over
ran_over limit m b p W t opens accepts starts ends =
    sym (
    ap (λ (r : Result Program Fault). r >>= λ q. verdict q >>= λ _. rehearsed limit q m) opens
    ∙ ap (λ (r : Passes). r >>= λ _. rehearsed limit p m) accepts
    ∙ ap (λ (r : Result World Fault). r >>= λ V. Ok (told (rounds limit p 256 limit (record { world = V; out = [] })))) starts
    ∙ sym (ap Ok ends)
    )
