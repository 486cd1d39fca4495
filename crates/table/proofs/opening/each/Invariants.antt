use Rattle.std.proofs.Common.{◌≡◌, ℕ, Ok}
use Rattle.table.specs.Faults.{Passes, Answers, each}
use Rattle.table.proofs.opening.each.Given as goal

abbrev pub invariant-loop-i : goal.invariant-loop-i
invariant-loop-i g l = (at : ℕ → Passes) → Answers (goal.F-post g l.passes) l.i at → each l.i at ≡ Ok tt
