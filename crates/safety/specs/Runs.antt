-- Runs: turns of any threads in any order. A refused step alters nothing.
use Rattle.std.specs.Prelude.{ℕ, zero, suc, ◌+◌, ◌-◌, cond, List, [], ◌∷◌, ◌++◌, length, Some, None, Ok, Err, Option, Result, ◌==◌}
use Rattle.table.specs.declared.fault.Fault.{Fault}
use Rattle.table.specs.Program.{Program}
use Rattle.machine.specs.World.{World}
use Rattle.machine.specs.Steps.{Taken, stepped, after_step, put_out}

-- each turn is a thread, and the room of the list then
abbrev pub runs : Program → World → List (ℕ × ℕ) → World
runs p W [] = W
runs p W (t ∷ ts) = runs p (after_step W (stepped p t.1 W t.0)) ts

-- a machine with its memory, and the numbers put out
pub record Ran : Type 0 where
  pub world : World
  pub out : List ℕ

abbrev pub listed : Option ℕ → List ℕ
listed None = []
listed (Some n) = n ∷ []

-- one step of thread i, with a list of this size
abbrev pub ran_step : Program → ℕ → Ran → ℕ → Ran
ran_step p size R i =
    let s = stepped p (size - length R.out) R.world i in
    record { world = after_step R.world s; out = R.out ++ listed (put_out s) }

-- a step of each of these threads in turn
abbrev pub ran : Program → ℕ → Ran → List ℕ → Ran
ran p size R [] = R
ran p size R (i ∷ is) = ran p size (ran_step p size R i) is

-- the turns that those steps are
abbrev pub turns_of : Program → ℕ → Ran → List ℕ → List (ℕ × ℕ)
turns_of p size R [] = []
turns_of p size R (i ∷ is) = (i, size - length R.out) ∷ turns_of p size (ran_step p size R i) is

-- how many steps an answer is
abbrev pub took : Result Taken Fault → ℕ
took (Ok t) = 1
took (Err e) = 0

-- what steps of threads in turn have left, and how many were taken
pub record Counted : Type 0 where
  pub ran : Ran
  pub taken : ℕ

-- a step of each of these threads in turn, until so many were taken
abbrev pub ran_within : Program → ℕ → ℕ → Ran → List ℕ → Counted
ran_within p size limit R [] = record { ran = R; taken = 0 }
ran_within p size limit R (i ∷ is) =
    let k = took (stepped p (size - length R.out) R.world i) in
    let rest = ran_within p size (limit - k) (ran_step p size R i) is in
    cond (limit == 0) (record { ran = R; taken = 0 }) (record { ran = rest.ran; taken = k + rest.taken })

-- all threads that there may be
abbrev pub all_threads : List ℕ
all_threads = 0 ∷ 1 ∷ 2 ∷ 3 ∷ 4 ∷ 5 ∷ 6 ∷ 7 ∷ []

-- rounds of all threads until a round is all refusals, or until so many steps were taken; there are no more rounds than steps
abbrev pub rounds : ℕ → Program → ℕ → ℕ → Ran → Counted
rounds zero p size limit R = record { ran = R; taken = 0 }
rounds (suc n) p size limit R =
    let c = ran_within p size limit R all_threads in
    let rest = rounds n p size (limit - c.taken) c.ran in
    cond (c.taken == 0) c (record { ran = rest.ran; taken = c.taken + rest.taken })
