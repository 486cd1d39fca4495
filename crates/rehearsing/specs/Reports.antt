-- What is reported of a table, and its text.
use Rattle.std.specs.Prelude.{ℕ, ◌+◌, Bool, true, false, cond, List, [], ◌∷◌, ◌++◌, Ok, Err, codes, decimal, Result}
use Rattle.list.specs.Fronts.{front_of}
use Rattle.table.specs.declared.fault.Fault.{Fault}
use Rattle.table.specs.Faults.{◌>>=◌}
use Rattle.table.specs.Shown.{fault_text}
use Rattle.table.specs.Program.{Program, program}
use Rattle.rules.specs.Scopes.{verdict}
use Rattle.memory.specs.Model.{Store}
use Rattle.machine.specs.declared.threads.Status.{Status}
use Rattle.machine.specs.declared.threads.Status.TheVariants.{Running, Ended, Halted}
use Rattle.machine.specs.World.{Task, started}
use Rattle.safety.specs.Runs.{Counted, rounds}
use Rattle.rehearsing.specs.declared.tally.Tally.{Tally}
use Rattle.rehearsing.specs.declared.rehearsal.Rehearsal.{Rehearsal}
use Rattle.rehearsing.specs.declared.rehearsal.Report.{Report}

-- how many threads have this status
abbrev pub is_status : Status → Status → Bool
is_status Running Running = true
is_status Running Ended = false
is_status Running Halted = false
is_status Ended Running = false
is_status Ended Ended = true
is_status Ended Halted = false
is_status Halted Running = false
is_status Halted Ended = false
is_status Halted Halted = true

abbrev pub how_many : Status → List Task → ℕ
how_many s [] = 0
how_many s (t ∷ ts) = cond (is_status s t.status) 1 0 + how_many s ts

-- the threads by their status, and the steps that were taken
abbrev pub tallied : List Task → ℕ → Tally
tallied ts steps = record { ended = how_many Ended ts; halted = how_many Halted ts; running = how_many Running ts; steps = steps }

-- a table is refused, or was run: the numbers put out, and the threads and steps
pub data Told : Type 0 where
  Refused : (fault : Fault) → Told
  Ran : (numbers : List ℕ) (tally : Tally) → Told

abbrev pub told : Counted → Told
told c = Ran c.ran.out (tallied c.ran.world.tasks c.taken)

-- from the start, all threads in turn: at most so many steps, with a list of 256 numbers
abbrev pub rehearsed : ℕ → Program → Store → Result Told Fault
rehearsed limit p m = started m >>= λ W. Ok (told (rounds limit p 256 limit (record { world = W; out = [] })))

abbrev pub told_by : Result Told Fault → Told
told_by (Ok t) = t
told_by (Err e) = Refused e

-- refused by the bytes, by the rules, or where the memory has objects; unfolded by name alone, since rounds of a numeral unfold that often
unfoldable pub run_over : ℕ → Store → List ℕ → Result Told Fault
run_over limit m b = program b >>= λ p. verdict p >>= λ _. rehearsed limit p m

-- the first refusal of the bytes, or of the rules, or of the start; or what came of running the table over this memory for at most 10,000 steps
abbrev pub reported_on : Store → List ℕ → Told
reported_on m b = told_by (run_over 10000 m b)

-- over an empty memory of 64 objects
abbrev pub reported : List ℕ → Told
reported b = reported_on (record { capacity = 64; objects = [] }) b

-- what a report of the code stands for
abbrev pub numbers_of : Rehearsal → List ℕ
numbers_of r = front_of r.numbers

abbrev pub ran_by : Result Rehearsal Fault → Result Told Fault
ran_by (Ok r) = Ok (Ran (numbers_of r) r.tally)
ran_by (Err e) = Err e

abbrev pub meant : Report → Told
meant r = told_by (ran_by r.outcome)

-- the numbers, one to a line, and then the counts
abbrev pub lines : List ℕ → List ℕ
lines [] = []
lines (n ∷ ns) = (decimal n ++ codes "\n") ++ lines ns

abbrev pub tally_text : Tally → List ℕ
tally_text t =
    codes "ended " ++ (decimal t.ended ++ (codes " halted " ++ (decimal t.halted ++ (codes " running " ++ (decimal t.running ++ (codes " steps " ++ decimal t.steps))))))

abbrev pub report_text : Told → List ℕ
report_text (Refused e) = fault_text e
report_text (Ran ns t) = lines ns ++ tally_text t
