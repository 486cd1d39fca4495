-- The check of a part of a body, and of a test that begins it.
use Rattle.std.specs.Prelude.{ℕ, ◌+◌, ◌-◌, ◌≤◌, List, length, take, drop, Ok, Err, Option, Result}
use Rattle.table.specs.declared.fault.Fault.{Fault}
use Rattle.table.specs.declared.types.Ty.{Ty}
use Rattle.table.specs.declared.records.Test.{Test}
use Rattle.table.specs.declared.records.Record.{Record}
use Rattle.table.specs.Faults.{Passes}
use Rattle.table.specs.Records.{Op, meant}
use Rattle.rules.specs.declared.body.Body.{Body}
use Rattle.rules.specs.declared.parts.Part.{Part}
use Rattle.rules.specs.Rules.{record_at, first, premises, asks}
use Rattle.rules.specs.Seen.{program_in, function_in}
use Rattle.rules.specs.Scan.{judged_of, test_by, scan}

-- the records from place i up to j
abbrev pub span : List (Option Op) → ℕ → ℕ → List (Option Op)
span rs i j = take (j - i) (drop i rs)

-- a part of a body, with as many types in scope as its block began with, or more
pub record Stands (b : Body) (ts : List Ty) (q : Part) : Type 0 where
  pub inside : q.end ≤ length (function_in b).records
  pub deep : q.floor ≤ length ts

-- what a check of a part says
abbrev pub scanned : ℕ → Body → List Ty → Part → Passes
scanned f b ts q = scan (program_in b) (function_in b) b.function f q.levels q.place ts q.sort (span (function_in b).records q.place q.end)

-- and of one that begins with a test, with the counts of its blocks
abbrev pub tested : ℕ → Body → List Ty → Part → Test → ℕ → ℕ → Passes
tested f b ts q t yes_count no_count =
    test_by (program_in b) (function_in b) b.function (scan (program_in b) (function_in b) b.function f)
    q.levels q.place ts q.sort t yes_count no_count (span (function_in b).records (q.place + 1) q.end)

-- what its first record says, or its refusal
abbrev pub judged_at : Body → List Ty → Part → Result Op Fault
judged_at b ts q =
    judged_of (program_in b) (function_in b) b.function q.levels (q.end - (q.place + 1)) q.sort ts q.place (record_at (function_in b) q.place)

-- in the words of the definitions
abbrev pub said_by : Result Record Fault → Result Op Fault
said_by (Ok r) = Ok (meant r)
said_by (Err e) = Err e

-- the number of the first premise that fails, of a record and of a test
abbrev pub refused_in : Body → List Ty → Op → Option ℕ
refused_in b ts op = first (premises (program_in b) (function_in b) ts op)

abbrev pub test_refused_in : Body → List Ty → Test → Option ℕ
test_refused_in b ts t = first (asks (program_in b) (function_in b) ts t)
