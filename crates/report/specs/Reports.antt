-- What is reported of a table, and its text.
use Rattle.std.specs.Prelude.{ℕ, List, Ok, Err, codes}
use Rattle.table.specs.Faults.{Passes}
use Rattle.table.specs.Shown.{fault_text}
use Rattle.rules.specs.Scopes.{judged}
use Rattle.report.specs.declared.Report.{Report}

-- by the first refusal of the bytes, or else the verdict of the rules
abbrev pub reported : List ℕ → Report
reported b = record { verdict = judged b }

abbrev pub verdict_text : Passes → List ℕ
verdict_text (Ok u) = codes "accepted"
verdict_text (Err e) = fault_text e

abbrev pub report_text : Report → List ℕ
report_text r = verdict_text r.verdict
