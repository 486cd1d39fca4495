use Rattle.std.proofs.Common.{◌≡◌, drop}
use Rattle.rules.specs.Scopes.{bodies, verdict}
use Rattle.rules.specs.Seen.{seen}
use Rattle.rules.proofs.checking.check.Given as goal

abbrev pub invariant-loop-function : goal.invariant-loop-function
invariant-loop-function l = bodies (seen l.table) l.function (drop l.function (seen l.table).functions) ≡ verdict (seen l.table)
