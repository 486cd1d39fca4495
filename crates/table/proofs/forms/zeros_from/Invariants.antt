use Rattle.std.proofs.Common.{◌≡◌, drop}
use Rattle.table.specs.Records.{zeros}
use Rattle.table.proofs.forms.zeros_from.Given as goal

abbrev pub invariant-loop-i : goal.invariant-loop-i
invariant-loop-i l = zeros (drop l.i l.bytes) ≡ zeros (drop l.place l.bytes)
