use Rattle.std.proofs.Common.{take}
use Rattle.std.specs.Fmt.{IsPlainFormatter, HasWritten}
use Rattle.rehearsing.specs.Reports.{lines}
use Rattle.rehearsing.proofs.shown.write_lines.Given as goal

-- the lines of the numbers so far are written
abbrev pub invariant-loop-number : goal.invariant-loop-number
invariant-loop-number g l = IsPlainFormatter l.initial.f → HasWritten g.W.Write.write_str_gives l.initial.f (lines (take l.number-index l.numbers)) l.f
