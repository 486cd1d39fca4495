use Rattle.std.proofs.Common.{◌≡◌, Ok}
use Rattle.table.specs.Faults.{each}
use Rattle.table.specs.Reading.{program_of}
use Rattle.owning.proofs.Sums.{known_at}
use Rattle.owning.proofs.known.require_frames.Given as goal

abbrev pub invariant-loop-i : goal.invariant-loop-i
invariant-loop-i l = each l.i (known_at (program_of l.table) l.threads) ≡ Ok tt
