use Rattle.std.proofs.Common.{◌≡◌, drop}
use Rattle.table.specs.Types.{set_fits}
use Rattle.table.specs.Program.{struct_at}
use Rattle.table.specs.Reading.{bytes_of}
use Rattle.table.proofs.keeping.set_fits.Given as goal

abbrev pub invariant-loop-f : goal.invariant-loop-f
invariant-loop-f l = set_fits l.kind (drop l.f (struct_at (bytes_of l.table) l.s)) l.rest ≡ set_fits l.kind (struct_at (bytes_of l.table) l.s) l.set
