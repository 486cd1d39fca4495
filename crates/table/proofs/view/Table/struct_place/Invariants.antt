use Rattle.std.proofs.Common.{◌≡◌, ◌+◌, ◌*◌, ◌≤◌}
use Rattle.table.specs.Program.{struct_place}
use Rattle.table.specs.Reading.{bytes_of}
use Rattle.table.proofs.view.Table.struct_place.Given as goal

abbrev pub invariant-loop-i : goal.invariant-loop-i
invariant-loop-i l = (l.place ≡ struct_place (bytes_of l.self) l._i) × (l.place ≤ 65535 + 1276 * l._i)
