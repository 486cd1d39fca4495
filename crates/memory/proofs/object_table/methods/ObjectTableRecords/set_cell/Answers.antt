use Rattle.std.proofs.Common.{rules}
use lib.Seq.{take-set-lt}
use Rattle.std.proofs.lemmas.List.{get_or-take}
use Rattle.memory.proofs.object_table.methods.ObjectTableRecords.set_cell.Goals as goal

pub returns : goal.returns
returns c = search (rules, get_or-take, take-set-lt)
