use Rattle.std.proofs.Common.{sym, ◌∙◌}
use Rattle.table.specs.Reading.{bytes_of}
use Rattle.table.specs.Program.{struct_total, struct_at}
use Rattle.table.proofs.Listing.{length_listing}
use Rattle.table.proofs.view.Table.structs.Goals as goal

pub returns-clause-value : goal.returns-clause-value
returns-clause-value c = c.from.ensures ∙ c.struct_total.ensures ∙ sym (length_listing (struct_total (bytes_of c.args.self.now)) (struct_at (bytes_of c.args.self.now)))
