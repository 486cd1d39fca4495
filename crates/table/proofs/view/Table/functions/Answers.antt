use Rattle.std.proofs.Common.{sym, ◌∙◌}
use Rattle.table.specs.Reading.{bytes_of}
use Rattle.table.specs.Program.{function_total, function_at}
use Rattle.table.proofs.Listing.{length_listing}
use Rattle.table.proofs.view.Table.functions.Goals as goal

pub returns-clause-value : goal.returns-clause-value
returns-clause-value c = c.from.ensures ∙ c.function_total.ensures ∙ sym (length_listing (function_total (bytes_of c.args.self.now)) (function_at (bytes_of c.args.self.now)))
