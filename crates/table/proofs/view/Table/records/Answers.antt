use Rattle.std.proofs.Common.{length, sym, ap, ◌∙◌}
use Rattle.table.specs.Reading.{bytes_of}
use Rattle.table.proofs.Reading.{record_counts, no_function_there}
use Rattle.table.proofs.view.Table.records.Goals as goal

pub returns-in-Some-clause-value : goal.returns-in-Some-clause-value
returns-in-Some-clause-value c = c.from.ensures ∙ c.record_total.ensures ∙ sym (record_counts (bytes_of c.args.self.now) c.args.n c.function_total.result c.in-Some.n c.function_total.ensures c.in-Some.ensures)

pub returns-in-None-clause-value : goal.returns-in-None-clause-value
returns-in-None-clause-value c = sym (ap (λ fn. length fn.records) (no_function_there (bytes_of c.args.self.now) c.args.n c.function_total.result c.function_total.ensures c.in-None.ensures))
