use Rattle.std.proofs.Common.{length, sym, ap, ◌∙◌}
use Rattle.table.specs.Reading.{bytes_of}
use Rattle.table.proofs.Reading.{field_counts, no_fields}
use Rattle.table.proofs.view.Table.fields.Goals as goal

pub returns-in-Some-clause-value : goal.returns-in-Some-clause-value
returns-in-Some-clause-value c = c.from.ensures ∙ c.field_total.ensures ∙ sym (field_counts (bytes_of c.args.self.now) c.args.s c.struct_total.result c.in-Some.s c.struct_total.ensures c.in-Some.ensures)

pub returns-in-None-clause-value : goal.returns-in-None-clause-value
returns-in-None-clause-value c = sym (ap length (no_fields (bytes_of c.args.self.now) c.args.s c.struct_total.result c.struct_total.ensures c.in-None.ensures))
