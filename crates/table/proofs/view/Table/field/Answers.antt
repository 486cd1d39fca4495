use Rattle.std.proofs.Common.{Some, sym, ap, ◌∙◌}
use Rattle.table.specs.Reading.{bytes_of}
use Rattle.std.specs.List.{slice_get}
use Rattle.table.proofs.Reading.{no_fields, field_lacks, field_read}
use Rattle.table.proofs.view.Table.field.Goals as goal

pub returns-in_err-s : goal.returns-in_err-s
returns-in_err-s c = c.from_residual.ensures ∙ sym (ap (λ fs. slice_get fs c.args.f) (no_fields (bytes_of c.args.self.now) c.args.s c.struct_total.result c.struct_total.ensures c.in_err-s.ensures))

pub returns-in_err-f : goal.returns-in_err-f
returns-in_err-f c = c.from_residual-in_err-f.ensures ∙ sym (field_lacks (bytes_of c.args.self.now) c.args.s c.struct_total.result c.in_ok-s.s c.args.f c.field_total.result c.struct_total.ensures c.in_ok-s.ensures c.field_total.ensures c.in_err-f.ensures)

pub returns : goal.returns
returns c = ap Some c.field_at.ensures ∙ sym (field_read (bytes_of c.args.self.now) c.args.s c.struct_total.result c.in_ok-s.s c.args.f c.field_total.result c.in_ok-f.f c.struct_total.ensures c.in_ok-s.ensures c.field_total.ensures c.in_ok-f.ensures)
