use Rattle.std.proofs.Common.{Some, sym, ap, ◌∙◌}
use Rattle.table.specs.Reading.{bytes_of}
use Rattle.std.specs.List.{slice_get}
use Rattle.table.specs.Program.{type_at}
use Rattle.table.proofs.Reading.{no_function_there, param_lacks, param_read}
use Rattle.table.proofs.view.Table.param.Goals as goal

pub returns-in_err-n : goal.returns-in_err-n
returns-in_err-n c = c.from_residual.ensures ∙ sym (ap (λ fn. slice_get fn.params c.args.i) (no_function_there (bytes_of c.args.self.now) c.args.n c.function_total.result c.function_total.ensures c.in_err-n.ensures))

pub returns-in_err-i : goal.returns-in_err-i
returns-in_err-i c = c.from_residual-in_err-i.ensures ∙ sym (param_lacks (bytes_of c.args.self.now) c.args.n c.function_total.result c.in_ok-n.n c.args.i c.param_total.result c.function_total.ensures c.in_ok-n.ensures c.param_total.ensures c.in_err-i.ensures)

pub returns : goal.returns
returns c =
    ap Some (c.type_at.ensures ∙ ap (type_at (bytes_of c.args.self.now)) c.param_place.ensures.value)
    ∙ sym (param_read (bytes_of c.args.self.now) c.args.n c.function_total.result c.in_ok-n.n c.args.i c.param_total.result c.in_ok-i.i c.function_total.ensures c.in_ok-n.ensures c.param_total.ensures c.in_ok-i.ensures)
