use Rattle.std.proofs.Common.{Some, sym, ap, ◌∙◌}
use Rattle.table.specs.Reading.{bytes_of}
use Rattle.table.specs.Program.{type_at}
use Rattle.table.proofs.Reading.{result_lacks, result_read}
use Rattle.table.proofs.view.Table.result.Goals as goal

pub returns-in_err-n : goal.returns-in_err-n
returns-in_err-n c = c.from_residual.ensures ∙ sym (result_lacks (bytes_of c.args.self.now) c.args.n c.function_total.result c.function_total.ensures c.in_err-n.ensures)

pub returns : goal.returns
returns c =
    ap Some (c.type_at.ensures ∙ ap (type_at (bytes_of c.args.self.now)) c.result_place.ensures.value)
    ∙ sym (result_read (bytes_of c.args.self.now) c.args.n c.function_total.result c.in_ok-n.n c.function_total.ensures c.in_ok-n.ensures)
