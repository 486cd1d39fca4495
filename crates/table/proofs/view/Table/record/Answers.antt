use Rattle.std.proofs.Common.{Some, sym, ap, take, drop, ◌∙◌}
use Rattle.std.specs.List.{slice_get}
use Rattle.table.specs.declared.view.Lacking.TheVariants.{Missing}
use Rattle.table.specs.Records.{decoded}
use Rattle.table.specs.Reading.{bytes_of, found, present}
use Rattle.table.proofs.Reading.{no_function_there, record_lacks, record_read, ok_or_some, ok_or_none, missing, found_said}
use Rattle.table.proofs.view.Table.record.Goals as goal

pub returns-in_err-n : goal.returns-in_err-n
returns-in_err-n c =
    missing c.within.result c.in_err-n.field-0.0 c.from_residual.result c.in_err-n.ensures.value c.from_residual.ensures.1
    ∙ sym (ap (λ fn. present (slice_get fn.records c.args.i)) (no_function_there (bytes_of c.args.self.now) c.args.n c.function_total.result c.function_total.ensures (ok_or_none c.within.result Missing c.in_err-n.field-0.0 c.in_err-n.ensures.value ∙ c.within.ensures)))

pub returns-in_err-i : goal.returns-in_err-i
returns-in_err-i c =
    let k = ok_or_some c.within.result Missing c.in_ok-n.n c.in_ok-n.ensures.value ∙ c.within.ensures in
    let j = ok_or_none c.within-2.result Missing c.in_err-i.field-0.0 c.in_err-i.ensures.value ∙ c.within-2.ensures in
    missing c.within-2.result c.in_err-i.field-0.0 c.from_residual-in_err-i.result c.in_err-i.ensures.value c.from_residual-in_err-i.ensures.1
    ∙ sym (record_lacks (bytes_of c.args.self.now) c.args.n c.function_total.result c.in_ok-n.n c.args.i c.record_total.result c.function_total.ensures k c.record_total.ensures j)

pub returns : goal.returns
returns c =
    let k = ok_or_some c.within.result Missing c.in_ok-n.n c.in_ok-n.ensures.value ∙ c.within.ensures in
    let j = ok_or_some c.within-2.result Missing c.in_ok-i.i c.in_ok-i.ensures.value ∙ c.within-2.ensures in
    ap found c.ok_or-3.ensures.value ∙ found_said c.decode_at.result
    ∙ ap (λ o. present (Some o)) (c.decode_at.ensures ∙ ap (λ q. decoded (take 12 (drop q (bytes_of c.args.self.now)))) c.record_place.ensures.value)
    ∙ sym (record_read (bytes_of c.args.self.now) c.args.n c.function_total.result c.in_ok-n.n c.args.i c.record_total.result c.in_ok-i.i c.function_total.ensures k c.record_total.ensures j)
