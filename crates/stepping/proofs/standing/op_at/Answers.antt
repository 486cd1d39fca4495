use Rattle.std.proofs.Common.{◌<◌, length, ap, ◌∙◌, arith}
use Rattle.table.specs.Records.{meant_by}
use Rattle.table.specs.Reading.{program_of, found}
use Rattle.rules.specs.Rules.{callee}
use Rattle.stepping.proofs.Records.{meant_ok, op_found}
use Rattle.stepping.proofs.standing.op_at.Goals as goal

pub returns-clause-value : goal.returns-clause-value
returns-clause-value c =
    let p = program_of c.args.table.now in
    let l : c.args.frame.index < length (callee (program_of c.args.table.now) c.args.frame.function).records = omega (arith, c.records.ensures.value) in
    ap meant_by (c.in_ok-record.ensures.value) ∙ meant_ok c.record.result ∙ op_found p c.args.frame (found c.record.result) c.record.ensures l
