use Rattle.std.proofs.Common.{leb, length, ◌∙◌}
use Rattle.std.proofs.lemmas.Bool.{leb-true}
use Rattle.table.specs.Reading.{program_of}
use Rattle.rules.proofs.Judging.{required_ok}
use Rattle.rules.proofs.Before.{scoped_large}
use Rattle.rules.proofs.scoping.scope_at.Goals as goal

pub returns-clause-value : goal.returns-clause-value
returns-clause-value c =
    let n = length c.args.scratch.now in
    let k = leb-true 128 n (required_ok (leb 128 n) c.at.result c.in_ok-require.field-0 c.in_ok-require.ensures) in
    c.scope_in.ensures.value ∙ scoped_large n c.args.function c.args.index (program_of c.args.table.now) k
