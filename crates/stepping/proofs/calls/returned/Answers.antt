use Rattle.std.proofs.Common.{ap, ◌∙◌}
use Rattle.std.specs.Option.{unwrap_or}
use Rattle.table.specs.Reading.{program_of}
use Rattle.rules.specs.Rules.{number}
use Rattle.stepping.proofs.Records.{result_there}
use Rattle.stepping.proofs.calls.returned.Goals as goal

pub returns : goal.returns
returns c = c.unwrap_or.ensures ∙ ap (λ o. unwrap_or o number) c.result.ensures ∙ result_there (program_of c.args.table.now) c.args.n
