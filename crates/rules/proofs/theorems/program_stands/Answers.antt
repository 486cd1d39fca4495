use Rattle.rules.proofs.Formed.{program_stands}
use Rattle.rules.proofs.theorems.program_stands.Goals as goal

pub returns : goal.returns
returns c = program_stands
