use Rattle.rules.proofs.Blocks.{joins_stand}
use Rattle.rules.proofs.theorems.joins_stand.Goals as goal

pub returns : goal.returns
returns c = joins_stand
