use Rattle.rules.proofs.Numbers.{numbers_stand}
use Rattle.rules.proofs.theorems.numbers_stand.Goals as goal

pub returns : goal.returns
returns c = numbers_stand
