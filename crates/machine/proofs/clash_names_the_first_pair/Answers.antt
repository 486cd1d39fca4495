use Rattle.machine.proofs.clash_names_the_first_pair.Goals as goal
use Rattle.machine.proofs.Pairs.{clash_law}

pub returns : goal.returns
returns c = clash_law
