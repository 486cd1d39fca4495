use Rattle.safety.proofs.words_stay_small.Goals as goal
use Rattle.safety.proofs.Words.{words_stand}

pub returns : goal.returns
returns c = words_stand
