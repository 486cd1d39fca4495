use Rattle.rules.proofs.Fit.{fit_stands}
use Rattle.rules.proofs.theorems.fit_stands.Goals as goal

pub returns : goal.returns
returns c = fit_stands
