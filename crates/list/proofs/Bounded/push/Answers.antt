use Rattle.std.proofs.Common.{length-set, length-take, rules}
use Rattle.std.proofs.lemmas.List.{take_more_set}
use Rattle.list.proofs.Bounded.push.Goals as goal

pub returns : goal.returns
returns g c = search (rules, take_more_set, length-take, length-set)
