use Rattle.std.proofs.Common.{length-take, rules}
use Rattle.list.proofs.Bounded.len.Goals as goal

pub returns-clause-value : goal.returns-clause-value
returns-clause-value g c = rw length-take (search rules)
