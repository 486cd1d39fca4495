use Rattle.std.proofs.Common.{length-take, rules}
use lib.Seq.{take-set-lt}
use Rattle.list.proofs.Bounded.set.Goals as goal

pub returns-then-i-len-clause-held : goal.returns-then-i-len-clause-held
returns-then-i-len-clause-held g c = take-set-lt c.args.self.now.len c.args.self.now.items.now c.args.i c.args.x (search (rules, length-take))
