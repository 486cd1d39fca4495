use Rattle.std.proofs.Common.{ℕ, take, ap, ◌∙◌}
use Rattle.list.proofs.Ends.{front_is}
use Rattle.list.proofs.Bounded.all.Goals as goal

pub returns : goal.returns
returns g c = ap (λ (n : ℕ). take n c.args.self.now.items.now) c.len.ensures.value ∙ front_is c.args.self.now.len c.args.self.now.items.now
