use Rattle.std.proofs.Common.{ap, ◌∙◌}
use Rattle.list.specs.Held.{last_of}
use Rattle.list.proofs.Ends.{last_is}
use Rattle.list.proofs.Bounded.last.Goals as goal

pub returns : goal.returns
returns g c = c.copied.ensures ∙ c.last.ensures.value ∙ last_is c.all.result.now ∙ ap last_of c.all.ensures
