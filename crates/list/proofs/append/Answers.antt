use Rattle.std.proofs.Common.{rules}
use Rattle.std.proofs.lemmas.List.{set_past}
use Rattle.list.proofs.append.Goals as goal

pub returns-then-len-items : goal.returns-then-len-items
returns-then-len-items g c = search (rules, set_past)
