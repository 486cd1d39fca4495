use Rattle.std.proofs.Common.{◌∙◌, sym}
use Rattle.rules.proofs.Lists.{differ_first}
use Rattle.rules.proofs.scope.+all_differ.Goals as goal

pub returns-then-not-contains : goal.returns-then-not-contains
returns-then-not-contains t c =
    c.all_differ.ensures ∙ sym ((differ_first c.args.slots.now c.contains.result c.in-len1-up.len_at_least c.contains.ensures.value).0 c.if-not-contains.true)

pub returns-else-not-contains : goal.returns-else-not-contains
returns-else-not-contains t c = sym ((differ_first c.args.slots.now c.contains.result c.in-len1-up.len_at_least c.contains.ensures.value).1 c.if-not-contains.false)
