use Rattle.std.proofs.Common.{◌≡◌, length, ◌∙◌, rules}
use Rattle.list.specs.Held.{held}
use Rattle.rules.specs.Seen.{function_in}
use Rattle.rules.proofs.Stacks.{part_by, part_is}
use Rattle.rules.proofs.nesting.Blocks.innermost.Goals as goal

pub returns : goal.returns
returns c =
    let k : c.map_or.result ≡ part_by c.args.place c.len.result c.whole.result c.last.result = search rules in
    k ∙ part_is (length (function_in c.args.body).records) c.args.place c.len.result c.whole.result (held c.args.self.now.list.now) c.last.result c.last.ensures c.len.ensures.value c.whole.ensures
