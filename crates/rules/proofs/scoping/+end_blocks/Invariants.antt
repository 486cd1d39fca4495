use Rattle.std.proofs.Common.{length}
use Rattle.list.specs.Held.{held}
use Rattle.rules.proofs.scoping.+end_blocks.Given as goal

abbrev pub decreases-end_blocks : goal.decreases-end_blocks
decreases-end_blocks l = length (held l.blocks.now.list.now)
