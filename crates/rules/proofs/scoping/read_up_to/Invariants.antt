use Rattle.rules.specs.InScope.{in_scope, SameList}
use Rattle.rules.specs.Stacks.{stack}
use Rattle.rules.proofs.Before.{Reached}
use Rattle.rules.proofs.scoping.read_up_to.Given as goal

abbrev pub invariant-loop-place : goal.invariant-loop-place
invariant-loop-place l = Reached l.body l.index l.place (in_scope l.types) (stack l.blocks) × SameList l.initial.types l.types
