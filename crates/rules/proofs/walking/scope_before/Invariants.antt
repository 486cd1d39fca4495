use Rattle.std.proofs.Common.{◌-◌, ◌≤◌}
use Rattle.rules.specs.InScope.{in_scope, SameList}
use Rattle.rules.specs.Walk.{Way}
use Rattle.rules.proofs.walking.scope_before.Given as goal

abbrev pub invariant-loop-place : goal.invariant-loop-place
invariant-loop-place l = (l.place ≤ l.index) × Way l.body l.index l.place (in_scope l.types) × SameList l.initial.types l.types

abbrev pub decreases-loop-place : goal.decreases-loop-place
decreases-loop-place l = l.index - l.place
