use Rattle.std.proofs.Common.{◌≡◌, take}
use Rattle.rules.specs.Seen.{function_in}
use Rattle.rules.specs.InScope.{in_scope, SameList}
use Rattle.rules.proofs.in_scope.InScope.enter.Given as goal

abbrev pub invariant-loop-i : goal.invariant-loop-i
invariant-loop-i l = (in_scope l.self ≡ take l.i (function_in l.body).params) × SameList l.initial.self l.self
