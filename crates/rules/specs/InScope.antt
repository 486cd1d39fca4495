-- The types in scope, and what the end of a test's block brings back.
use Rattle.std.specs.Prelude.{◌≡◌, List, take, slice_set}
use Rattle.table.specs.declared.types.Ty.{Ty}
use Rattle.list.specs.Held.{held, slice}
use Rattle.rules.specs.declared.in_scope.InScope.{InScope}
use Rattle.rules.specs.declared.in_scope.Saved.{Saved}

-- the type of each slot
abbrev pub in_scope : InScope → List Ty
in_scope s = held s.list.now

-- both stand in one list, over one slice
pub record SameList (s t : InScope) : Type 0 where
  pub list : t.list.ghost_name ≡ s.list.ghost_name
  pub slice : slice t.list.now ≡ slice s.list.now

-- the types from before the test
abbrev pub back : List Ty → Saved → List Ty
back ts s = slice_set (take s.depth ts) s.slot s.was
