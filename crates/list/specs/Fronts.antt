-- The items of an array that are in use.
use Rattle.std.specs.Prelude.{ℕ, List, take}
use Rattle.list.specs.declared.fronts.Front.{Front}

abbrev pub front_of : {X : Type 0} {N : ℕ} → Front X N → List X
front_of f = take f.len f.items
