-- What a bounded list holds.
use Rattle.std.specs.Prelude.{ℕ, ◌-◌, cond, List, [], ◌∷◌, ◌++◌, length, take, Some, None, Option, nat_lt}
use Rattle.std.specs.Borrow.{GName}
use Rattle.list.specs.declared.Bounded.{Bounded}

abbrev pub held : {X : Type 0} → Bounded X → List X
held s = take s.len s.items.now

-- how many items there is room for
abbrev pub room : {X : Type 0} → Bounded X → ℕ
room s = length s.items.now

-- one item more, if there is room
abbrev pub pushed : {X : Type 0} → ℕ → List X → X → List X
pushed room xs x = cond (nat_lt (length xs) room) (xs ++ (x ∷ [])) xs

-- the last item, if there is one
abbrev pub last_of : {X : Type 0} → List X → Option X
last_of [] = None
last_of (x ∷ []) = Some x
last_of (x ∷ (y ∷ ys)) = last_of (y ∷ ys)

-- all items but the last
abbrev pub popped : {X : Type 0} → List X → List X
popped xs = take (length xs - 1) xs

-- the slice that it lies over, by the name of its loan
abbrev pub slice : {X : Type 0} → Bounded X → GName
slice s = s.items.ghost_name
