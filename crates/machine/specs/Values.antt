-- What slots hold, and what becomes of a value that goes to a place of a type.
use Rattle.std.specs.Prelude.{ℕ, zero, suc, ◌-◌, Bool, true, false, cond, not, ◌&&◌, ◌||◌, List, [], ◌∷◌, replicate, nat_lt, slice_index_or, slice_set}
use Rattle.table.specs.declared.types.Ty.{Ty}
use Rattle.table.specs.Types.{is_number, is_owned, is_pristine}
use Rattle.machine.specs.declared.threads.Slot.{Slot}
use Rattle.machine.specs.declared.threads.Slot.TheVariants.{Empty, Null, Number, Reference}

abbrev pub is_empty : Slot → Bool
is_empty Empty = true
is_empty Null = false
is_empty (Number n) = false
is_empty (Reference o) = false

abbrev pub is_null : Slot → Bool
is_null Empty = false
is_null Null = true
is_null (Number n) = false
is_null (Reference o) = false

abbrev pub holds_number : Slot → Bool
holds_number Empty = false
holds_number Null = false
holds_number (Number n) = true
holds_number (Reference o) = false

-- null counts as a reference
abbrev pub is_reference : Slot → Bool
is_reference Empty = false
is_reference Null = true
is_reference (Number n) = false
is_reference (Reference o) = true

abbrev pub object_of : Slot → ℕ
object_of Empty = 0
object_of Null = 0
object_of (Number n) = 0
object_of (Reference o) = o

-- the word of a value in a cell, where 0 is null and o + 1 is object o
abbrev pub word_of : Slot → ℕ
word_of Empty = 0
word_of Null = 0
word_of (Number n) = n
word_of (Reference o) = suc o

abbrev pub reference_of : ℕ → Slot
reference_of zero = Null
reference_of (suc o) = Reference o

-- what a cell of this type holds
abbrev pub value_of : Ty → ℕ → Slot
value_of t n = cond (is_number t.kind) (Number n) (reference_of n)

-- a number for a number, and a reference for a reference
abbrev pub suits : Ty → Slot → Bool
suits t v = cond (is_number t.kind) (holds_number v) (is_reference v)

-- what is left in a slot whose value goes to a place of this type
abbrev pub left : Ty → Slot → Slot
left t v = cond (is_owned t.kind || is_pristine t.kind) Null v

module _ (vs : List Slot) where
  abbrev pub at : ℕ → Slot
  at x = slice_index_or vs x Empty

  -- an operand: one of the 16 slots, and not empty
  abbrev pub given : ℕ → Bool
  given x = nat_lt x 16 && not (is_empty (at x))

  -- an operand for each parameter, and each of its sort
  abbrev pub all_given : List ℕ → List Ty → Bool
  all_given xs [] = true
  all_given [] (t ∷ ts) = true
  all_given (x ∷ xs) (t ∷ ts) = given x && all_given xs ts

  abbrev pub all_suit : List ℕ → List Ty → Bool
  all_suit xs [] = true
  all_suit [] (t ∷ ts) = true
  all_suit (x ∷ xs) (t ∷ ts) = suits t (at x) && all_suit xs ts

-- the arguments of a call: what they leave in the caller's slots, and the n slots of the frame that they begin
abbrev pub leaving : List Slot → List ℕ → List Ty → List Slot
leaving vs xs [] = vs
leaving vs [] (t ∷ ts) = vs
leaving vs (x ∷ xs) (t ∷ ts) = leaving (slice_set vs x (left t (slice_index_or vs x Empty))) xs ts

abbrev pub passing : List Slot → List ℕ → List Ty → ℕ → List Slot
passing vs xs [] n = replicate n Empty
passing vs [] (t ∷ ts) n = replicate n Empty
passing vs (x ∷ xs) (t ∷ ts) n = slice_index_or vs x Empty ∷ passing vs xs ts (n - 1)
