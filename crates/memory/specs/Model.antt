-- What a memory holds, and what each of its calls answers and leaves.
use Rattle.std.specs.Prelude.{ℕ, ◌^◌, ◌≤◌, Bool, true, false, not, ◌&&◌, List, [], ◌∷◌, ◌++◌, length, replicate, Ok, Err, Result, ◌==◌, nat_le, nat_lt, slice_index_or, slice_set}
use Rattle.table.specs.declared.fault.Fault.{Fault}
use Rattle.table.specs.declared.fault.Place.TheVariants.{Nothing}
use Rattle.table.specs.Faults.{Passes, need, ◌>>=◌}
use Rattle.memory.specs.declared.object.Cell.{Cell}
use Rattle.memory.specs.declared.object.Object.{Object}

-- how many objects may be there, and the objects by number
pub record Store : Type 0 where
  pub capacity : ℕ
  pub objects : List Object

abbrev pub count_of : Store → ℕ
count_of m = length m.objects

-- what holds of every memory at all times
pub record Sized (m : Store) : Type 0 where
  pub most : m.capacity ≤ 1024
  pub fits : count_of m ≤ m.capacity

abbrev pub plain : ℕ → Cell
plain w = record { word = w; mark = false }

-- a new object of a struct
abbrev pub fresh : ℕ → Object
fresh k = record { kind = k; cells = replicate 8 (plain 0) }

abbrev pub object_at : Store → ℕ → Object
object_at m o = slice_index_or m.objects o (record { kind = 0; cells = [] })

abbrev pub cell_at : Store → ℕ → ℕ → Cell
cell_at m o c = slice_index_or (object_at m o).cells c (plain 0)

-- one more object, and one cell written
abbrev pub with_object : Store → ℕ → Store
with_object m k = record { capacity = m.capacity; objects = m.objects ++ (fresh k ∷ []) }

abbrev pub with_cell : Store → ℕ → ℕ → Cell → Store
with_cell m o c v = record {
  capacity = m.capacity;
  objects = slice_set m.objects o (record { kind = (object_at m o).kind; cells = slice_set (object_at m o).cells c v });
}

abbrev pub has_object : Store → ℕ → Bool
has_object m o = nat_lt o (count_of m)

abbrev pub has_cell : Store → ℕ → ℕ → Bool
has_cell m o c = has_object m o && nat_lt c 8

abbrev pub is_word : ℕ → Bool
is_word w = nat_lt w (2 ^ 31)

-- 51: an object, cell, struct or word that is not there
abbrev pub there : Bool → Passes
there b = need b 51 Nothing

-- a refusal leaves what was there
abbrev pub unless_refused : {A : Type 0} → Result A Fault → Store → Store → Store
unless_refused (Ok x) changed m = changed
unless_refused (Err e) changed m = m

-- so does a no
abbrev pub on_yes : Result Bool Fault → Store → Store → Store
on_yes (Ok true) changed m = changed
on_yes (Ok false) changed m = m
on_yes (Err e) changed m = m

abbrev pub kind_of : Store → ℕ → Result ℕ Fault
kind_of m o = there (has_object m o) >>= λ _. Ok (object_at m o).kind

abbrev pub load_of : Store → ℕ → ℕ → Result Cell Fault
load_of m o c = there (has_cell m o c) >>= λ _. Ok (cell_at m o c)

-- 50: as many objects as may be there
abbrev pub add_of : Store → ℕ → Result ℕ Fault
add_of m k = there (nat_le k 15) >>= λ _. need (nat_lt (count_of m) m.capacity) 50 Nothing >>= λ _. Ok (count_of m)

abbrev pub after_add : Store → ℕ → Store
after_add m k = unless_refused (add_of m k) (with_object m k) m

abbrev pub store_of : Store → ℕ → ℕ → ℕ → Passes
store_of m o c w = there (has_cell m o c && is_word w)

abbrev pub after_store : Store → ℕ → ℕ → ℕ → Store
after_store m o c w = unless_refused (store_of m o c w) (with_cell m o c (plain w)) m

-- unmarked, with the expected word
abbrev pub matching : Cell → ℕ → Bool
matching v e = not v.mark && v.word == e

abbrev pub exchange_of : Store → ℕ → ℕ → ℕ → ℕ → Result Bool Fault
exchange_of m o c e w = there (has_cell m o c && (is_word e && is_word w)) >>= λ _. Ok (matching (cell_at m o c) e)

abbrev pub after_exchange : Store → ℕ → ℕ → ℕ → ℕ → Bool → Store
after_exchange m o c e w k = on_yes (exchange_of m o c e w) (with_cell m o c (record { word = w; mark = k })) m

-- 52: a capacity outside 1 to 1,024
abbrev pub room_of : ℕ → Passes
room_of c = need (nat_le 1 c && nat_le c 1024) 52 Nothing

-- a memory just made
abbrev pub make_of : ℕ → Result Store Fault
make_of c = room_of c >>= λ _. Ok (record { capacity = c; objects = [] })
