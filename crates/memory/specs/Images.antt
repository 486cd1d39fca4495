-- The memory that a byte image is, and the place of each part of it in the bytes.
use Rattle.std.specs.Prelude.{◌≡◌, ℕ, zero, suc, ◌+◌, ◌*◌, ◌/◌, ◌%◌, ◌<◌, ◌≤◌, min, cond, List, map, length, Ok, Err, Result, ◌==◌}
use Rattle.std.specs.List.{range_with_len}
use Rattle.table.specs.declared.fault.Fault.{Fault}
use Rattle.memory.specs.declared.object.Cell.{Cell}
use Rattle.memory.specs.declared.object.Object.{Object}
use Rattle.memory.specs.declared.byte_image.ByteImage.{ByteImage}
use Rattle.memory.specs.Model.{Store, count_of, object_at, cell_at}
use Rattle.memory.specs.Words.{word_at, with_word}

-- where an object begins, and where its cell c stands
abbrev pub object_place : ℕ → ℕ
object_place o = 36 * o

abbrev pub cell_place : ℕ → ℕ → ℕ
cell_place o c = 36 * o + 4 + 4 * c

-- a cell as a number: 2 × word + mark
abbrev pub cell_number : Cell → ℕ
cell_number v = 2 * v.word + cond v.mark 1 0

abbrev pub cell_from : ℕ → Cell
cell_from n = record { word = n / 2; mark = (n % 2 == 1) }

abbrev pub cell_in : List ℕ → ℕ → ℕ → Cell
cell_in bs o c = cell_from (word_at bs (cell_place o c))

-- a struct number above 254 is read as 255
abbrev pub object_in : List ℕ → ℕ → Object
object_in bs o = record { kind = min (word_at bs (object_place o)) 255; cells = map (cell_in bs o) (range_with_len 0 8) }

-- the first n objects
unfoldable pub objects_in : ℕ → List ℕ → List Object
objects_in n bs = map (object_in bs) (range_with_len 0 n)

-- the bytes with the first c cells of the object at p made zero
abbrev pub zeroed : ℕ → List ℕ → ℕ → List ℕ
zeroed zero bs p = bs
zeroed (suc c) bs p = with_word (zeroed c bs p) (p + 4 + 4 * c) 0

-- the bytes with a new object
abbrev pub blanked : List ℕ → ℕ → ℕ → List ℕ
blanked bs o k = zeroed 8 (with_word bs (object_place o) k) (object_place o)

-- how many objects fit, and how many there are
abbrev pub room_in : List ℕ → ℕ
room_in bs = min (length bs / 36) 1024

abbrev pub held_in : ℕ → List ℕ → ℕ
held_in n bs = min n (room_in bs)

abbrev pub image_of : ℕ → List ℕ → Store
image_of n bs = record { capacity = room_in bs; objects = objects_in (held_in n bs) bs }

abbrev pub imaged : ByteImage → Store
imaged s = image_of s.count s.bytes.now

abbrev pub imaged_by : Result ByteImage Fault → Result Store Fault
imaged_by (Ok s) = Ok (imaged s)
imaged_by (Err e) = Err e

-- what a reader of the bytes finds in them
pub record Layout (m : Store) (bs : List ℕ) : Type 0 where
  pub whole : 36 * count_of m ≤ length bs
  pub kinds : (o : ℕ) → o < count_of m → (object_at m o).kind ≤ 15 → word_at bs (object_place o) ≡ (object_at m o).kind
  pub cells : (o c : ℕ) → o < count_of m → c < 8 → word_at bs (cell_place o c) ≡ cell_number (cell_at m o c)
