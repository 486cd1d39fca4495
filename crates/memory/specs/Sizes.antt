-- No memory holds more than it has room for, nor has room for more than the limit.
use Rattle.std.proofs.Common.{◌≡◌, ℕ, List, length, rules, arith}
use Rattle.std.proofs.lemmas.List.{length-take}
use Rattle.std.proofs.lemmas.List.FromFn.{length-map-range_with_len}
use Rattle.memory.specs.declared.byte_image.ByteImage.{ByteImage}
use Rattle.memory.specs.declared.object_table.ObjectTable.{ObjectTable}
use Rattle.memory.specs.Images.{objects_in, object_in, held_in, imaged}
use Rattle.memory.specs.Model.{Sized}
use Rattle.memory.specs.Tables.{tabled}

pub table_sized : (t : ObjectTable) → Sized (tabled t)
table_sized t = record { most = omega arith; fits = search (rules, length-take) }

pub length_image : (n : ℕ) (bs : List ℕ) → length (objects_in n bs) ≡ n
unfolding objects_in
length_image n bs = length-map-range_with_len (object_in bs) 0 n

pub image_sized : (s : ByteImage) → Sized (imaged s)
image_sized s = record { most = omega arith; fits = rw (length_image (held_in s.count s.bytes.now) s.bytes.now) (omega arith) }
