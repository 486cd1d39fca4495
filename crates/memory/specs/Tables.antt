-- The memory that an object table is.
use Rattle.std.specs.Prelude.{ℕ, min, length, take, Ok, Err, Result}
use Rattle.table.specs.declared.fault.Fault.{Fault}
use Rattle.memory.specs.Model.{Store}
use Rattle.memory.specs.declared.object_table.ObjectTable.{ObjectTable}

abbrev pub table_room : ObjectTable → ℕ
table_room t = min (length t.objects.now) 1024

abbrev pub table_count : ObjectTable → ℕ
table_count t = min t.count (table_room t)

-- the first records of the slice, as many as were added
abbrev pub tabled : ObjectTable → Store
tabled t = record { capacity = table_room t; objects = take (table_count t) t.objects.now }

abbrev pub tabled_by : Result ObjectTable Fault → Result Store Fault
tabled_by (Ok t) = Ok (tabled t)
tabled_by (Err e) = Err e
