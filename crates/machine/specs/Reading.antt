-- The object that a value refers to: its fields and cells, and what can be judged of them.
use Rattle.std.specs.Prelude.{ℕ, Bool, true, cond, not, ◌&&◌, List, [], length, Some, None, Option, nat_lt, slice_index_or}
use Rattle.table.specs.declared.types.Ty.{Ty}
use Rattle.table.specs.declared.types.Field.{Field}
use Rattle.table.specs.Types.{is_number, is_var}
use Rattle.table.specs.Program.{Program}
use Rattle.rules.specs.Rules.{no_field}
use Rattle.memory.specs.declared.object.Cell.{Cell}
use Rattle.memory.specs.Model.{Store, object_at, cell_at, with_cell, has_object}
use Rattle.machine.specs.declared.threads.Slot.{Slot}
use Rattle.machine.specs.declared.threads.Slot.TheVariants.{Empty, Null, Number, Reference}
use Rattle.machine.specs.Values.{object_of}

module _ (p : Program) (m : Store) where
  -- the fields of its struct
  abbrev pub fields : Slot → List Field
  fields v = slice_index_or p.structs (object_at m (object_of v)).kind []

  abbrev pub field : Slot → ℕ → Field
  field v f = slice_index_or (fields v) f no_field

  abbrev pub field_type : Slot → ℕ → Ty
  field_type v f = (field v f).ty

  -- a cell, and the same cell written
  abbrev pub cell : Slot → ℕ → Cell
  cell v f = cell_at m (object_of v) f

  abbrev pub write : Slot → ℕ → ℕ → Bool → Store
  write v f n k = with_cell m (object_of v) f (record { word = n; mark = k })

  -- the memory has the object
  abbrev pub slot_has_object : Slot → Bool
  slot_has_object Empty = true
  slot_has_object Null = true
  slot_has_object (Number n) = true
  slot_has_object (Reference o) = has_object m o

  -- a null, and an object that is not there, hide their fields
  abbrev pub where_object : Slot → Bool → Bool
  where_object Empty b = true
  where_object Null b = true
  where_object (Number n) b = true
  where_object (Reference o) b = cond (has_object m o) b true

  abbrev pub has_field : Slot → ℕ → Bool
  has_field v f = where_object v (nat_lt f (length (fields v)))

  abbrev pub where_field : Slot → ℕ → Bool → Bool
  where_field v f b = where_object v (cond (nat_lt f (length (fields v))) b true)

  -- the field is a reference
  abbrev pub refers : Slot → ℕ → Bool
  refers v f = where_field v f (not (is_number (field_type v f).kind))

  -- the object and the field that a get, take or set of a var field touches
  abbrev pub touched : Slot → ℕ → Option (ℕ × ℕ)
  touched Empty f = None
  touched Null f = None
  touched (Number n) f = None
  touched (Reference o) f = cond (has_object m o && nat_lt f (length (fields (Reference o))) && is_var (field (Reference o) f).mode) (Some (o, f)) None
