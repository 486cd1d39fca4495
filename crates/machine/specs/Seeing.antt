-- The field that a value's object has at a place, if both are there.
use Rattle.std.specs.Prelude.{◌≡◌, ℕ, min, true, cond, length, Some, None, Ok, Err, Option, Result, nat_lt}
use Rattle.table.specs.declared.types.Field.{Field}
use Rattle.table.specs.Program.{Program}
use Rattle.memory.specs.Model.{Store, has_object, has_cell, cell_at}
use Rattle.machine.specs.declared.threads.Slot.{Slot}
use Rattle.machine.specs.declared.threads.Slot.TheVariants.{Empty, Null, Number, Reference}
use Rattle.machine.specs.declared.reading.Target.{Target}
use Rattle.machine.specs.declared.reading.Pair.{Pair}
use Rattle.machine.specs.Values.{object_of}
use Rattle.machine.specs.Reading.{fields, field, cell}

abbrev pub seen : Program → Store → Slot → ℕ → Option Field
seen p m Empty f = None
seen p m Null f = None
seen p m (Number n) f = None
seen p m (Reference o) f = cond (has_object m o) (cond (nat_lt f (length (fields p m (Reference o)))) (Some (field p m (Reference o) f)) None) None

-- an object that is there, with a field of its struct and the field's cell: 73 and 74, and none for what refers to nothing
abbrev pub targeted : Program → Store → Slot → ℕ → Result (Option Target) ℕ
targeted p m Empty f = Ok None
targeted p m Null f = Ok None
targeted p m (Number n) f = Ok None
targeted p m (Reference o) f =
    cond (has_object m o)
    (cond (nat_lt f (length (fields p m (Reference o)))) (Ok (Some (record { object = o; field = field p m (Reference o) f; cell = cell_at m o f }))) (Err 73))
    (Err 74)

-- what a reference that is not null has at a field
abbrev pub target_at : Program → Store → Slot → ℕ → Target
target_at p m v f = record { object = object_of v; field = field p m v f; cell = cell p m v f }

-- such a target is in the memory
abbrev pub InMemory : Store → ℕ → Result (Option Target) ℕ → Type 0
InMemory m f (Ok None) = Unit {0}
InMemory m f (Ok (Some t)) = has_cell m t.object f ≡ true
InMemory m f (Err n) = Unit {0}

-- the targets of two values: 73 of either comes before 74, and none where one refers to nothing
abbrev pub paired : Result (Option Target) ℕ → Result (Option Target) ℕ → Result (Option Pair) ℕ
paired (Err n) (Err k) = Err (min n k)
paired (Err n) (Ok o) = Err n
paired (Ok o) (Err k) = Err k
paired (Ok None) (Ok o) = Ok None
paired (Ok (Some s)) (Ok None) = Ok None
paired (Ok (Some s)) (Ok (Some t)) = Ok (Some (record { from = s; to = t }))

abbrev pub PairInMemory : Store → ℕ → Result (Option Pair) ℕ → Type 0
PairInMemory m f (Ok None) = Unit {0}
PairInMemory m f (Ok (Some t)) = has_cell m t.from.object f ≡ true
PairInMemory m f (Err n) = Unit {0}

abbrev pub pair_at : Program → Store → Slot → ℕ → Slot → ℕ → Pair
pair_at p m v f u g = record { from = target_at p m v f; to = target_at p m u g }
