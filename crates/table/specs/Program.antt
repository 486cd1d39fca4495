-- The program that a table's bytes hold, and the refusals of a table that holds none.
use Rattle.std.specs.Prelude.{ℕ, zero, suc, ◌+◌, ◌-◌, ◌*◌, ◌/◌, ◌%◌, min, Bool, cond, ◌&&◌, List, map, length, take, drop, Ok, Option, Result, ◌==◌, nat_le, nat_lt, slice_index}
use Rattle.std.specs.List.{range_with_len}
use Rattle.table.specs.declared.fault.Place.TheVariants.{Byte}
use Rattle.table.specs.declared.fault.Fault.{Fault}
use Rattle.table.specs.declared.types.Ty.{Ty}
use Rattle.table.specs.declared.types.Field.{Field}
use Rattle.table.specs.Faults.{Passes, need, each, ◌>>=◌}
use Rattle.table.specs.Types.{mode_of, type_of, keeps, field_keeps}
use Rattle.table.specs.Records.{Op, decoded}

pub record Function : Type 0 where
  pub params : List Ty
  pub result : Ty
  pub records : List (Option Op)

-- a record that says nothing is `None`
pub record Program : Type 0 where
  pub structs : List (List Field)
  pub functions : List Function

-- the values at 0 to n - 1
abbrev pub listing : {X : Type 0} → ℕ → (ℕ → X) → List X
listing n at = map at (range_with_len 0 n)

abbrev pub both : ℕ → ℕ → ℕ → Bool
both low high n = nat_le low n && nat_le n high

module _ (b : List ℕ) where
  abbrev pub byte : ℕ → ℕ
  byte i = slice_index b i

  -- numbers are stored low byte first
  abbrev pub word : ℕ → ℕ
  word i = byte i + 256 * byte (i + 1)

  -- how many structs and functions there are
  abbrev pub struct_count : ℕ
  struct_count = byte 1

  abbrev pub function_count : ℕ
  function_count = byte 2

  -- The pairs of offset and length begin at byte 4. Section 0 holds the structs, and section n + 1 function n.
  abbrev pub pair : ℕ → ℕ
  pair i = 4 + 4 * i

  abbrev pub section_place : ℕ → ℕ
  section_place i = word (pair i)

  abbrev pub section_end : ℕ → ℕ
  section_end i = section_place i + word (pair i + 2)

  -- the four bytes of a type
  abbrev pub type_at : ℕ → Ty
  type_at q = type_of (byte q) (byte (q + 1)) (byte (q + 2)) (byte (q + 3))

  -- a struct begins where the one before it ends
  abbrev pub struct_place : ℕ → ℕ
  struct_place zero = section_place 0
  struct_place (suc s) = struct_place s + 1 + 5 * byte (struct_place s)

  abbrev pub field_count : ℕ → ℕ
  field_count s = byte (struct_place s)

  -- a field has five bytes: its mode and its type
  abbrev pub field_place : ℕ → ℕ → ℕ
  field_place s f = struct_place s + 1 + 5 * f

  abbrev pub field_at : ℕ → ℕ → Field
  field_at s f = record { mode = mode_of (byte (field_place s f)); ty = type_at (field_place s f + 1) }

  -- a function begins with its number of parameters; their types, the return type and the records follow
  abbrev pub function_place : ℕ → ℕ
  function_place n = section_place (n + 1)

  abbrev pub param_count : ℕ → ℕ
  param_count n = byte (function_place n)

  abbrev pub param_place : ℕ → ℕ → ℕ
  param_place n i = function_place n + 1 + 4 * i

  abbrev pub result_place : ℕ → ℕ
  result_place n = param_place n (param_count n)

  -- what is left for the records
  abbrev pub record_bytes : ℕ → ℕ
  record_bytes n = section_end (n + 1) - (result_place n + 4)

  abbrev pub record_count : ℕ → ℕ
  record_count n = record_bytes n / 12

  abbrev pub record_place : ℕ → ℕ → ℕ
  record_place n i = result_place n + 4 + 12 * i

  abbrev pub record_at : ℕ → ℕ → Option Op
  record_at n i = decoded (take 12 (drop (record_place n i) b))

  -- No table has more than these: what is past them is refused, and no part of what the bytes hold.
  abbrev pub struct_total : ℕ
  struct_total = min 16 struct_count

  abbrev pub field_total : ℕ → ℕ
  field_total s = min 8 (field_count s)

  abbrev pub function_total : ℕ
  function_total = min 32 function_count

  abbrev pub param_total : ℕ → ℕ
  param_total n = min 4 (param_count n)

  abbrev pub record_total : ℕ → ℕ
  record_total n = min 255 (record_count n)

  abbrev pub struct_at : ℕ → List Field
  struct_at s = listing (field_total s) (field_at s)

  abbrev pub function_at : ℕ → Function
  function_at n = record {
    params = listing (param_total n) (λ i. type_at (param_place n i));
    result = type_at (result_place n);
    records = listing (record_total n) (record_at n);
  }

  -- what the bytes hold, if nothing is refused
  abbrev pub contents : Program
  contents = record { structs = listing struct_total struct_at; functions = listing function_total function_at }

  -- 1 to 3: the length, the edition, the counts and byte 3
  abbrev pub header : Passes
  header =
      need (both 4 65535 (length b)) 1 (Byte 0) >>= λ _.
      need (byte 0 == 1) 2 (Byte 0) >>= λ _.
      need (both 1 16 struct_count) 3 (Byte 1) >>= λ _.
      need (both 1 32 function_count) 3 (Byte 2) >>= λ _.
      need (byte 3 == 0) 3 (Byte 3)

  -- a section begins where what comes before it ends: the pairs, or the section before
  abbrev pub section_begin : ℕ → ℕ
  section_begin i = cond (i == 0) (pair (function_count + 1)) (section_end (i - 1))

  -- and ends within the table, the last with it
  abbrev pub section_fits : ℕ → Bool
  section_fits i =
      (section_place i == section_begin i)
      && cond (i == function_count) (section_end i == length b) (nat_le (section_end i) (length b))

  abbrev pub section_passes : ℕ → Passes
  section_passes i = need (section_fits i) 4 (Byte (pair i))

  -- 4: the pairs
  abbrev pub sections : Passes
  sections = need (nat_le (pair (function_count + 1)) (length b)) 4 (Byte 4) >>= λ _. each (function_count + 1) section_passes

  -- a struct has at most 8 fields and is not cut short
  abbrev pub struct_fits : ℕ → Bool
  struct_fits s = nat_lt (struct_place s) (section_end 0) && nat_le (field_count s) 8 && nat_le (field_place s (field_count s)) (section_end 0)

  abbrev pub mode_passes : ℕ → ℕ → Passes
  mode_passes s f = need (nat_le (byte (field_place s f)) 3) 5 (Byte (field_place s f))

  abbrev pub struct_passes : ℕ → Passes
  struct_passes s = need (struct_fits s) 5 (Byte (struct_place s)) >>= λ _. each (field_count s) (mode_passes s)

  -- 5: the structs, and then a byte left over
  abbrev pub structs : Passes
  structs = each struct_count struct_passes >>= λ _. need (struct_place struct_count == section_end 0) 5 (Byte (struct_place struct_count))

  -- a function has at most 4 parameters, and 1 to 255 records that fill its section
  abbrev pub function_fits : ℕ → Bool
  function_fits n = nat_le (param_count n) 4 && record_bytes n % 12 == 0 && both 1 255 (record_count n)

  abbrev pub function_passes : ℕ → Passes
  function_passes n = need (function_fits n) 6 (Byte (function_place n))

  -- 6: the functions
  abbrev pub functions : Passes
  functions = each function_count function_passes

  abbrev pub field_type_passes : ℕ → ℕ → Passes
  field_type_passes s f = need (nat_le (byte (field_place s f + 1)) 3 && field_keeps contents.structs (field_at s f)) 7 (Byte (field_place s f + 1))

  -- 7: the types of the fields
  abbrev pub field_types : Passes
  field_types = each struct_count (λ s. each (field_count s) (field_type_passes s))

  abbrev pub type_passes : ℕ → Passes
  type_passes q = need (nat_le (byte q) 3 && keeps contents.structs (type_at q)) 7 (Byte q)

  -- and then those of the functions: the parameters, and the return type behind them
  abbrev pub function_types : Passes
  function_types = each function_count (λ n. each (param_count n + 1) (λ i. type_passes (param_place n i)))

  -- 8: function 0 has no parameters
  abbrev pub entry : Passes
  entry = need (param_count 0 == 0) 8 (Byte (function_place 0))

  -- the program of a table, or the first refusal
  abbrev pub program : Result Program Fault
  program =
      header >>= λ _. sections >>= λ _. structs >>= λ _. functions >>= λ _.
      field_types >>= λ _. function_types >>= λ _. entry >>= λ _. Ok contents
