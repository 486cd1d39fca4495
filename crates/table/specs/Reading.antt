-- What a program has at each place, and the program that an opened table stands for.
use Rattle.std.specs.Prelude.{ℕ, List, [], Some, None, Ok, Err, Option, Result, cond, nat_lt, slice_index_or}
use Rattle.std.specs.List.{slice_get}
use Rattle.std.specs.Option.{option_map}
use Rattle.table.specs.declared.fault.Fault.{Fault}
use Rattle.table.specs.declared.types.Kind.TheVariants.{Number}
use Rattle.table.specs.declared.types.Ty.{Ty}
use Rattle.table.specs.declared.types.Field.{Field}
use Rattle.table.specs.declared.records.Record.{Record}
use Rattle.table.specs.declared.view.Table.{Table}
use Rattle.table.specs.declared.view.Lacking.{Lacking}
use Rattle.table.specs.declared.view.Lacking.TheVariants.{Missing, Undecodable}
use Rattle.table.specs.Records.{Op, meant}
use Rattle.table.specs.Program.{Function, Program, contents}

abbrev pub number : Ty
number = record { kind = Number; strukt = 0; barred = 0; withheld = 0 }

-- what stands for a function that is not there
abbrev pub no_function : Function
no_function = record { params = []; result = number; records = [] }

abbrev pub fields_of : Program → ℕ → List Field
fields_of p s = slice_index_or p.structs s []

abbrev pub function_of : Program → ℕ → Function
function_of p n = slice_index_or p.functions n no_function

abbrev pub field_of : Program → ℕ → ℕ → Option Field
field_of p s f = slice_get (fields_of p s) f

abbrev pub param_of : Program → ℕ → ℕ → Option Ty
param_of p n i = slice_get (function_of p n).params i

abbrev pub result_of : Program → ℕ → Option Ty
result_of p n = option_map (λ fn. fn.result) (slice_get p.functions n)

-- a number below a total
abbrev pub within : ℕ → ℕ → Option ℕ
within i total = cond (nat_lt i total) (Some i) None

-- a record that is not there, and one that says nothing
abbrev pub present : Option (Option Op) → Result Op Lacking
present None = Err Missing
present (Some None) = Err Undecodable
present (Some (Some op)) = Ok op

abbrev pub record_of : Program → ℕ → ℕ → Result Op Lacking
record_of p n i = present (slice_get (function_of p n).records i)

abbrev pub bytes_of : Table → List ℕ
bytes_of t = t.bytes.now

abbrev pub program_of : Table → Program
program_of t = contents (bytes_of t)

-- what was found, in the words of the definitions
abbrev pub found : Result Record Lacking → Result Op Lacking
found (Ok r) = Ok (meant r)
found (Err e) = Err e

-- what opening a table gave, in the words of the definitions
abbrev pub opened : Result Table Fault → Result Program Fault
opened (Ok t) = Ok (program_of t)
opened (Err e) = Err e
