-- The kinds and modes of types and fields, and when a type keeps its rules.
use Rattle.std.specs.Prelude.{ℕ, ◌/◌, ◌%◌, Bool, true, false, cond, not, ◌&&◌, ◌||◌, List, [], ◌∷◌, length, ◌==◌, nat_lt, slice_index_or}
use Rattle.table.specs.declared.types.Kind.{Kind}
use Rattle.table.specs.declared.types.Kind.TheVariants.{Number, Alias, Owned, Pristine}
use Rattle.table.specs.declared.types.Mode.{Mode}
use Rattle.table.specs.declared.types.Mode.TheVariants.{Var, Val, Once, Spec}
use Rattle.table.specs.declared.types.Ty.{Ty}
use Rattle.table.specs.declared.types.Field.{Field}

-- 0 a number, 1 alias, 2 owned, 3 pristine
abbrev pub kind_of : ℕ → Kind
kind_of n = cond (n == 0) Number (cond (n == 1) Alias (cond (n == 2) Owned Pristine))

-- 0 var, 1 val, 2 once, 3 spec
abbrev pub mode_of : ℕ → Mode
mode_of n = cond (n == 0) Var (cond (n == 1) Val (cond (n == 2) Once Spec))

abbrev pub type_of : ℕ → ℕ → ℕ → ℕ → Ty
type_of kind strukt barred withheld = record { kind = kind_of kind; strukt = strukt; barred = barred; withheld = withheld }

abbrev pub is_number : Kind → Bool
is_number Number = true
is_number Alias = false
is_number Owned = false
is_number Pristine = false

abbrev pub is_alias : Kind → Bool
is_alias Number = false
is_alias Alias = true
is_alias Owned = false
is_alias Pristine = false

abbrev pub is_owned : Kind → Bool
is_owned Number = false
is_owned Alias = false
is_owned Owned = true
is_owned Pristine = false

abbrev pub is_pristine : Kind → Bool
is_pristine Number = false
is_pristine Alias = false
is_pristine Owned = false
is_pristine Pristine = true

abbrev pub is_var : Mode → Bool
is_var Var = true
is_var Val = false
is_var Once = false
is_var Spec = false

abbrev pub is_val : Mode → Bool
is_val Var = false
is_val Val = true
is_val Once = false
is_val Spec = false

abbrev pub is_once : Mode → Bool
is_once Var = false
is_once Val = false
is_once Once = true
is_once Spec = false

abbrev pub is_spec : Mode → Bool
is_spec Var = false
is_spec Val = false
is_spec Once = false
is_spec Spec = true

-- which fields a type of this kind may withhold
abbrev pub may_withhold : Kind → Field → Bool
may_withhold Number f = false
may_withhold Alias f = not (is_var f.mode) && not (is_number f.ty.kind)
may_withhold Owned f = not (is_var f.mode) && not (is_number f.ty.kind)
may_withhold Pristine f = (is_val f.mode || is_spec f.mode) && is_owned f.ty.kind

-- a set withholds only what it may of these fields: bit 0 is the first field's
abbrev pub set_fits : Kind → List Field → ℕ → Bool
set_fits k [] m = m == 0
set_fits k (f ∷ fs) m = (m % 2 == 0 || may_withhold k f) && set_fits k fs (m / 2)

-- a type keeps its rules, over these structs
abbrev pub keeps : List (List Field) → Ty → Bool
keeps ss t =
    (t.barred == 0)
    && cond (is_number t.kind) (t.strukt == 0 && t.withheld == 0)
    (nat_lt t.strukt (length ss) && set_fits t.kind (slice_index_or ss t.strukt []) t.withheld)

-- a field keeps the rules of its type and of its mode
abbrev pub field_keeps : List (List Field) → Field → Bool
field_keeps ss f =
    keeps ss f.ty && not (is_pristine f.ty.kind) && f.ty.withheld == 0
    && (is_var f.mode || is_val f.mode || not (is_number f.ty.kind))
