-- The typing rules of the records.
use Rattle.std.specs.Prelude.{ℕ, ◌-◌, ◌/◌, ◌%◌, ◌^◌, Bool, true, false, cond, not, ◌&&◌, ◌||◌, List, [], ◌∷◌, length, take, drop, Some, None, Option, ◌==◌, bit_and, bit_or, nat_lt, slice_index_or, slice_set}
use Rattle.table.specs.declared.types.Kind.{Kind}
use Rattle.table.specs.declared.types.Kind.TheVariants.{Number, Alias, Owned, Pristine}
use Rattle.table.specs.declared.types.Mode.{Mode}
use Rattle.table.specs.declared.types.Mode.TheVariants.{Var}
use Rattle.table.specs.declared.types.Ty.{Ty}
use Rattle.table.specs.declared.types.Field.{Field}
use Rattle.table.specs.declared.records.Test.{Test}
use Rattle.table.specs.declared.records.Test.TheVariants.{Nil, Same, Equal, Less, Link, Unlink, Swap, Try, Fix, Stable}
use Rattle.table.specs.Types.{is_number, is_alias, is_owned, is_pristine, is_var, is_val, is_once, is_spec}
use Rattle.table.specs.Records.{zeros, Op, New, Null, Int, Share, Own, Get, Take, Set, Add, Call, Fork, Return, Again, Join, Emit, Ask}
use Rattle.table.specs.Program.{Function, Program}

-- sets of fields: bit f stands for field f
abbrev pub has : ℕ → ℕ → Bool
has w f = (w / 2 ^ f) % 2 == 1

abbrev pub with : ℕ → ℕ → ℕ
with w f = bit_or w (2 ^ f)

abbrev pub without : ℕ → ℕ → ℕ
without w f = bit_and w (255 - 2 ^ f)

abbrev pub part : ℕ → ℕ → Bool
part v w = bit_and v w == v

-- flow, by the kinds: from a set w to a set v
abbrev pub flows_by : Kind → Kind → ℕ → ℕ → Bool
flows_by Number Number w v = true
flows_by Number Alias w v = false
flows_by Number Owned w v = false
flows_by Number Pristine w v = false
flows_by Alias Number w v = false
flows_by Alias Alias w v = part v w
flows_by Alias Owned w v = false
flows_by Alias Pristine w v = false
flows_by Owned Number w v = false
flows_by Owned Alias w v = part v w
flows_by Owned Owned w v = w == v
flows_by Owned Pristine w v = false
flows_by Pristine Number w v = false
flows_by Pristine Alias w v = false
flows_by Pristine Owned w v = w == 0 && v == 0
flows_by Pristine Pristine w v = w == v

-- a type flows only within one struct
abbrev pub flows : Ty → Ty → Bool
flows t u = t.strukt == u.strukt && flows_by t.kind u.kind t.withheld u.withheld

abbrev pub type : Kind → ℕ → ℕ → Ty
type k s w = record { kind = k; strukt = s; barred = 0; withheld = w }

abbrev pub number : Ty
number = type Number 0 0

abbrev pub no_field : Field
no_field = record { mode = Var; ty = number }

abbrev pub no_function : Function
no_function = record { params = []; result = number; records = [] }

-- record i of a function
abbrev pub record_at : Function → ℕ → Option Op
record_at fn i = slice_index_or fn.records i None

-- the type of a slot
abbrev pub slot : List Ty → ℕ → Ty
slot ts x = slice_index_or ts x number

-- a type with another set
abbrev pub withholding : Ty → ℕ → Ty
withholding t w = record { kind = t.kind; strukt = t.strukt; barred = t.barred; withheld = w }

-- a premise of a rule, with the number of its refusal
abbrev pub Premise : Type 0
Premise = ℕ × Bool

-- the number of the first premise that fails
abbrev pub first : List Premise → Option ℕ
first [] = None
first (q ∷ qs) = cond q.1 (first qs) (Some q.0)

abbrev pub below : ℕ → List ℕ → Bool
below d [] = true
below d (x ∷ xs) = nat_lt x d && below d xs

abbrev pub lacks : ℕ → List ℕ → Bool
lacks x [] = true
lacks x (y ∷ ys) = not (x == y) && lacks x ys

abbrev pub distinct : List ℕ → Bool
distinct [] = true
distinct (x ∷ xs) = lacks x xs && distinct xs

-- each argument flows to its parameter
abbrev pub flow_to : List Ty → List ℕ → List Ty → Bool
flow_to ts [] ps = true
flow_to ts (x ∷ xs) [] = true
flow_to ts (x ∷ xs) (p ∷ ps) = flows (slot ts x) p && flow_to ts xs ps

-- what a call, a fork and `again` ask of their bytes: so many arguments as there are parameters, and zeros past them
abbrev pub passes : List Ty → List Ty → List ℕ → Bool → List Premise
passes ts ps bytes there =
    (22, below (length ts) (take (length ps) bytes) && distinct (take (length ps) bytes))
    ∷ (23, there && zeros (drop (length ps) bytes))
    ∷ (27, flow_to ts (take (length ps) bytes) ps)
    ∷ []

module _ (p : Program) where
  abbrev pub fields_of : Ty → List Field
  fields_of t = slice_index_or p.structs t.strukt []

  -- field f of struct s
  abbrev pub declared : ℕ → ℕ → Field
  declared s f = slice_index_or (slice_index_or p.structs s []) f no_field

  abbrev pub field_at : Ty → ℕ → Field
  field_at t f = declared t.strukt f

  abbrev pub has_field : Ty → ℕ → Bool
  has_field t f = nat_lt f (length (fields_of t))

  abbrev pub callee : ℕ → Function
  callee n = slice_index_or p.functions n no_function

  module _ (fn : Function) (ts : List Ty) where
    abbrev pub in_scope : ℕ → Bool
    in_scope x = nat_lt x (length ts)

    -- z is the lowest slot not in scope
    abbrev pub free : ℕ → Bool
    free z = z == length ts && nat_lt z 16

    abbrev pub slot_kind : ℕ → Kind
    slot_kind x = (slot ts x).kind

    abbrev pub slot_struct : ℕ → ℕ
    slot_struct x = (slot ts x).strukt

    abbrev pub slot_set : ℕ → ℕ
    slot_set x = (slot ts x).withheld

    abbrev pub there : ℕ → ℕ → Bool
    there x f = has_field (slot ts x) f

    abbrev pub field_mode : ℕ → ℕ → Mode
    field_mode x f = (field_at (slot ts x) f).mode

    abbrev pub field_type : ℕ → ℕ → Ty
    field_type x f = (field_at (slot ts x) f).ty

    abbrev pub reference : ℕ → Bool
    reference x = not (is_number (slot_kind x))

    -- an alias or owned
    abbrev pub lasting : ℕ → Bool
    lasting x = is_alias (slot_kind x) || is_owned (slot_kind x)

    -- owned or pristine
    abbrev pub held : ℕ → Bool
    held x = is_owned (slot_kind x) || is_pristine (slot_kind x)

    -- an alias with an empty set, written to a field that will own it
    abbrev pub tentative : ℕ → ℕ → ℕ → Bool
    tentative x f y = not (is_var (field_mode x f)) && is_owned (field_type x f).kind && is_alias (slot_kind y) && slot_struct y == (field_type x f).strukt && slot_set y == 0

    -- the premises of a test, in reading order
    abbrev pub asks : Test → List Premise
    asks (Nil x) = (22, in_scope x) ∷ (24, reference x) ∷ []
    asks (Same x y) = (22, in_scope x && in_scope y) ∷ (24, reference x && reference y) ∷ (27, (slot_struct x == slot_struct y)) ∷ []
    asks (Equal x y) = (22, in_scope x && in_scope y) ∷ (24, is_number (slot_kind x) && is_number (slot_kind y)) ∷ []
    asks (Less x y) = (22, in_scope x && in_scope y) ∷ (24, is_number (slot_kind x) && is_number (slot_kind y)) ∷ []
    asks (Link x f y g) =
        (22, in_scope x && in_scope y && not (x == y))
        ∷ (24, lasting x && is_pristine (slot_kind y))
        ∷ (25, there x f && is_spec (field_mode x f) && there y g && is_val (field_mode y g))
        ∷ (26, (slot_set y == 2 ^ g))
        ∷ (27, is_owned (field_type x f).kind && (field_type x f).strukt == slot_struct y && flows (field_type x f) (field_type y g))
        ∷ []
    asks (Unlink x f y g) =
        (22, in_scope x && in_scope y && not (x == y))
        ∷ (24, lasting x && is_alias (slot_kind y))
        ∷ (25, there x f && is_spec (field_mode x f) && there y g && not (is_var (field_mode y g)))
        ∷ (26, is_val (field_mode y g) || has (slot_set y) g)
        ∷ (27, (slot_struct y == (field_type x f).strukt) && flows (field_type y g) (field_type x f))
        ∷ []
    asks (Swap x f y w) =
        (22, in_scope x && in_scope y && in_scope w && not (x == y) && not (x == w) && not (y == w))
        ∷ (24, lasting x && is_alias (slot_kind y))
        ∷ (25, there x f && is_spec (field_mode x f))
        ∷ (27, (slot_struct y == (field_type x f).strukt) && flows (slot ts w) (field_type x f))
        ∷ []
    asks (Try x f y) =
        (22, in_scope x && in_scope y && not (x == y))
        ∷ (24, lasting x && is_pristine (slot_kind y))
        ∷ (25, there x f && is_once (field_mode x f))
        ∷ (26, (slot_set y == 0))
        ∷ (27, flows (slot ts y) (field_type x f))
        ∷ []
    asks (Fix x f y) =
        (22, in_scope x && in_scope y)
        ∷ (24, lasting x && reference y)
        ∷ (25, there x f && is_spec (field_mode x f))
        ∷ (27, (slot_struct y == (field_type x f).strukt))
        ∷ []
    asks (Stable x f) =
        (22, in_scope x)
        ∷ (24, lasting x)
        ∷ (25, there x f && (is_once (field_mode x f) || is_spec (field_mode x f)))
        ∷ []

    -- the premises of a record, in reading order
    abbrev pub premises : Op → List Premise
    premises (New z s) = (21, free z) ∷ (23, nat_lt s (length p.structs)) ∷ []
    premises (Null z s) = (21, free z) ∷ (23, nat_lt s (length p.structs)) ∷ []
    premises (Int z n) = (21, free z) ∷ []
    premises (Share z x) = (21, free z) ∷ (22, in_scope x) ∷ (24, not (is_pristine (slot_kind x))) ∷ []
    premises (Own z x) = (21, free z) ∷ (22, in_scope x) ∷ (24, is_pristine (slot_kind x)) ∷ (26, (slot_set x == 0)) ∷ []
    premises (Get z x f) =
        (21, free z)
        ∷ (22, in_scope x)
        ∷ (24, reference x)
        ∷ (25, there x f)
        ∷ (26, not (is_var (field_mode x f) && is_alias (slot_kind x)))
        ∷ []
    premises (Take z x f) = (21, free z) ∷ (22, in_scope x) ∷ (24, held x) ∷ (25, there x f && is_var (field_mode x f)) ∷ []
    premises (Set z x f y) =
        (21, free z)
        ∷ (22, in_scope x && in_scope y && not (x == y))
        ∷ (24, held x)
        ∷ (25, there x f && cond (is_pristine (slot_kind x)) (not (is_once (field_mode x f))) (is_var (field_mode x f)))
        ∷ (27, flows (slot ts y) (field_type x f) || tentative x f y)
        ∷ []
    premises (Add z x y) = (21, free z) ∷ (22, in_scope x && in_scope y) ∷ (24, is_number (slot_kind x) && is_number (slot_kind y)) ∷ []
    premises (Call z n args) = (21, free z) ∷ passes ts (callee n).params args (nat_lt n (length p.functions))
    premises (Fork n args) = passes ts (callee n).params args (nat_lt n (length p.functions))
    premises (Return x) = (22, in_scope x) ∷ (27, flows (slot ts x) fn.result) ∷ []
    premises (Again args) = passes ts fn.params args true
    premises (Join n) = []
    premises (Emit x) = (22, in_scope x) ∷ (24, is_number (slot_kind x)) ∷ []
    premises (Ask t yes_count no_count) = asks t

    -- what a reader gets of a value: a number, or an alias of its struct
    abbrev pub read : Ty → ℕ → Ty
    read t w = cond (is_number t.kind) number (type Alias t.strukt w)

    -- the type that a record binds
    abbrev pub bound : Op → Option Ty
    bound (New z s) = Some (type Pristine s 0)
    bound (Null z s) = Some (type Pristine s 0)
    bound (Int z n) = Some number
    bound (Share z x) = Some (read (slot ts x) (slot_set x))
    bound (Own z x) = Some (type Owned (slot_struct x) 0)
    bound (Get z x f) = Some (read (field_type x f) 0)
    bound (Take z x f) = Some (field_type x f)
    bound (Set z x f y) = Some (withholding (slot ts x) (cond (flows (slot ts y) (field_type x f)) (without (slot_set x) f) (with (slot_set x) f)))
    bound (Add z x y) = Some number
    bound (Call z n args) = Some (callee n).result
    bound (Fork n args) = None
    bound (Return x) = None
    bound (Again args) = None
    bound (Join n) = None
    bound (Emit x) = None
    bound (Ask t yes_count no_count) = None

    -- the types in a test's yes block
    abbrev pub yes_types : Test → List Ty
    yes_types (Nil x) = ts
    yes_types (Same x y) = ts
    yes_types (Equal x y) = ts
    yes_types (Less x y) = ts
    yes_types (Link x f y g) = ts
    yes_types (Unlink x f y g) = slice_set ts y (withholding (field_type x f) (2 ^ g))
    yes_types (Swap x f y w) = slice_set ts y (field_type x f)
    yes_types (Try x f y) = slice_set ts x (withholding (slot ts x) (with (slot_set x) f))
    yes_types (Fix x f y) = slice_set ts x (withholding (slot ts x) (with (slot_set x) f))
    yes_types (Stable x f) = slice_set ts x (withholding (slot ts x) (with (slot_set x) f))
