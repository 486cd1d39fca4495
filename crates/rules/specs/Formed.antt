-- What every table that opens gives its program.
use Rattle.std.specs.Prelude.{◌≡◌, ℕ, ◌<◌, ◌≤◌, true, false, List, [], ◌∷◌, length, Some, None, Ok, Option, slice_index_or}
use Rattle.table.specs.declared.types.Ty.{Ty}
use Rattle.table.specs.declared.types.Field.{Field}
use Rattle.table.specs.Types.{keeps, is_number, is_pristine, is_once, is_spec}
use Rattle.table.specs.Records.{Op, New, Null, Int, Share, Own, Get, Take, Set, Add, Call, Fork, Return, Again, Join, Emit, Ask}
use Rattle.table.specs.Program.{Program, program}
use Rattle.rules.specs.Rules.{declared, callee, record_at}

-- no field is pristine, and a once or spec field is a reference
pub record Sound (f : Field) : Type 0 where
  pub lasting : is_pristine f.ty.kind ≡ false
  pub once : is_once f.mode ≡ true → is_number f.ty.kind ≡ false
  pub spec : is_spec f.mode ≡ true → is_number f.ty.kind ≡ false

-- each type keeps its rules
abbrev pub AllKeep : List (List Field) → List Ty → Type 0
AllKeep ss [] = Unit {0}
AllKeep ss (t ∷ ts) = (keeps ss t ≡ true) × AllKeep ss ts

-- fields and types keep their rules, and parameters are few
pub record Formed (p : Program) : Type 0 where
  pub fields : (s f : ℕ) → Sound (declared p s f)
  pub field_types : (s f : ℕ) → keeps p.structs (declared p s f).ty ≡ true
  pub params : (n : ℕ) → AllKeep p.structs (callee p n).params
  pub results : (n : ℕ) → keeps p.structs (callee p n).result ≡ true
  pub few : (n : ℕ) → length (callee p n).params ≤ 4
  pub alone : length (callee p 0).params ≡ 0

-- a call or a fork holds five operand bytes, and `again` six
abbrev pub HoldsBytes : Op → Type 0
HoldsBytes (New z s) = Unit {0}
HoldsBytes (Null z s) = Unit {0}
HoldsBytes (Int z n) = Unit {0}
HoldsBytes (Share z x) = Unit {0}
HoldsBytes (Own z x) = Unit {0}
HoldsBytes (Get z x f) = Unit {0}
HoldsBytes (Take z x f) = Unit {0}
HoldsBytes (Set z x f y) = Unit {0}
HoldsBytes (Add z x y) = Unit {0}
HoldsBytes (Call z n args) = length args ≡ 5
HoldsBytes (Fork n args) = length args ≡ 5
HoldsBytes (Return x) = Unit {0}
HoldsBytes (Again args) = length args ≡ 6
HoldsBytes (Join n) = Unit {0}
HoldsBytes (Emit x) = Unit {0}
HoldsBytes (Ask t a b) = Unit {0}

abbrev pub Wide : Option Op → Type 0
Wide None = Unit {0}
Wide (Some op) = HoldsBytes op

-- a type's numbers fit a byte each
pub record Small (t : Ty) : Type 0 where
  pub strukt : t.strukt < 16
  pub barred : t.barred ≡ 0
  pub withheld : t.withheld < 256

-- its parts are there, and not too many
pub record Shaped (p : Program) : Type 0 where
  pub named : length p.structs ≤ 16
  pub narrow : (s : ℕ) → length (slice_index_or p.structs s []) ≤ 8
  pub bare : (s f : ℕ) → (declared p s f).ty.withheld ≡ 0
  pub main : 0 < length p.functions
  pub called : length p.functions ≤ 32
  pub begins : (n : ℕ) → n < length p.functions → 0 < length (callee p n).records
  pub short : (n : ℕ) → length (callee p n).records ≤ 255
  pub wide : (n i : ℕ) → Wide (record_at (callee p n) i)
  pub small : (t : Ty) → keeps p.structs t ≡ true → Small t

-- the program of a table is formed and shaped
abbrev pub ProgramStands : Type 0
ProgramStands = (b : List ℕ) (p : Program) → program b ≡ Ok p → Formed p × Shaped p
