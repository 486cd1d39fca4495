-- A program with an annotation of scopes that fits it record by record: what soundness asks of the rules, and all that it asks.
use Rattle.std.specs.Prelude.{◌≡◌, ℕ, suc, ◌+◌, ◌^◌, ◌<◌, ◌≤◌, true, false, ◌||◌, List, [], ◌∷◌, ◌++◌, map, length, Some, None, Option, slice_index_or, slice_set}
use Rattle.table.specs.declared.types.Kind.{Kind}
use Rattle.table.specs.declared.types.Kind.TheVariants.{Number, Alias, Owned, Pristine}
use Rattle.table.specs.declared.types.Ty.{Ty}
use Rattle.table.specs.Program.{Function, Program}
use Rattle.table.specs.Types.{is_number, is_pristine, is_once, is_spec, keeps}
use Rattle.table.specs.declared.records.Test.{Test}
use Rattle.table.specs.declared.records.Test.TheVariants.{Nil, Same, Equal, Less, Link, Unlink, Swap, Try, Fix, Stable}
use Rattle.table.specs.Records.{Op}
use Rattle.rules.specs.Rules.{first, callee, slot, premises, bound, withholding, with, field_type, record_at, declared}
use Rattle.rules.specs.Scopes.{Shape, Plain, Last, Joins, Asks, shape}
use Rattle.rules.specs.Formed.{HoldsBytes}
use Rattle.safety.specs.Model as C
use Rattle.safety.specs.Threads.{Scopes, FallsSc}

-- the types and the structs of the rules, as the core of soundness has them
abbrev pub by_kind : Kind → ℕ → ℕ → C.Claim
by_kind Number s w = C.num
by_kind Alias s w = C.pt C.alias s w
by_kind Owned s w = C.pt C.owned s w
by_kind Pristine s w = C.pt C.pristine s w

abbrev pub core : Ty → C.Claim
core t = by_kind t.kind t.strukt t.withheld

abbrev pub field_by_kind : Kind → ℕ → C.Content
field_by_kind Number s = C.fnum
field_by_kind Alias s = C.falias s
field_by_kind Owned s = C.fowned s
field_by_kind Pristine s = C.fowned s

abbrev pub core_field : Ty → C.Content
core_field t = field_by_kind t.kind t.strukt

abbrev pub structs_of : Program → C.Structs
structs_of p = record { mode = λ s f. (declared p s f).mode; field = λ s f. core_field (declared p s f).ty }

-- for each slot in scope before a record of a function: its type, and the types that come back as blocks end
abbrev pub Notes : Type 0
Notes = ℕ → ℕ → List (Ty × List Ty)

abbrev pub current : List (Ty × List Ty) → List Ty
current [] = []
current (a ∷ l) = a.0 ∷ current l

abbrev pub stack : Ty × List Ty → List C.Claim
stack a = core a.0 ∷ map core a.1

abbrev pub stacks : List (Ty × List Ty) → List (List C.Claim)
stacks [] = []
stacks (a ∷ l) = stack a ∷ stacks l

-- types with none to come back: the parameters
abbrev pub entered : List Ty → List (Ty × List Ty)
entered [] = []
entered (t ∷ ts) = (t, []) ∷ entered ts

abbrev pub types : Notes → ℕ → ℕ → List Ty
types A n i = current (A n i)

abbrev pub scopes : Notes → Scopes
scopes A n i = stacks (A n i)

-- the slot that has another type in a test's yes block
abbrev pub changes : Program → Function → List Ty → Test → Option (ℕ × Ty)
changes p fn ts (Nil x) = None
changes p fn ts (Same x y) = None
changes p fn ts (Equal x y) = None
changes p fn ts (Less x y) = None
changes p fn ts (Link x f y g) = None
changes p fn ts (Unlink x f y g) = Some (y, withholding (field_type p fn ts x f) (2 ^ g))
changes p fn ts (Swap x f y w) = Some (y, field_type p fn ts x f)
changes p fn ts (Try x f y) = Some (x, withholding (slot ts x) (with (slot ts x).withheld f))
changes p fn ts (Fix x f y) = Some (x, withholding (slot ts x) (with (slot ts x).withheld f))
changes p fn ts (Stable x f) = Some (x, withholding (slot ts x) (with (slot ts x).withheld f))

abbrev pub more : List (List C.Claim) → Option Ty → List (List C.Claim)
more sc None = sc
more sc (Some t) = sc ++ ((core t ∷ []) ∷ [])

abbrev pub pushed : List (List C.Claim) → Option (ℕ × Ty) → List (List C.Claim)
pushed sc None = sc
pushed sc (Some c) = slice_set sc c.0 (core c.1 ∷ slice_index_or sc c.0 [])

module _ (p : Program) (A : Notes) where
  -- a record of function n that may follow: it is there, and its scope is left of this one
  abbrev pub To : ℕ → ℕ → List (List C.Claim) → Type 0
  To n index res = (index < length (callee p n).records) × FallsSc res (scopes A n index)

  abbrev pub Leads : ℕ → ℕ → Op → Shape → Type 0
  Leads n i op Plain = To n (suc i) (more (scopes A n i) (bound p (callee p n) (types A n i) op))
  Leads n i op Last = Unit {0}
  Leads n i op (Joins k) = To n (suc i + k) (scopes A n i)
  Leads n i op (Asks t a b) = To n (suc i) (pushed (scopes A n i) (changes p (callee p n) (types A n i) t)) × To n (suc i + a) (scopes A n i)

  -- record i of function n
  pub record Fine (n i : ℕ) : Type 0 where
    pub op : Op
    pub is : record_at (callee p n) i ≡ Some op
    pub held : first (premises p (callee p n) (types A n i) op) ≡ None
    pub leads : Leads n i op (shape op)
    pub bytes : HoldsBytes op
    pub few : length (A n i) ≤ 16
    pub kept : (x : ℕ) → keeps p.structs (slot (types A n i) x) ≡ true

  pub record Checked : Type 0 where
    -- a struct has at most eight fields, and no field is pristine or withholds
    pub narrow : (s : ℕ) → length (slice_index_or p.structs s []) ≤ 8
    pub lasting : (s f : ℕ) → is_pristine (declared p s f).ty.kind ≡ false
    pub bare : (s f : ℕ) → (declared p s f).ty.withheld ≡ 0
    -- a once or spec field is a reference
    pub pointing : (s f : ℕ) → (is_once (declared p s f).mode || is_spec (declared p s f).mode) ≡ true → is_number (declared p s f).ty.kind ≡ false
    -- function 0 is there, and has no parameters; a function has at most four, and a record, before which the parameters are in scope
    pub main : 0 < length p.functions
    pub alone : A 0 0 ≡ []
    pub brief : (n : ℕ) → length (callee p n).params ≤ 4
    pub begins : (n : ℕ) → n < length p.functions → 0 < length (callee p n).records
    pub params : (n : ℕ) → n < length p.functions → A n 0 ≡ entered (callee p n).params
    pub fine : (n i : ℕ) → n < length p.functions → i < length (callee p n).records → Fine n i
