-- The flat configuration of the machine: what is in scope, the heap with its ghost marks, and the invariant of ownership.
use Rattle.std.specs.Prelude.{◌≡◌, ℕ, suc, ◌/◌, ◌%◌, ◌^◌, ◌<◌, ◌≤◌, Bool, true, false, ◌⊎◌, List, [], ◌∷◌, ◌≢◌}
use Rattle.std.proofs.Math.Decide.{ℕ_discrete}
use Rattle.table.specs.declared.types.Mode.{Mode}
use Rattle.table.specs.declared.types.Mode.TheVariants.{Var, Val, Once, Spec}
use Rattle.machine.specs.declared.threads.Slot.{Slot}
use Rattle.machine.specs.declared.threads.Slot.TheVariants.{Empty, Null, Number, Reference}

-- what a reference may count on
pub data Right : Type 0 where
  alias owned pristine : Right

-- a type as the invariant needs it: a number, or a reference with a right to a struct, that withholds a set of fields
pub data Claim : Type 0 where
  num : Claim
  pt : Right → ℕ → ℕ → Claim

-- a field's declared type: a number, an alias or an owned reference that withholds nothing
pub data Content : Type 0 where
  fnum : Content
  falias fowned : ℕ → Content

pub record Structs : Type 0 where
  pub mode : ℕ → ℕ → Mode
  pub field : ℕ → ℕ → Content

-- a cell: a word, a mark, and a ghost flag: it holds a reference that it does not own (not yet, or no more)
pub record Cell : Type 0 where
  pub word : ℕ
  pub mark : Bool
  pub dead : Bool

pub record Heap : Type 0 where
  pub size : ℕ
  pub kind : ℕ → ℕ
  pub mem : ℕ → ℕ → Cell

-- where a slot is: its thread, its frame from the oldest, and its number
pub data Spot : Type 0 where
  spot : ℕ → ℕ → ℕ → Spot
  deriving Discrete as Spot-discrete

-- a slot in scope: its value, its type, and the types that it gets back as the blocks around it end
pub data Entry : Type 0 where
  out : Entry
  here : Slot → Claim → List Claim → Entry

abbrev pub Slots : Type 0
Slots = Spot → Entry

-- where a reference can be
pub data Place : Type 0 where
  at : Spot → Place
  cell : ℕ → ℕ → Place
  deriving Discrete as Place-discrete

-- the set of withheld fields
abbrev pub Has : ℕ → ℕ → Type 0
Has w f = (w / 2 ^ f) % 2 ≡ 1

-- o + 1 for a reference to o, and else 0
abbrev pub name_of : Slot → ℕ
name_of Empty = 0
name_of Null = 0
name_of (Number n) = 0
name_of (Reference o) = suc o

abbrev pub rank : Claim → ℕ
rank num = 0
rank (pt alias s w) = 0
rank (pt owned s w) = 1
rank (pt pristine s w) = 2

abbrev pub own_ty : Claim → ℕ → ℕ
own_ty num n = 0
own_ty (pt alias s w) n = 0
own_ty (pt owned s w) n = n
own_ty (pt pristine s w) n = n

abbrev pub pris_ty : Claim → ℕ → ℕ
pris_ty num n = 0
pris_ty (pt alias s w) n = 0
pris_ty (pt owned s w) n = 0
pris_ty (pt pristine s w) n = n

-- what an entry names, owns, and holds pristine: o + 1, or 0
abbrev pub name_e : Entry → ℕ
name_e out = 0
name_e (here v t ts) = name_of v

abbrev pub own_e : Entry → ℕ
own_e out = 0
own_e (here v t ts) = own_ty t (name_of v)

abbrev pub pris_e : Entry → ℕ
pris_e out = 0
pris_e (here v t ts) = pris_ty t (name_of v)

abbrev pub live : Bool → ℕ → ℕ
live true n = 0
live false n = n

abbrev pub name_c : Content → Cell → ℕ
name_c fnum c = 0
name_c (falias s) c = c.word
name_c (fowned s) c = c.word

abbrev pub own_c : Content → Cell → ℕ
own_c fnum c = 0
own_c (falias s) c = 0
own_c (fowned s) c = live c.dead c.word

abbrev pub struct_of : Content → ℕ
struct_of fnum = 0
struct_of (falias s) = s
struct_of (fowned s) = s

module _ (St : Structs) where
  abbrev pub mode_at : Heap → ℕ → ℕ → Mode
  mode_at H o f = St.mode (H.kind o) f

  abbrev pub field_at : Heap → ℕ → ℕ → Content
  field_at H o f = St.field (H.kind o) f

  -- field f of o never changes again
  abbrev pub Stable : Heap → ℕ → ℕ → Type 0
  Stable H o f = (mode_at H o f ≡ Val) ⊎ ((H.mem o f).mark ≡ true)

  abbrev pub Dead : Heap → ℕ → ℕ → Type 0
  Dead H o f = (H.mem o f).dead ≡ true

  abbrev pub name : Slots → Heap → Place → ℕ
  name σ H (at s) = name_e (σ s)
  name σ H (cell o f) = name_c (field_at H o f) (H.mem o f)

  abbrev pub own : Slots → Heap → Place → ℕ
  own σ H (at s) = own_e (σ s)
  own σ H (cell o f) = own_c (field_at H o f) (H.mem o f)

  abbrev pub pris : Slots → Spot → ℕ
  pris σ s = pris_e (σ s)

  -- what a reference of each kind may count on
  abbrev pub Part : Heap → ℕ → ℕ → Right → Type 0
  Part H o w alias = ((f : ℕ) → Has w f → Stable H o f) × ((f : ℕ) → Dead H o f → Stable H o f)
  Part H o w owned = ((f : ℕ) → Has w f → Stable H o f) × ((f : ℕ) → Dead H o f → Has w f)
  Part H o w pristine = ((f : ℕ) → (H.mem o f).mark ≡ false) × ((f : ℕ) → Dead H o f → Has w f)

  pub record Obj (H : Heap) (o : ℕ) (k : Right) (s w : ℕ) : Type 0 where
    pub low : o < H.size
    pub struct : H.kind o ≡ s
    pub part : Part H o w k

  -- a value has a type
  abbrev pub Conf : Heap → Slot → Claim → Type 0
  Conf H Empty t = ⊥
  Conf H Null num = ⊥
  Conf H Null (pt k s w) = Unit {0}
  Conf H (Number n) num = Unit {0}
  Conf H (Number n) (pt k s w) = ⊥
  Conf H (Reference o) num = ⊥
  Conf H (Reference o) (pt k s w) = Obj H o k s w

  -- the saved types: the value has each, and each was no stronger than the one after it
  abbrev pub Saved : Heap → Slot → Claim → List Claim → Type 0
  Saved H v t [] = Unit {0}
  Saved H v t (u ∷ us) = Conf H v u × (rank u ≤ rank t) × Saved H v u us

  abbrev pub EntryOK : Heap → Entry → Type 0
  EntryOK H out = Unit {0}
  EntryOK H (here v t ts) = Conf H v t × Saved H v t ts

  pub record CellOK (H : Heap) (o f : ℕ) : Type 0 where
    pub points : (p : ℕ) → name_c (field_at H o f) (H.mem o f) ≡ suc p → (p < H.size) × (H.kind p ≡ struct_of (field_at H o f)) × ((g : ℕ) → Dead H p g → Stable H p g)
    pub whole : (p : ℕ) → own_c (field_at H o f) (H.mem o f) ≡ suc p → (g : ℕ) → Dead H p g → ⊥
    pub marked : (H.mem o f).mark ≡ true → (mode_at H o f ≡ Once) ⊎ (mode_at H o f ≡ Spec)
    pub fresh : mode_at H o f ≡ Once → (H.mem o f).mark ≡ false → (H.mem o f).word ≡ 0
    pub dying : Dead H o f → (o < H.size) × (mode_at H o f ≢ Var)

  pub record Inv (σ : Slots) (H : Heap) : Type 0 where
    pub slots : (s : Spot) → EntryOK H (σ s)
    pub cells : (o f : ℕ) → CellOK H o f
    pub unique : (p q : Place) (o : ℕ) → own σ H p ≡ suc o → own σ H q ≡ suc o → p ≡ q
    pub sole : (s : Spot) (p : Place) (o : ℕ) → pris σ s ≡ suc o → name σ H p ≡ suc o → p ≡ at s

-- one slot changed, and one cell
abbrev pub choose : {A B : Type 0} → Dec A → B → B → B
choose (yes a) x y = x
choose (no n) x y = y

pub spot? : (s t : Spot) → Dec (s ≡ t)
spot? = Spot-discrete ℕ_discrete

pub place? : (s t : Place) → Dec (s ≡ t)
place? = Place-discrete spot? ℕ_discrete

abbrev pub put : Slots → Spot → Entry → Slots
put σ z e s = choose (spot? s z) e (σ s)

abbrev pub wr : Heap → ℕ → ℕ → Cell → Heap
wr H p f c = record { size = H.size; kind = H.kind; mem = λ o h. choose (place? (cell o h) (cell p f)) c (H.mem o h) }
