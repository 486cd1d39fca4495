-- What the invariant of ownership says of the slots in scope and the memory.
use Rattle.std.specs.Prelude.{◌≡◌, ℕ, suc, ◌<◌, false, List, ◌≢◌}
use Rattle.machine.specs.declared.threads.Slot.{Slot}
use Rattle.machine.specs.declared.threads.Slot.TheVariants.{Empty, Null, Number, Reference}
use Rattle.safety.specs.Model.{name_c, pristine, Claim, num, pt, Structs, Spot, Slots, out, here, name_e, own_e}
use Rattle.safety.specs.Step.{Mem}

-- nothing in scope, and no object
abbrev pub blank : Slots
blank s = out

abbrev pub void : Mem
void = record { size = 0; kind = λ o. 0; word = λ o f. 0; mark = λ o f. false }

-- what a slot in scope holds fits its type: a number for a number; else null, or an object that is there and has the struct
abbrev pub Fits : Mem → Slot → Claim → Type 0
Fits R Empty t = ⊥
Fits R Null num = ⊥
Fits R Null (pt k s w) = Unit {0}
Fits R (Number n) num = Unit {0}
Fits R (Number n) (pt k s w) = ⊥
Fits R (Reference o) num = ⊥
Fits R (Reference o) (pt k s w) = (o < R.size) × (R.kind o ≡ s)

pub record Kept (St : Structs) (σ : Slots) (R : Mem) : Type 0 where
  -- two owners of one object are one slot: no two threads touch a var field of it
  pub no_clash : (x y : Spot) (o : ℕ) → own_e (σ x) ≡ suc o → own_e (σ y) ≡ suc o → x ≡ y
  -- a pristine slot is the only slot that names its object
  pub only_name : (x y : Spot) (o s w : ℕ) (ts : List Claim) → σ x ≡ here (Reference o) (pt pristine s w) ts → name_e (σ y) ≡ suc o → y ≡ x
  -- and no field refers to it
  pub no_field : (x : Spot) (o s w : ℕ) (ts : List Claim) → σ x ≡ here (Reference o) (pt pristine s w) ts → (p f : ℕ) → name_c (St.field (R.kind p) f) (record { word = R.word p f; mark = false; dead = false }) ≢ suc o
  -- what a field names is there
  pub named : (p f o : ℕ) → name_c (St.field (R.kind p) f) (record { word = R.word p f; mark = false; dead = false }) ≡ suc o → o < R.size
  -- no step is stuck on a value
  pub fits : (x : Spot) (v : Slot) (t : Claim) (ts : List Claim) → σ x ≡ here v t ts → Fits R v t
