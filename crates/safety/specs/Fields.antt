-- Flow, and what is read from and written to a cell.
use Rattle.std.specs.Prelude.{◌≡◌, ℕ, suc, Bool, true, false, ◌⊎◌, []}
use Rattle.std.proofs.Math.Decide.{ℕ_discrete}
use Rattle.machine.specs.declared.threads.Slot.{Slot}
use Rattle.machine.specs.declared.threads.Slot.TheVariants.{Null, Number, Reference}
use Rattle.machine.specs.Values.{reference_of, word_of}
use Rattle.safety.specs.Model.{Right, alias, owned, pristine, Claim, num, pt, Content, fnum, falias, fowned, Has, Cell, Heap, choose, Entry, here}

-- one set is part of another
abbrev pub Within : ℕ → ℕ → Type 0
Within w w' = (f : ℕ) → Has w f → Has w' f

-- w' is w with f, and w with f taken out; w is f alone
pub record With (w f w' : ℕ) : Type 0 where
  pub kept : Within w w'
  pub has : Has w' f
  pub only : (g : ℕ) → Has w' g → Has w g ⊎ (g ≡ f)

pub record Without (w f w' : ℕ) : Type 0 where
  pub within : Within w' w
  pub lost : Has w' f → ⊥
  pub kept : (g : ℕ) → Has w g → Has w' g ⊎ (g ≡ f)

pub record Alone (w f : ℕ) : Type 0 where
  pub has : Has w f
  pub only : (g : ℕ) → Has w g → g ≡ f

abbrev pub FlowK : Right → Right → ℕ → ℕ → Type 0
FlowK pristine pristine w w' = w ≡ w'
FlowK pristine owned w w' = (w ≡ 0) × (w' ≡ 0)
FlowK pristine alias w w' = ⊥
FlowK owned pristine w w' = ⊥
FlowK owned owned w w' = w ≡ w'
FlowK owned alias w w' = Within w' w
FlowK alias pristine w w' = ⊥
FlowK alias owned w w' = ⊥
FlowK alias alias w w' = Within w' w

abbrev pub Flows : Claim → Claim → Type 0
Flows num num = Unit {0}
Flows num (pt k s w) = ⊥
Flows (pt k s w) num = ⊥
Flows (pt k s w) (pt k' s' w') = (s ≡ s') × FlowK k k' w w'

-- the type that a field's content has, and the type that a reader of the field gets
abbrev pub ty_of : Content → Claim
ty_of fnum = num
ty_of (falias s) = pt alias s 0
ty_of (fowned s) = pt owned s 0

abbrev pub lent : Content → Claim
lent fnum = num
lent (falias s) = pt alias s 0
lent (fowned s) = pt alias s 0

abbrev pub val_of : Content → ℕ → Slot
val_of fnum n = Number n
val_of (falias s) n = reference_of n
val_of (fowned s) n = reference_of n

-- what is left in a slot whose value goes to a place of this type
abbrev pub spent : Content → Slot → Slot
spent fnum v = v
spent (falias s) v = v
spent (fowned s) v = Null

abbrev pub zeroed : Cell
zeroed = record { word = 0; mark = false; dead = false }

-- one more object
abbrev pub grow : Heap → ℕ → Heap
grow H s = record { size = suc H.size; kind = λ o. choose (ℕ_discrete o H.size) s (H.kind o); mem = λ o f. choose (ℕ_discrete o H.size) zeroed (H.mem o f) }

-- the slot that names the new object
abbrev pub first : Heap → ℕ → Entry
first H s = here (Reference H.size) (pt pristine s 0) []

-- a cell with a value stored in it, with a mark or not; one that only lends it; and one whose ownership has gone
abbrev pub stored : Slot → Bool → Cell
stored v m = record { word = word_of v; mark = m; dead = false }

abbrev pub tentative : Slot → Cell
tentative v = record { word = word_of v; mark = false; dead = true }

abbrev pub gone : Cell → Cell
gone c = record { word = c.word; mark = c.mark; dead = true }

abbrev pub fixed : Cell → Cell
fixed c = record { word = c.word; mark = true; dead = c.dead }
