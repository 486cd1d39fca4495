-- References on every run of an accepted table: what they name is there, owners are alone, and so are pristine names.
use Rattle.std.specs.Prelude.{◌≡◌, ℕ, suc, ◌<◌, true, false, ◌||◌, List, length, Ok, slice_index_or}
use Rattle.table.specs.declared.types.Kind.TheVariants.{Pristine}
use Rattle.table.specs.declared.types.Ty.{Ty}
use Rattle.table.specs.Types.{is_number, is_owned, is_pristine}
use Rattle.table.specs.Program.{Program, program}
use Rattle.rules.specs.Rules.{slot, declared}
use Rattle.rules.specs.Scopes.{verdict}
use Rattle.memory.specs.Model.{Store, count_of, object_at, cell_at}
use Rattle.machine.specs.declared.threads.Slot.TheVariants.{Reference}
use Rattle.machine.specs.declared.threads.Frame.{Frame}
use Rattle.machine.specs.Values.{at}
use Rattle.machine.specs.World.{World, task, no_frame, started}
use Rattle.safety.specs.Owners.{types_before}
use Rattle.safety.specs.Runs.{runs}

-- frame j of thread i, and the types in scope before its record
abbrev pub frame : World → ℕ → ℕ → Frame
frame W i j = slice_index_or (task W i).frames j no_frame

abbrev pub scope : Program → World → ℕ → ℕ → List Ty
scope p W i j = types_before p (frame W i j).function (frame W i j).index

-- slot x of that frame is in scope and refers to object o
pub record Refers (p : Program) (W : World) (i j x o : ℕ) : Type 0 where
  pub in_scope : x < length (scope p W i j)
  pub holds : at (frame W i j).slots x ≡ Reference o

-- and its type is owned or pristine
pub record Owns (p : Program) (W : World) (i j x o : ℕ) : Type 0 where
  pub refers : Refers p W i j x o
  pub owning : (is_owned (slot (scope p W i j) x).kind || is_pristine (slot (scope p W i j) x).kind) ≡ true

-- field f of object q is a reference to object o
pub record Points (p : Program) (m : Store) (q f o : ℕ) : Type 0 where
  pub reference : is_number (declared p (object_at m q).kind f).ty.kind ≡ false
  pub holds : (cell_at m q f).word ≡ suc o

pub record Named (p : Program) (W : World) : Type 0 where
  -- what a slot in scope or a field refers to is there
  pub slots : (i j x o : ℕ) → Refers p W i j x o → o < count_of W.memory
  pub cells : (q f o : ℕ) → Points p W.memory q f o → o < count_of W.memory
  -- two slots that own one object are one slot
  pub one_owner : (i j x i' j' x' o : ℕ) → Owns p W i j x o → Owns p W i' j' x' o → (i ≡ i') × (j ≡ j') × (x ≡ x')
  -- a slot in scope of pristine type is the only name of its object: no other slot in scope refers to it, and no field
  pub only_slot : (i j x o : ℕ) → Refers p W i j x o → (slot (scope p W i j) x).kind ≡ Pristine
      → (i' j' x' : ℕ) → Refers p W i' j' x' o → (i' ≡ i) × (j' ≡ j) × (x' ≡ x)
  pub no_field : (i j x o : ℕ) → Refers p W i j x o → (slot (scope p W i j) x).kind ≡ Pristine → (q f : ℕ) → Points p W.memory q f o → ⊥

-- of every table that is read and accepted
abbrev pub NamesStand : Type 0
NamesStand = (b : List ℕ) (p : Program) → program b ≡ Ok p → verdict p ≡ Ok tt
    → (m : Store) (W : World) (turns : List (ℕ × ℕ)) → started m ≡ Ok W → Named p (runs p W turns)
