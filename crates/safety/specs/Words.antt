-- Words on every run of every table that is read: all stay below 2^31, so that the memory refuses no call of a step.
use Rattle.std.specs.Prelude.{◌≡◌, ℕ, ◌^◌, ◌<◌, ◌≤◌, List, Ok, Err, slice_index_or}
use Rattle.table.specs.declared.fault.Fault.{Fault}
use Rattle.table.specs.Program.{Program, program}
use Rattle.memory.specs.Model.{Store, Sized, cell_at}
use Rattle.machine.specs.declared.threads.Slot.{Slot}
use Rattle.machine.specs.declared.threads.Frame.{Frame}
use Rattle.machine.specs.Values.{word_of, at}
use Rattle.machine.specs.World.{World, task, no_frame, started}
use Rattle.machine.specs.Steps.{stepped}
use Rattle.safety.specs.Runs.{runs}

abbrev pub SmallSlots : List Slot → Type 0
SmallSlots vs = (x : ℕ) → word_of (at vs x) < 2 ^ 31

abbrev pub SmallFrames : List Frame → Type 0
SmallFrames fs = (j : ℕ) → SmallSlots (slice_index_or fs j no_frame).slots

pub record SmallMemory (m : Store) : Type 0 where
  pub words : (o f : ℕ) → (cell_at m o f).word < 2 ^ 31
  pub sized : Sized m

-- every slot of every frame of every thread, and every cell
pub record Small (W : World) : Type 0 where
  pub frames : (i : ℕ) → SmallFrames (task W i).frames
  pub memory : SmallMemory W.memory

-- words are small, and no refusal of the memory's own, which are all below 60, comes up from a step
pub record Worded (p : Program) (W : World) : Type 0 where
  pub small : Small W
  pub unrefused : (thread room : ℕ) (e : Fault) → stepped p room W thread ≡ Err e → 60 ≤ e.number

-- of every table that is read, accepted or not
abbrev pub WordsStand : Type 0
WordsStand = (b : List ℕ) (p : Program) → program b ≡ Ok p
    → (m : Store) (W : World) (turns : List (ℕ × ℕ)) → m.capacity ≤ 1024 → started m ≡ Ok W → Worded p (runs p W turns)
