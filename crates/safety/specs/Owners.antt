-- How many slots own an object.
use Rattle.std.specs.Prelude.{ℕ, ◌+◌, Bool, true, cond, ◌&&◌, ◌||◌, List, [], ◌∷◌, length, Ok, Result, ◌==◌}
use Rattle.table.specs.declared.types.Ty.{Ty}
use Rattle.table.specs.declared.fault.Fault.{Fault}
use Rattle.table.specs.declared.fault.Place.TheVariants.{Nothing, Thread}
use Rattle.table.specs.Faults.{Passes, need, each, ◌>>=◌}
use Rattle.table.specs.Types.{is_owned, is_pristine}
use Rattle.table.specs.Program.{Program}
use Rattle.rules.specs.Rules.{callee}
use Rattle.rules.specs.Scopes.{before}
use Rattle.rules.specs.Checked.{checked}
use Rattle.memory.specs.Model.{has_object}
use Rattle.machine.specs.declared.threads.Slot.{Slot}
use Rattle.machine.specs.declared.threads.Slot.TheVariants.{Empty, Null, Number, Reference}
use Rattle.machine.specs.declared.threads.Frame.{Frame}
use Rattle.machine.specs.World.{Task, World, task, in_table}

-- 1 for a slot that has this type and refers to object o, where the type is owned or pristine
abbrev pub owns : Ty → Slot → ℕ → ℕ
owns t Empty o = 0
owns t Null o = 0
owns t (Number n) o = 0
owns t (Reference q) o = cond ((is_owned t.kind || is_pristine t.kind) && q == o) 1 0

abbrev pub slots_owning : List Ty → List Slot → ℕ → ℕ
slots_owning [] vs o = 0
slots_owning (t ∷ ts) [] o = 0
slots_owning (t ∷ ts) (v ∷ vs) o = owns t v o + slots_owning ts vs o

-- by the types in scope before each record of each function
module _ (types : ℕ → ℕ → List Ty) where
  abbrev pub frames_owning : List Frame → ℕ → ℕ
  frames_owning [] o = 0
  frames_owning (F ∷ Fs) o = slots_owning (types F.function F.index) F.slots o + frames_owning Fs o

  abbrev pub tasks_owning : List Task → ℕ → ℕ
  tasks_owning [] o = 0
  tasks_owning (t ∷ ts) o = frames_owning t.frames o + tasks_owning ts o

-- the types in scope before record i of function n
abbrev pub types_before : Program → ℕ → ℕ → List Ty
types_before p n i = (before p (callee p n) i).types

-- the slots, in any frame of any thread, that own object o
abbrev pub owners_of : Program → World → ℕ → ℕ
owners_of p W o = tasks_owning (types_before p) W.tasks o

-- the table has all frames of a thread
abbrev pub all_in_table : Program → List Frame → Bool
all_in_table p [] = true
all_in_table p (F ∷ Fs) = in_table p F && all_in_table p Fs

-- 69 at the first thread with a frame that the table lacks
abbrev pub frames_known : Program → World → Passes
frames_known p W = each (length W.tasks) (λ i. need (all_in_table p (task W i).frames) 69 (Thread i))

-- with scratch for so many types; refused as the check is, then 63: no such object, then 69
abbrev pub owners : ℕ → Program → World → ℕ → Result ℕ Fault
owners scratch p W o =
    checked scratch p >>= λ _.
    need (has_object W.memory o) 63 Nothing >>= λ _.
    frames_known p W >>= λ _.
    Ok (owners_of p W o)
