-- The first pair of running threads that touch one var field of one object.
use Rattle.std.specs.Prelude.{◌≡◌, ℕ, suc, ◌<◌, ◌≤◌, cond, ◌&&◌, ◌⊎◌, List, [], ◌∷◌, Some, None, Option, ◌==◌}
use Rattle.table.specs.Records.{Op}
use Rattle.table.specs.Program.{Program}
use Rattle.memory.specs.Model.{Store}
use Rattle.machine.specs.declared.threads.Frame.{Frame}
use Rattle.machine.specs.declared.clashing.Clash.{Clash}
use Rattle.machine.specs.World.{Task, World, task, is_running}
use Rattle.machine.specs.Ways.{standing, way}

-- the var field of an object that a thread's next record gets, takes or sets
abbrev pub touch_by : Program → Store → List Frame → Option Op → Option (ℕ × ℕ)
touch_by p m fs None = None
touch_by p m fs (Some op) = (way p m fs op).touches

abbrev pub touch : Program → Store → Task → Option (ℕ × ℕ)
touch p m t = cond (is_running t.status) (touch_by p m t.frames (standing p t.frames)) None

-- thread k touches t; whether thread l does too
abbrev pub meets : ℕ → ℕ → ℕ × ℕ → Option (ℕ × ℕ) → Option Clash → Option Clash
meets k l t None rest = rest
meets k l t (Some u) rest = cond (t.0 == u.0 && t.1 == u.1) (Some (record { lower = k; higher = l; object = t.0; field = t.1 })) rest

-- the first thread from l on that touches what thread k does
abbrev pub partner : Program → Store → ℕ → Option (ℕ × ℕ) → ℕ → List Task → Option Clash
partner p m k None l ts = None
partner p m k (Some t) l [] = None
partner p m k (Some t) l (u ∷ us) = meets k l t (touch p m u) (partner p m k (Some t) (suc l) us)

abbrev pub or_else : Option Clash → Option Clash → Option Clash
or_else None c = c
or_else (Some x) c = Some x

abbrev pub clash_from : Program → Store → ℕ → List Task → Option Clash
clash_from p m k [] = None
clash_from p m k (t ∷ ts) = or_else (partner p m k (touch p m t) (suc k) ts) (clash_from p m (suc k) ts)

abbrev pub clashes : Program → World → Option Clash
clashes p W = clash_from p W.memory 0 W.tasks

-- thread i touches this field of this object
abbrev pub Touches : Program → World → ℕ → ℕ × ℕ → Type 0
Touches p W i t = touch p W.memory (task W i) ≡ Some t

-- two threads that touch one field, of all such pairs the first by the lower thread and then by the higher
pub record FirstClash (p : Program) (W : World) (c : Clash) : Type 0 where
  pub ordered : c.lower < c.higher
  pub by_lower : Touches p W c.lower (c.object, c.field)
  pub by_higher : Touches p W c.higher (c.object, c.field)
  pub first : (k l : ℕ) (t : ℕ × ℕ) → k < l → Touches p W k t → Touches p W l t → (c.lower < k) ⊎ ((c.lower ≡ k) × (c.higher ≤ l))

-- clash answers that there is none exactly when there is none, and else the first
abbrev pub ClashLaw : Type 0
ClashLaw = (p : Program) (W : World)
    → (clashes p W ≡ None → (k l : ℕ) (t : ℕ × ℕ) → k < l → Touches p W k t → Touches p W l t → ⊥)
    × ((c : Clash) → clashes p W ≡ Some c → FirstClash p W c)
