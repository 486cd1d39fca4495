-- What the code of a record leaves is its turn.
use Rattle.std.proofs.Common.{◌≡◌, ℕ, Bool, true, false, cond, List, Some, None, Option, sym, refl}
use Rattle.table.specs.Program.{Program}
use Rattle.rules.specs.Rules.{first}
use Rattle.memory.specs.Model.{Store}
use Rattle.machine.specs.declared.threads.Frame.{Frame}
use Rattle.machine.specs.declared.threads.Status.TheVariants.{Halted}
use Rattle.machine.specs.Ways.{Way, stopped}
use Rattle.machine.specs.Steps.{Does, unless, by_way, room_for}
use Rattle.machine.specs.Alone.{memory_after}

-- a record that leaves the memory as it was, whatever comes of it
pub leaves_memory : (p : Program) (m : Store) (fs : List Frame) (threads room : ℕ) (w : Way) → w.change.memory ≡ m → m ≡ memory_after m (by_way p m fs threads room w)
leaves_memory p m fs threads room w e = by (first w.asks) w.halts (first (room_for p m fs threads room w.limit))
  where
    by : (a : Option ℕ) (h : Bool) (l : Option ℕ) → m ≡ memory_after m (unless a (cond h (Does (stopped p m fs Halted fs) None) (unless l (Does w.change w.out))))
    by (Some n) h l = refl
    by None true l = refl
    by None false (Some n) = refl
    by None false None = sym e
