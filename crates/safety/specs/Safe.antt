-- The promise: on every run of an accepted table, of any threads in any order, no step is stuck, no two threads clash, and no object has two owners.
use Rattle.std.specs.Prelude.{◌≡◌, ℕ, ◌<◌, ◌≤◌, List, None, Ok, Err}
use Rattle.table.specs.declared.fault.Fault.{Fault}
use Rattle.table.specs.Program.{Program, program}
use Rattle.rules.specs.Scopes.{verdict}
use Rattle.rules.specs.Checked.{Opens}
use Rattle.memory.specs.Model.{Store, count_of}
use Rattle.machine.specs.World.{World, started}
use Rattle.machine.specs.Steps.{stepped}
use Rattle.machine.specs.Clashes.{clashes}
use Rattle.safety.specs.Owners.{owners}
use Rattle.safety.specs.Runs.{runs, ran}

-- a machine with its memory, as a run has left them
pub record SafeNow (p : Program) (W : World) : Type 0 where
  -- a step of any thread, with any room, is taken, or refused as not running or for want of room: never with 70 to 74
  pub never_stuck : (thread room : ℕ) (e : Fault) → stepped p room W thread ≡ Err e → e.number < 70
  -- no two running threads touch one var field of one object
  pub no_clash : clashes p W ≡ None
  -- owners is answered for every object, with at most 1
  pub one_owner : (scratch o : ℕ) → 128 ≤ scratch → o < count_of W.memory → (n : ℕ) × (owners scratch p W o ≡ Ok n) × (n ≤ 1)

-- from every start that is not refused, whatever the memory's capacity, and after every list of turns (thread, room)
abbrev pub Safe : Program → Type 0
Safe p = (m : Store) (W : World) (turns : List (ℕ × ℕ)) → started m ≡ Ok W → SafeNow p (runs p W turns)

-- every table that is read and accepted
abbrev pub TableSafe : Type 0
TableSafe = (b : List ℕ) (p : Program) → program b ≡ Ok p → verdict p ≡ Ok tt → Safe p

-- and so after every list of threads that step in turn, with any list for the numbers put out
abbrev pub RunSafe : Type 0
RunSafe = (b : List ℕ) (p : Program) → program b ≡ Ok p → verdict p ≡ Ok tt
    → (m : Store) (W : World) → started m ≡ Ok W → (size : ℕ) (out threads : List ℕ) → SafeNow p (ran p size (record { world = W; out = out }) threads).world

-- a machine with its memory that some run has reached, from a start on an empty memory
pub record Reached (p : Program) (W : World) : Type 0 where
  pub store : Store
  pub begun : World
  pub turns : List (ℕ × ℕ)
  pub starts : started store ≡ Ok begun
  pub is : runs p begun turns ≡ W

-- a call that finds a machine W and leaves V: if the table is one that opens and that the rules accept, and W was started on an empty memory and then stepped
-- in any way, then V was reached so too, and V and whatever any further turns make of it are safe
abbrev pub StaysSafe : Program → World → World → Type 0
StaysSafe p W V = Opens p → verdict p ≡ Ok tt → Reached p W → Reached p V × ((turns : List (ℕ × ℕ)) → SafeNow p (runs p V turns))
