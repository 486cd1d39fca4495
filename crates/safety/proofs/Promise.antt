-- The promise, on every run of a checked program.
use Rattle.std.proofs.Common.{◌≡◌, ℕ, zero, suc, ◌-◌, ◌<◌, ◌≤◌, Bool, true, false, cond, List, [], ◌∷◌, ◌++◌, length, get_or, set, Some, None, Ok, Err, Option, Result, sym, refl, ap, ◌∙◌, subst, arith}
use Rattle.std.proofs.lemmas.Bool.{and_from, cond_both}
use Rattle.table.specs.Program.{Program}
use Rattle.table.specs.declared.fault.Fault.{Fault}
use Rattle.table.specs.declared.fault.Place.TheVariants.{Thread}
use Rattle.table.specs.Faults.{Passes, need, each, ◌>>=◌}
use Rattle.memory.specs.Model.{Store, count_of}
use Rattle.machine.specs.declared.threads.Frame.{Frame}
use Rattle.machine.specs.World.{Task, World, no_task, is_running, task, starting, main_frame}
use Rattle.machine.specs.declared.threads.Status.TheVariants.{Running}
use Rattle.machine.specs.Ways.{standing}
use Rattle.machine.specs.Steps.{Turn, Fails, Does, taking, joined, commit, stepped, after_step, Taken, step_fault}
use Rattle.machine.specs.Clashes.{touch, touch_by, clashes}
use Rattle.safety.specs.Model.{spot}
use Rattle.safety.specs.Model as C
use Rattle.safety.specs.Threads.{flat}
use Rattle.safety.specs.Runs.{runs}
use Rattle.safety.specs.Owners.{all_in_table, tasks_owning, frames_known}
use Rattle.safety.specs.Checked.{structs_of, Notes, types, scopes, Checked}
use Rattle.safety.specs.Step.{Mem, Sound}
use Rattle.safety.proofs.Keeps.{kept_sound}
use Rattle.safety.proofs.Typed.{started_sound}
use Rattle.safety.proofs.Calls.{slot_frame}
use Rattle.safety.proofs.Images.{mem, mem_empty}
use Rattle.safety.proofs.Chains.{set_all, push_all, Chain, placed_in}
use Rattle.safety.proofs.Meaning.{never}
use Rattle.safety.proofs.Ground.{Base, with_fork, GoodTurn}
use Rattle.safety.proofs.Tells.{nothing}
use Rattle.safety.proofs.Turns.{steps, touch_owns}
use Rattle.safety.proofs.Counts.{frames_of, tasks_one, clash_none}
use Rattle.safety.proofs.Poised.{Poised}

-- the frames of the threads
pub frames_at : (ts : List Task) (i : ℕ) → get_or (frames_of ts) i [] ≡ (get_or ts i no_task).frames
frames_at [] i = refl
frames_at (t ∷ ts) zero = refl
frames_at (t ∷ ts) (suc i) = frames_at ts i

frames_set : (ts : List Task) (i : ℕ) (t : Task) → frames_of (set ts i t) ≡ set (frames_of ts) i t.frames
frames_set [] i t = refl
frames_set (u ∷ ts) zero t = refl
frames_set (u ∷ ts) (suc i) t = ap (λ (l : List (List Frame)). u.frames ∷ l) (frames_set ts i t)

frames_push : (ts : List Task) (t : Task) → frames_of (ts ++ (t ∷ [])) ≡ frames_of ts ++ (t.frames ∷ [])
frames_push [] t = refl
frames_push (u ∷ ts) t = ap (λ (l : List (List Frame)). u.frames ∷ l) (frames_push ts t)

frames_joined : (ts : List Task) (F : Option Frame) → frames_of (joined ts F) ≡ with_fork (frames_of ts) F
frames_joined ts None = refl
frames_joined ts (Some F) = frames_push ts (record { status = Running; frames = F ∷ [] })

-- a running thread has a frame
abbrev pub Alive : Task → Type 0
Alive t = is_running t.status ≡ true → 0 < length t.frames

joined_alive : (ts : List Task) (F : Option Frame) → ((i : ℕ) → Alive (get_or ts i no_task)) → (i : ℕ) → Alive (get_or (joined ts F) i no_task)
joined_alive ts None h = h
joined_alive ts (Some F) h = push_all Alive ts (record { status = Running; frames = F ∷ [] }) no_task (λ _. omega arith) h

-- the table has every frame
chain_in : (p : Program) (fs : List Frame) → Chain p fs → all_in_table p fs ≡ true
chain_in p [] c = refl
chain_in p (F ∷ []) c = and_from _ _ (placed_in p F c) refl
chain_in p (F ∷ (G ∷ Gs)) c = and_from _ _ (placed_in p F c.0) (chain_in p (G ∷ Gs) c.2)

all_known : (p : Program) (W : World) (n : ℕ) → ((i : ℕ) → Chain p (get_or (frames_of W.tasks) i [])) → each n (λ i. need (all_in_table p (task W i).frames) 69 (Thread i)) ≡ Ok tt
all_known p W zero h = refl
all_known p W (suc n) h =
    ap (λ (r : Passes). r >>= λ _. need (all_in_table p (task W n).frames) 69 (Thread n)) (all_known p W n h)
    ∙ ap (λ (b : Bool). need b 69 (Thread n)) (chain_in p (task W n).frames (subst (Chain p) (frames_at W.tasks n) (h n)))

module _ (p : Program) (A : Notes) (ck : Checked p A) where
  -- what a machine keeps from step to step
  pub record Well (W : World) : Type 0 where
    pub base : Base p A (frames_of W.tasks) W.memory
    pub alive : (i : ℕ) → Alive (task W i)

  abbrev pub WellAfter : Result Taken Fault → Type 0
  WellAfter (Err e) = e.number < 70
  WellAfter (Ok t) = Well t.world

  commits : (W : World) (i : ℕ) → Well W → (t : Turn) → GoodTurn p A (frames_of W.tasks) i t → WellAfter (commit W i t)
  commits W i w (Fails n) g = g
  commits W i w (Does c out) g = record {
    base = subst (λ (l : List (List Frame)). Base p A l c.memory) (sym (frames_joined (set W.tasks i t) c.forked ∙ ap (λ (l : List (List Frame)). with_fork l c.forked) (frames_set W.tasks i t))) g.0;
    alive = joined_alive (set W.tasks i t) c.forked (set_all Alive W.tasks i t no_task g.1 w.alive);
  }
    where
      t : Task
      t = record { status = c.status; frames = c.frames }

  -- a thread that is about to step
  abbrev poised : (W : World) (i : ℕ) → Well W → is_running (task W i).status ≡ true → Poised
  poised W i w r = record {
    program = p;
    notes = A;
    checked = ck;
    threads = frames_of W.tasks;
    memory = W.memory;
    number = i;
    kept = w.base;
    framed = subst (λ (l : List Frame). 0 < length l) (sym (frames_at W.tasks i)) (w.alive i r);
  }

  -- one step
  pub step_well : (W : World) (i room : ℕ) → Well W → WellAfter (stepped p room W i)
  step_well W i room w = cond_both (is_running (task W i).status) (commit W i (taking p W.memory fs (length W.tasks) room (standing p fs))) (Err (step_fault i 64)) WellAfter
      (λ r. commits W i w (taking p W.memory fs (length W.tasks) room (standing p fs))
      (subst (λ (l : List Frame). GoodTurn p A (frames_of W.tasks) i (taking p W.memory l (length W.tasks) room (standing p l))) (frames_at W.tasks i)
      (steps (poised W i w r) (length W.tasks) room)))
      (λ _. omega arith)
    where
      fs : List Frame
      fs = (task W i).frames

  after_well : (W : World) (o : Result Taken Fault) → Well W → WellAfter o → Well (after_step W o)
  after_well W (Err e) w g = w
  after_well W (Ok t) w g = g

  pub runs_well : (W : World) (turns : List (ℕ × ℕ)) → Well W → Well (runs p W turns)
  runs_well W [] w = w
  runs_well W (t ∷ turns) w = runs_well (after_step W (stepped p t.1 W t.0)) turns (after_well W (stepped p t.1 W t.0) w (step_well W t.0 t.1 w))

  pub start_well : (m : Store) → count_of m ≡ 0 → Well (starting m)
  start_well m e = record {
    base = record {
      sound = subst (λ (R : Mem). Sound (structs_of p) (flat (scopes A) ((main_frame ∷ []) ∷ [])) R) (sym (mem_empty m e)) (started_sound (structs_of p) (scopes A) (ap Rattle.safety.specs.Checked.stacks ck.alone));
      chains = chain;
      whole = λ o h. absurd (omega arith);
    };
    alive = alive;
  }
    where
      chain : (i : ℕ) → Chain p (get_or (frames_of (starting m).tasks) i [])
      chain zero = record { there = ck.main; index = ck.begins 0 ck.main; slots = refl }
      chain (suc i) = tt

      alive : (i : ℕ) → Alive (task (starting m) i)
      alive zero h = omega arith
      alive (suc i) h = never h

  -- what a well machine promises
  pub never_stuck : (W : World) → Well W → (i room : ℕ) (f : Fault) → stepped p room W i ≡ Err f → f.number < 70
  never_stuck W w i room f e = subst WellAfter e (step_well W i room w)

  -- the slot that owns what a thread touches
  touch_slot : (W : World) → Well W → (i : ℕ) (t : ℕ × ℕ) → touch p W.memory (task W i) ≡ Some t → (j x : ℕ) × (C.own_e (flat (scopes A) (frames_of W.tasks) (spot i j x)) ≡ suc t.0)
  touch_slot W w i t e = go (is_running (task W i).status) refl e
    where
      fs : List Frame
      fs = (task W i).frames

      by : List Frame → Option (ℕ × ℕ)
      by l = touch_by p W.memory l (standing p l)

      go : (b : Bool) → is_running (task W i).status ≡ b → cond b (by fs) None ≡ Some t → (j x : ℕ) × (C.own_e (flat (scopes A) (frames_of W.tasks) (spot i j x)) ≡ suc t.0)
      go false r k = nothing k
      go true r k =
          let a = touch_owns (poised W i w r) t
          (subst (λ (l : List Frame). by l ≡ Some t) (sym (frames_at W.tasks i)) k) in
          (length (get_or (frames_of W.tasks) i []) - 1, a.0, a.1)

  one_slot : (W : World) → Well W → (i j k i' j' k' o : ℕ) → C.own_e (flat (scopes A) (frames_of W.tasks) (spot i j k)) ≡ suc o → C.own_e (flat (scopes A) (frames_of W.tasks) (spot i' j' k')) ≡ suc o → (i ≡ i') × (j ≡ j') × (k ≡ k')
  one_slot W w i j k i' j' k' o h g =
      let e = slot_frame ((kept_sound (structs_of p) (flat (scopes A) (frames_of W.tasks)) (mem W.memory) w.base.sound).no_clash (spot i j k) (spot i' j' k') o h g) in (e.0.0, e.0.1, e.1)

  pub no_clash : (W : World) → Well W → clashes p W ≡ None
  no_clash W w = clash_none p W.memory 0 W.tasks (λ a b t u e f q.
      let x = touch_slot W w a t e in
      let y = touch_slot W w b u f in
      (one_slot W w a x.0 x.1 b y.0 y.1 t.0 x.2 (y.2 ∙ ap suc (sym q))).0)

  pub few_owners : (W : World) → Well W → (o : ℕ) → tasks_owning (types A) W.tasks o ≤ 1
  few_owners W w o = tasks_one o A W.tasks (λ i j k i' j' k' h g. one_slot W w i j k i' j' k' o h g)

  pub known : (W : World) → Well W → frames_known p W ≡ Ok tt
  known W w = all_known p W (length W.tasks) w.base.chains
