-- A step, from the turn of its thread and from its commit.
use Rattle.std.proofs.Common.{◌≡◌, ℕ, ◌-◌, ◌<◌, Bool, true, false, ltb, List, [], ◌∷◌, ◌++◌, map, length, get_or, Ok, Err, Result, sym, refl, ap, ◌∙◌, subst, inl, inr, arith}
use Rattle.std.proofs.lemmas.List.{get_or_past, length-map, get_or-map}
use Rattle.std.proofs.lemmas.Bool.{cases_lt, cond-true, lt-ltb}
use Rattle.list.specs.Held.{pushed}
use Rattle.list.specs.Fronts.{front_of}
use Rattle.table.specs.declared.fault.Fault.{Fault}
use Rattle.table.specs.declared.fault.Refusal.{Refusal}
use Rattle.table.specs.Faults.{number_of, numbered, required}
use Rattle.table.specs.Program.{Program}
use Rattle.memory.specs.Model.{Store}
use Rattle.machine.specs.declared.threads.Frame.{Frame}
use Rattle.machine.specs.declared.threads.Thread.{Thread}
use Rattle.machine.specs.declared.threads.Machine.{Machine}
use Rattle.machine.specs.World.{Task, World, task, task_of, world_of, no_task, no_thread, is_running}
use Rattle.machine.specs.Stacks.{tasks_of, frames_of}
use Rattle.machine.specs.Ways.{standing}
use Rattle.machine.specs.Steps.{commit, taking, step_fault, stepped}
use Rattle.stepping.specs.declared.turning.Outcome.{Outcome}
use Rattle.stepping.specs.declared.turning.Outcome.TheVariants.{Goes, Calls, Forks, Resumes, Ends}
use Rattle.stepping.specs.Turns.{made, Listed, FitsIn}
use Rattle.stepping.specs.Committing.{faulted, tasks_after, out_of}

-- a thread that runs is there
pub runs_there : (ts : List Task) (i : ℕ) → is_running (get_or ts i no_task).status ≡ true → i < length ts
runs_there ts i h =
    elim (cases_lt i (length ts)) [
      | inl l ↦ l
      | inr g ↦
          let e = ap (λ (t : Task). is_running t.status) (get_or_past ts i no_task g) in
          let z : ◌≡◌ {A = ℕ} 0 1 = cc in
          absurd (omega arith)
    ]

-- what an outcome leaves of a machine
pub commit_made : (W : World) (i : ℕ) (n : Store) (o : Outcome) → commit W i (made (task W i).frames n (Ok o)) ≡ Ok (record { world = record { tasks = tasks_after W.tasks i o; memory = n }; out = out_of o })
commit_made W i n (Goes d) = refl
commit_made W i n (Calls q) = refl
commit_made W i n (Forks q) = refl
commit_made W i n (Resumes F) = refl
commit_made W i n Ends = refl

-- thread i of a machine runs, with so much room in the list
module _ (p : Program) (size : ℕ) (M : Machine) (m : Store) (i : ℕ) (ths : List Thread) (room : ℕ) (all : ths ≡ front_of M.threads) (sized : room ≡ size)
    (runs : true ≡ is_running (task (world_of M m) i).status) where
  abbrev fs : List Frame
  fs = frames_of (get_or ths i no_thread)

  counted : length ths ≡ length (tasks_of M)
  counted = ap length all ∙ sym (length-map (front_of M.threads) task_of)

  same : fs ≡ (task (world_of M m) i).frames
  same =
      let l = runs_there (tasks_of M) i (sym runs) in
      let there : i < length ths = omega (arith, l, counted) in
      ap (λ (t : Task). t.frames) (sym (get_or-map task_of ths i no_thread no_task there) ∙ ap (λ us. get_or (map task_of us) i no_task) all)

  -- a step is the commit of what its thread's turn made
  stepped_by : (n : Store) (r : Result Outcome ℕ) → made fs n r ≡ taking p m fs (length ths) room (standing p fs)
      → stepped p size (world_of M m) i ≡ commit (world_of M m) i (made (task (world_of M m) i).frames n r)
  stepped_by n r e =
      let W = world_of M m in
      ap (λ (k : ℕ). stepped p k W i) (sym sized)
      ∙ cond-true (is_running (task W i).status) (commit W i (taking p m (task W i).frames (length W.tasks) room (standing p (task W i).frames))) (Err (step_fault i 64)) (sym runs)
      ∙ ap (λ (k : ℕ). commit W i (taking p m (task W i).frames k room (standing p (task W i).frames))) (sym counted)
      ∙ sym (ap (λ (gs : List Frame). commit W i (taking p m gs (length ths) room (standing p gs))) same)
      ∙ sym (ap (commit W i) e)
      ∙ ap (λ (gs : List Frame). commit W i (made gs n r)) same

  -- the first refusal of a turn is the step's
  pub step_refused : (n : Store) (t : Result Outcome Refusal) (f : Fault) → Err f ≡ faulted i t → made fs n (numbered t) ≡ taking p m fs (length ths) room (standing p fs) → stepped p size (world_of M m) i ≡ Err f
  step_refused n (Ok o) f h e = let z : ◌≡◌ {A = ℕ} 0 1 = cc in absurd (omega arith)
  step_refused n (Err r) f h e = let s : stepped p size (world_of M m) i ≡ Err (step_fault i (number_of r)) = stepped_by n (Err (number_of r)) e in let k : f ≡ step_fault i (number_of r) = cc in s ∙ ap Err (sym k)

  pub step_taken : (n : Store) (t : Result Outcome Refusal) (o : Outcome) → Ok o ≡ faulted i t → made fs n (numbered t) ≡ taking p m fs (length ths) room (standing p fs)
      → stepped p size (world_of M m) i ≡ Ok (record { world = record { tasks = tasks_after (tasks_of M) i o; memory = n }; out = out_of o })
  step_taken n (Ok u) o h e = let s : u ≡ o = cc in stepped_by n (Ok u) e ∙ commit_made (world_of M m) i n u ∙ ap (λ (v : Outcome). Ok (record { world = record { tasks = tasks_after (tasks_of M) i v; memory = n }; out = out_of v })) s
  step_taken n (Err r) o h e = let z : ◌≡◌ {A = ℕ} 0 1 = cc in absurd (omega arith)

-- what was asked and answered holds
pub asked : {E : Type 0} (b : Bool) (e : E) (u : Unit {0}) → required b e ≡ Ok u → true ≡ b
asked true e u h = refl
asked false e u h = let z : ◌≡◌ {A = ℕ} 0 1 = cc in absurd (omega arith)

-- a turn that is refused changes no memory, and one that is taken fits
pub turn_kept : (i : ℕ) (t : Result Outcome Refusal) (f : Fault) (m n : Store) → Err f ≡ faulted i t → ((r : Refusal) → t ≡ Err r → n ≡ m) → n ≡ m
turn_kept i (Ok o) f m n h k = let z : ◌≡◌ {A = ℕ} 0 1 = cc in absurd (omega arith)
turn_kept i (Err r) f m n h k = k r refl

pub turn_fits : (i depth threads room : ℕ) (t : Result Outcome Refusal) (o : Outcome) → Ok o ≡ faulted i t → FitsIn depth threads room (numbered t) → FitsIn depth threads room (Ok o)
turn_fits i depth threads room (Ok u) o h k = let s : u ≡ o = cc in subst (λ (v : Outcome). FitsIn depth threads room (Ok v)) s k
turn_fits i depth threads room (Err r) o h k = let z : ◌≡◌ {A = ℕ} 0 1 = cc in absurd (omega arith)

pub fits_out : (depth threads room : ℕ) (o : Outcome) → FitsIn depth threads room (Ok o) → Listed room (out_of o)
fits_out depth threads room (Goes d) h = h
fits_out depth threads room (Calls q) h = tt
fits_out depth threads room (Forks q) h = tt
fits_out depth threads room (Resumes F) h = tt
fits_out depth threads room Ends h = tt

-- a number that the list has room for
pub pushed_out : (size n : ℕ) (xs : List ℕ) → 0 < size - length xs → pushed size xs n ≡ xs ++ (n ∷ [])
pushed_out size n xs l = let m : length xs < size = omega arith in cond-true (ltb (length xs) size) (xs ++ (n ∷ [])) xs (lt-ltb (length xs) size m)
