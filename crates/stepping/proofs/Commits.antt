-- A thread's record written, as the list of threads has it.
use Rattle.std.proofs.Common.{◌≡◌, ℕ, ◌<◌, ltb, List, [], ◌∷◌, ◌++◌, map, length, get_or, take, set, Some, None, Ok, Option, sym, refl, ap, ◌∙◌, arith}
use Rattle.std.proofs.Math.Seq.{take-set-lt}
use Rattle.std.proofs.lemmas.List.{length-take, length-map, get_or-map, get_or-take, map-set}
use Rattle.std.proofs.lemmas.Bool.{cond-true, lt-ltb}
use Rattle.list.specs.Held.{pushed}
use Rattle.machine.specs.declared.threads.Frame.{Frame}
use Rattle.machine.specs.declared.threads.Thread.{Thread}
use Rattle.machine.specs.World.{Task, task_of, no_task, no_thread, begun}
use Rattle.machine.specs.Stacks.{frames_of}
use Rattle.machine.specs.Steps.{joined}
use Rattle.stepping.specs.declared.calls.Passed.{Passed}
use Rattle.stepping.specs.declared.turning.Outcome.{Outcome}
use Rattle.stepping.specs.declared.turning.Outcome.TheVariants.{Goes, Calls, Forks, Resumes, Ends}
use Rattle.stepping.specs.Turns.{FitsIn}
use Rattle.stepping.specs.Committing.{task_after, forked_by}

module _ (ths : List Thread) (c i : ℕ) (l : i < length (map task_of (take c ths))) where
  abbrev tasks : List Task
  tasks = map task_of (take c ths)

  within : i < c
  within = omega (arith, length-map (take c ths) task_of, length-take c ths)

  -- the thread at its place
  pub task_read : task_of (get_or ths i no_thread) ≡ get_or tasks i no_task
  task_read =
      let a : i < length (take c ths) = omega (arith, length-map (take c ths) task_of) in
      sym (get_or-map task_of (take c ths) i no_thread no_task a ∙ ap task_of (get_or-take c ths i no_thread within))

  pub task_settled : (t : Thread) (o : Outcome) → task_of t ≡ task_after (frames_of (get_or ths i no_thread)) o → map task_of (take c (set ths i t)) ≡ set tasks i (task_after (get_or tasks i no_task).frames o)
  task_settled t o e =
      ap (map task_of) (take-set-lt c ths i t within)
      ∙ map-set task_of (take c ths) i t
      ∙ ap (set tasks i) (e ∙ ap (λ (k : Task). task_after k.frames o) task_read)

  pub fits_thread : (n : ℕ) (o : Outcome) → FitsIn (length (get_or tasks i no_task).frames) n 1 (Ok o) → FitsIn (length (frames_of (get_or ths i no_thread))) 0 1 (Ok o)
  fits_thread n (Goes x) h = h
  fits_thread n (Calls q) h = let e = ap (λ (k : Task). length k.frames) task_read in omega (arith, h, e)
  fits_thread n (Forks q) h = omega arith
  fits_thread n (Resumes F) h = tt
  fits_thread n Ends h = tt

-- only a fork begins a thread
pub forks_none : (o : Outcome) → ((q : Passed) → o ≡ Forks q → ⊥) → forked_by o ≡ None
forks_none (Goes d) h = refl
forks_none (Calls q) h = refl
forks_none (Forks q) h = absurd (h q refl)
forks_none (Resumes F) h = refl
forks_none Ends h = refl

pub joins_none : (ts : List Task) (o : Option Frame) → o ≡ None → ts ≡ joined ts o
joins_none ts o e = sym (ap (joined ts) e)

-- where there is room, a thread more
pub joins_more : (ts us : List Task) (F : Frame) → ts ≡ us → length us < 8 → pushed 8 ts (begun F) ≡ joined us (Some F)
joins_more ts us F e l = ap (λ (vs : List Task). pushed 8 vs (begun F)) e ∙ cond-true (ltb (length us) 8) (us ++ (begun F ∷ [])) us (lt-ltb (length us) 8 l)
