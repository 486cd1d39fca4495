-- A thread's turn as the code has it: what becomes of its newest frame, and the turn that it stands for.
use Rattle.std.specs.Prelude.{ℕ, ◌-◌, ◌<◌, true, List, [], ◌∷◌, ◌++◌, length, take, Some, None, Ok, Err, Option, Result, nat_lt, slice_set}
use Rattle.table.specs.Records.{Op, New, Null, Int, Share, Own, Get, Take, Set, Add, Call, Fork, Return, Again, Join, Emit, Ask}
use Rattle.table.specs.Program.{Program}
use Rattle.memory.specs.Model.{Store}
use Rattle.machine.specs.declared.threads.Frame.{Frame}
use Rattle.machine.specs.declared.threads.Status.TheVariants.{Running, Ended}
use Rattle.machine.specs.Steps.{Turn, Fails, Does}
use Rattle.stepping.specs.declared.turning.Outcome.{Outcome}
use Rattle.stepping.specs.declared.turning.Outcome.TheVariants.{Goes, Calls, Forks, Resumes, Ends}
use Rattle.machine.specs.Alone.{alone, done_of}
use Rattle.stepping.specs.Calling.{granted, handed, forking, handing, returning}

-- what becomes of what is not refused
abbrev pub becomes : {X : Type 0} → (X → Outcome) → Result X ℕ → Result Outcome ℕ
becomes f (Ok x) = Ok (f x)
becomes f (Err n) = Err n

-- a frame that waits is resumed, and without one the thread ends
abbrev pub led : Option Frame → Outcome
led None = Ends
led (Some F) = Resumes F

-- the newest frame F of a thread with so many frames, over another that may wait, in a machine with so many threads
module _ (p : Program) (m : Store) (F : Frame) (waiting : Option Frame) (depth threads room : ℕ) where
  -- a record that leads on within its frame
  abbrev pub within : Op → Result Outcome ℕ
  within op = becomes Goes (done_of (alone p m F room op))

  abbrev pub acted : Op → Result Outcome ℕ
  acted (New z s) = within (New z s)
  acted (Null z s) = within (Null z s)
  acted (Int z n) = within (Int z n)
  acted (Share z x) = within (Share z x)
  acted (Own z x) = within (Own z x)
  acted (Get z x f) = within (Get z x f)
  acted (Take z x f) = within (Take z x f)
  acted (Set z x f y) = within (Set z x f y)
  acted (Add z x y) = within (Add z x y)
  acted (Call z n args) = becomes Calls (granted (handing p F (nat_lt z 16) n args ((73, nat_lt n (length p.functions)) ∷ (66, nat_lt depth 8) ∷ [])) (handed p F n args))
  acted (Fork n args) = becomes Forks (granted (handing p F true n args ((73, nat_lt n (length p.functions)) ∷ (67, nat_lt threads 8) ∷ [])) (forking p F n args))
  acted (Return x) = becomes led (returning p F waiting x)
  acted (Again args) = within (Again args)
  acted (Join n) = within (Join n)
  acted (Emit x) = within (Emit x)
  acted (Ask t a b) = within (Ask t a b)

-- what an outcome is to a thread with these frames, over the memory that it left
abbrev pub made : List Frame → Store → Result Outcome ℕ → Turn
made fs m (Err n) = Fails n
made fs m (Ok (Goes d)) = Does (record { status = d.status; frames = slice_set fs (length fs - 1) d.frame; memory = m; forked = None }) d.out
made fs m (Ok (Calls q)) = Does (record { status = Running; frames = slice_set fs (length fs - 1) q.caller ++ (q.callee ∷ []); memory = m; forked = None }) None
made fs m (Ok (Forks q)) = Does (record { status = Running; frames = slice_set fs (length fs - 1) q.caller; memory = m; forked = Some q.callee }) None
made fs m (Ok (Resumes F)) = Does (record { status = Running; frames = slice_set (take (length fs - 1) fs) (length fs - 2) F; memory = m; forked = None }) None
made fs m (Ok Ends) = Does (record { status = Ended; frames = []; memory = m; forked = None }) None

-- a number is put out where the list has room for it
abbrev pub Listed : ℕ → Option ℕ → Type 0
Listed room None = Unit {0}
Listed room (Some n) = 0 < room

-- a call has room for its frame, a fork for its thread
abbrev pub FitsIn : ℕ → ℕ → ℕ → Result Outcome ℕ → Type 0
FitsIn depth threads room (Err n) = Unit {0}
FitsIn depth threads room (Ok (Goes d)) = Listed room d.out
FitsIn depth threads room (Ok (Calls q)) = depth < 8
FitsIn depth threads room (Ok (Forks q)) = threads < 8
FitsIn depth threads room (Ok (Resumes F)) = Unit {0}
FitsIn depth threads room (Ok Ends) = Unit {0}
