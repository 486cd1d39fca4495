-- What a test that was answered makes of its frame.
use Rattle.std.proofs.Common.{◌≡◌, ℕ, suc, ◌+◌, Bool, true, false, cond, [], ◌∷◌, Some, None, Ok, Err, Option, Result, sym, refl, ap, ◌∙◌}
use Rattle.table.specs.declared.records.Test.{Test}
use Rattle.table.specs.Records.{Ask}
use Rattle.table.specs.Program.{Program}
use Rattle.rules.specs.Rules.{first}
use Rattle.memory.specs.Model.{Store}
use Rattle.machine.specs.declared.threads.Frame.{Frame}
use Rattle.machine.specs.declared.threads.Status.TheVariants.{Running, Halted}
use Rattle.machine.specs.declared.frames.Done.{Done}
use Rattle.machine.specs.declared.tests.Answer.{Answer}
use Rattle.machine.specs.declared.tests.Answer.TheVariants.{Halts, Yes, No}
use Rattle.machine.specs.Tests.{Trial, trial}
use Rattle.machine.specs.Ways.{stopped, go}
use Rattle.machine.specs.Steps.{Turn, Does, unless, all_words}
use Rattle.machine.specs.Trying.{unless_failing, answered, answered_store}
use Rattle.machine.specs.Alone.{alone, done_of, memory_after}
use Rattle.machine.proofs.Settling.{looks_only}

-- one that writes nothing, of the test that it is
pub look_answered : (p : Program) (m : Store) (F : Frame) (s t : Test) (r : Result Answer ℕ) → s ≡ t → r ≡ answered F (trial p m F.slots t) → (trial p m F.slots t).memory ≡ m
    → (r ≡ answered F (trial p m F.slots s)) × (m ≡ answered_store m (trial p m F.slots s))
look_answered p m F s t r is h w = (
  h ∙ ap (λ z. answered F (trial p m F.slots z)) (sym is),
  looks_only m (trial p m F.slots t) w ∙ ap (λ z. answered_store m (trial p m F.slots z)) (sym is),
)

-- what is done about an answer: halt, go on, or go past the yes block
abbrev pub done_by : Frame → ℕ → Result Answer ℕ → Result Done ℕ
done_by F a (Err n) = Err n
done_by F a (Ok Halts) = Ok (record { status = Halted; frame = F; out = None })
done_by F a (Ok (Yes G)) = Ok (record { status = Running; frame = record { function = G.function; index = suc F.index; slots = G.slots }; out = None })
done_by F a (Ok No) = Ok (record { status = Running; frame = record { function = F.function; index = suc F.index + a; slots = F.slots }; out = None })

-- the same, and the turn of the record, by what is asked, whether it halts, whether the words are words, and what it says
abbrev answer_from : Frame → Trial → Option ℕ → Bool → Bool → Bool → Result Answer ℕ
answer_from F q o h w s = unless_failing o (cond h (Ok Halts) (cond w (Ok (cond s (Yes (record { function = F.function; index = F.index; slots = q.slots })) No)) (Err 51))) (λ n. Err n)

abbrev store_from : Store → Trial → Option ℕ → Bool → Bool → Bool → Store
store_from m q o h w s = unless_failing o (cond h m (cond w (cond s q.memory m) m)) (λ n. m)

abbrev turn_from : Program → Store → Frame → ℕ → Trial → Option ℕ → Bool → Bool → Bool → Turn
turn_from p m F a q o h w s =
    unless o
    (cond h (Does (stopped p m (F ∷ []) Halted (F ∷ [])) None)
    (unless (first ((51, w) ∷ [])) (Does (cond s (go p m (F ∷ []) (suc F.index) q.slots q.memory) (go p m (F ∷ []) (suc F.index + a) F.slots m)) None)))

pub trial_done : (p : Program) (m : Store) (F : Frame) (a : ℕ) (q : Trial) (o : Option ℕ) (h w s : Bool)
    → (done_by F a (answer_from F q o h w s) ≡ done_of (turn_from p m F a q o h w s)) × (store_from m q o h w s ≡ memory_after m (turn_from p m F a q o h w s))
trial_done p m F a q (Some n) h w s = (refl, refl)
trial_done p m F a q None true w s = (refl, refl)
trial_done p m F a q None false false s = (refl, refl)
trial_done p m F a q None false true true = (refl, refl)
trial_done p m F a q None false true false = (refl, refl)

pub asked_done : (p : Program) (m : Store) (F : Frame) (room : ℕ) (t : Test) (a b : ℕ)
    → (done_by F a (answered F (trial p m F.slots t)) ≡ done_of (alone p m F room (Ask t a b)))
    × (answered_store m (trial p m F.slots t) ≡ memory_after m (alone p m F room (Ask t a b)))
asked_done p m F room t a b =
    let q = trial p m F.slots t in
    trial_done p m F a q (first q.asks) q.halts (all_words q.words) q.says

-- the record's turn, of an answer and of what was done about it
pub ask_done : (p : Program) (m n : Store) (F : Frame) (t : Test) (a b : ℕ) (v : Result Answer ℕ) (r : Result Done ℕ)
    → v ≡ answered F (trial p m F.slots t) → n ≡ answered_store m (trial p m F.slots t) → r ≡ done_by F a v
    → ((room : ℕ) → r ≡ done_of (alone p m F room (Ask t a b))) × ((room : ℕ) → n ≡ memory_after m (alone p m F room (Ask t a b)))
ask_done p m n F t a b v r hv hn hr = (
  (λ room. hr ∙ ap (done_by F a) hv ∙ (asked_done p m F room t a b).0),
  (λ room. hn ∙ (asked_done p m F room t a b).1),
)

-- a frame that goes to a record
abbrev pub gone : Frame → ℕ → Done
gone F i = record { status = Running; frame = record { function = F.function; index = i; slots = F.slots }; out = None }
