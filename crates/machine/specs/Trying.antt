-- What the code answers of a test.
use Rattle.std.specs.Prelude.{ℕ, Bool, cond, List, [], ◌∷◌, Some, None, Ok, Err, Option, Result}
use Rattle.rules.specs.Rules.{Premise, first}
use Rattle.memory.specs.Model.{Store, matching, cell_at, with_cell}
use Rattle.machine.specs.declared.threads.Frame.{Frame}
use Rattle.machine.specs.declared.tests.Answer.{Answer}
use Rattle.machine.specs.declared.tests.Answer.TheVariants.{Halts, Yes, No}
use Rattle.machine.specs.Tests.{Trial}
use Rattle.machine.specs.Steps.{all_words}

-- what comes where nothing fails, and what comes where something does
abbrev pub unless_failing : {X : Type 0} → Option ℕ → X → (ℕ → X) → X
unless_failing None x fails = x
unless_failing (Some n) x fails = fails n

-- what fields come to: what is asked fails, or a value is null, or there is what they have
abbrev pub asked : {X : Type 0} → List Premise → Bool → X → Result (Option X) ℕ
asked asks null x = unless_failing (first asks) (Ok (cond null None (Some x))) (λ n. Err n)

abbrev pub answered : Frame → Trial → Result Answer ℕ
answered F q =
    unless_failing (first q.asks)
    (cond q.halts (Ok Halts) (cond (all_words q.words) (Ok (cond q.says (Yes (record { function = F.function; index = F.index; slots = q.slots })) No)) (Err 51)))
    (λ n. Err n)

-- only a yes writes
abbrev pub answered_store : Store → Trial → Store
answered_store m q = unless_failing (first q.asks) (cond q.halts m (cond (all_words q.words) (cond q.says q.memory m) m)) (λ n. m)

-- an exchange in a cell that is there, and the answer that it gives: 51 where a word is none
abbrev pub settled : Store → Frame → ℕ → ℕ → ℕ → ℕ → Result Answer ℕ
settled m F o f e w = cond (all_words (e ∷ w ∷ [])) (Ok (cond (matching (cell_at m o f) e) (Yes F) No)) (Err 51)

abbrev pub settled_store : Store → ℕ → ℕ → ℕ → ℕ → Bool → Store
settled_store m o f e w k = cond (all_words (e ∷ w ∷ [])) (cond (matching (cell_at m o f) e) (with_cell m o f (record { word = w; mark = k })) m) m
