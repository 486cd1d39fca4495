-- Premises that all hold, the word of a slot, and a test that writes nothing.
use Rattle.std.proofs.Common.{◌≡◌, ℕ, Bool, true, false, cond, [], ◌∷◌, Some, None, Ok, Err, Option, Result, sym, refl, ap, ◌∙◌, arith}
use Rattle.rules.specs.Rules.{first}
use Rattle.memory.specs.Model.{Store, is_word}
use Rattle.machine.specs.declared.threads.Slot.{Slot}
use Rattle.machine.specs.Values.{word_of}
use Rattle.machine.specs.Tests.{Trial}
use Rattle.machine.specs.Steps.{all_words}
use Rattle.machine.specs.Trying.{unless_failing, answered_store}

-- premises that all hold
pub four_hold : (a b c d : Bool) → a ≡ true → b ≡ true → c ≡ true → d ≡ true → first ((71, a) ∷ (72, b) ∷ (73, c) ∷ (74, d) ∷ []) ≡ None
four_hold a b c d ha hb hc hd = rw (ha, hb, hc, hd) refl

-- a word that a cell can hold
pub word_made : (n k : ℕ) → ◌≡◌ {A = Result ℕ ℕ} (Ok n) (cond (is_word k) (Ok k) (Err 51)) → n ≡ k
word_made n k h = by (is_word k) h
  where
    by : (b : Bool) → ◌≡◌ {A = Result ℕ ℕ} (Ok n) (cond b (Ok k) (Err 51)) → n ≡ k
    by true e = cc
    by false e = let z : ◌≡◌ {A = ℕ} 0 1 = cc in absurd (omega arith)

-- a word that was made of a slot
pub word_of_slot : (n : ℕ) (v u : Slot) → ◌≡◌ {A = Result ℕ ℕ} (Ok n) (cond (is_word (word_of v)) (Ok (word_of v)) (Err 51)) → v ≡ u → n ≡ word_of u
word_of_slot n v u h e = word_made n (word_of v) h ∙ ap word_of e

-- a test that writes nothing leaves the memory
pub looks_only : (m : Store) (q : Trial) → q.memory ≡ m → m ≡ answered_store m q
looks_only m q h = by (first q.asks) q.halts (all_words q.words) q.says
  where
    by : (o : Option ℕ) (a b d : Bool) → m ≡ unless_failing o (cond a m (cond b (cond d q.memory m) m)) (λ n. m)
    by None true b d = refl
    by None false true true = sym h
    by None false true false = refl
    by None false false d = refl
    by (Some n) a b d = refl
