-- What one value resolves to, and a word that no cell can hold.
use Rattle.std.proofs.Common.{◌≡◌, ℕ, Bool, true, false, cond, ◌&&◌, ltb, List, [], ◌∷◌, length, Some, None, Ok, Err, Option, Result, sym, refl, ap, ◌∙◌, arith}
use Rattle.table.specs.Program.{Program}
use Rattle.rules.specs.Rules.{first}
use Rattle.memory.specs.Model.{Store, has_object, cell_at, is_word}
use Rattle.machine.specs.declared.threads.Slot.{Slot}
use Rattle.machine.specs.declared.threads.Slot.TheVariants.{Empty, Null, Number, Reference}
use Rattle.machine.specs.declared.threads.Frame.{Frame}
use Rattle.machine.specs.declared.reading.Target.{Target}
use Rattle.machine.specs.declared.reading.Pair.{Pair}
use Rattle.machine.specs.Values.{word_of}
use Rattle.machine.specs.Reading.{fields, field, has_field, slot_has_object}
use Rattle.machine.specs.Seeing.{targeted, paired}
use Rattle.machine.specs.Ways.{Way}
use Rattle.machine.specs.Steps.{all_words, by_way}
use Rattle.machine.specs.Alone.{done_of, memory_after}

pub and_false : (a b : Bool) → b ≡ false → (a && b) ≡ false
and_false true b h = h
and_false false b h = refl

module _ (p : Program) (m : Store) where
  -- what becomes of one value: no such field, no such object, or a target, or nothing
  pub data Found (v : Slot) (f : ℕ) : Type 0 where
    no_field : targeted p m v f ≡ Err 73 → has_field p m v f ≡ false → Found v f
    no_object : targeted p m v f ≡ Err 74 → has_field p m v f ≡ true → slot_has_object p m v ≡ false → Found v f
    there : (o : Option Target) → targeted p m v f ≡ Ok o → has_field p m v f ≡ true → slot_has_object p m v ≡ true → Found v f

  pub find : (v : Slot) (f : ℕ) → Found v f
  find Empty f = there None refl refl refl
  find Null f = there None refl refl refl
  find (Number n) f = there None refl refl refl
  find (Reference o) f = by (has_object m o) (ltb f (length (fields p m (Reference o)))) refl refl
    where
      by : (a b : Bool) → has_object m o ≡ a → ltb f (length (fields p m (Reference o))) ≡ b → Found (Reference o) f
      by true true ha hb = there (Some (record { object = o; field = field p m (Reference o) f; cell = cell_at m o f })) (rw (ha, hb) refl) (rw (ha, hb) refl) ha
      by true false ha hb = no_field (rw (ha, hb) refl) (rw (ha, hb) refl)
      by false b ha hb = no_object (rw ha refl) (rw ha refl) ha

  pub fails_73 : (a b c d : Bool) → a ≡ true → b ≡ true → c ≡ false → first ((71, a) ∷ (72, b) ∷ (73, c) ∷ (74, d) ∷ []) ≡ Some 73
  fails_73 a b c d ha hb hc = rw (ha, hb, hc) refl

  pub fails_74 : (a b c d : Bool) → a ≡ true → b ≡ true → c ≡ true → d ≡ false → first ((71, a) ∷ (72, b) ∷ (73, c) ∷ (74, d) ∷ []) ≡ Some 74
  fails_74 a b c d ha hb hc hd = rw (ha, hb, hc, hd) refl

  pub target_fails : (a b : Bool) (v : Slot) (f n : ℕ) → a ≡ true → b ≡ true → ◌≡◌ {A = Result (Option Target) ℕ} (Err n) (targeted p m v f)
      → first ((71, a) ∷ (72, b) ∷ (73, has_field p m v f) ∷ (74, slot_has_object p m v) ∷ []) ≡ Some n
  target_fails a b v f n ha hb h = by (find v f)
    where
      same : (k : ℕ) (r : Result (Option Target) ℕ) → ◌≡◌ {A = Result (Option Target) ℕ} (Err n) r → r ≡ Err k → k ≡ n
      same k r e d = cc

      by : Found v f → first ((71, a) ∷ (72, b) ∷ (73, has_field p m v f) ∷ (74, slot_has_object p m v) ∷ []) ≡ Some n
      by (no_field e hf) = fails_73 a b _ _ ha hb hf ∙ ap Some (same 73 _ h e)
      by (no_object e hf ho) = fails_74 a b _ _ ha hb hf ho ∙ ap Some (same 74 _ h e)
      by (there o e hf ho) = let z : ◌≡◌ {A = ℕ} 0 1 = cc (h, e) in absurd (omega arith)

-- a record that is refused leaves the memory as it was
pub way_fails : (p : Program) (m : Store) (fs : List Frame) (threads room n : ℕ) (w : Way) → first w.asks ≡ Some n
    → (Err n ≡ done_of (by_way p m fs threads room w)) × (m ≡ memory_after m (by_way p m fs threads room w))
way_fails p m fs threads room n w h = (rw h refl, rw h refl)

-- a word that no cell can hold
pub word_fails : (n k : ℕ) → ◌≡◌ {A = Result ℕ ℕ} (Err n) (cond (is_word k) (Ok k) (Err 51)) → (is_word k ≡ false) × (n ≡ 51)
word_fails n k h = by (is_word k) refl h
  where
    by : (b : Bool) → is_word k ≡ b → ◌≡◌ {A = Result ℕ ℕ} (Err n) (cond b (Ok k) (Err 51)) → (is_word k ≡ false) × (n ≡ 51)
    by true q e = let z : ◌≡◌ {A = ℕ} 0 1 = cc in absurd (omega arith)
    by false q e = (q, cc)

-- the word of a slot, first or second of two
pub first_word_fails : (n e w : ℕ) (v u : Slot) → ◌≡◌ {A = Result ℕ ℕ} (Err n) (cond (is_word (word_of v)) (Ok (word_of v)) (Err 51)) → v ≡ u → e ≡ word_of u → (all_words (e ∷ w ∷ []) ≡ false) × (n ≡ 51)
first_word_fails n e w v u h d s = let q = word_fails n (word_of v) h in let z : is_word e ≡ false = ap is_word (s ∙ ap word_of (sym d)) ∙ q.0 in (rw z refl, q.1)

pub second_word_fails : (n e w : ℕ) (v u : Slot) → ◌≡◌ {A = Result ℕ ℕ} (Err n) (cond (is_word (word_of v)) (Ok (word_of v)) (Err 51)) → v ≡ u → w ≡ word_of u → (all_words (e ∷ w ∷ []) ≡ false) × (n ≡ 51)
second_word_fails n e w v u h d s = let q = word_fails n (word_of v) h in let z : is_word w ≡ false = ap is_word (s ∙ ap word_of (sym d)) ∙ q.0 in (and_false (is_word e) (is_word w && true) (rw z refl), q.1)

-- the two values in the words of the code
pub paired_as : (p : Program) (m : Store) (v u : Slot) (f : ℕ) (w x : Slot) (g : ℕ) (r : Result (Option Pair) ℕ) → r ≡ paired (targeted p m v f) (targeted p m w g) → v ≡ u → w ≡ x
    → r ≡ paired (targeted p m u f) (targeted p m x g)
paired_as p m v u f w x g r h a b = h ∙ ap (λ z. paired (targeted p m z f) (targeted p m w g)) a ∙ ap (λ z. paired (targeted p m u f) (targeted p m z g)) b
