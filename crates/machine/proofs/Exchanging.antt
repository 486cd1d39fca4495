-- What fields come to, by what is asked of them.
use Rattle.std.proofs.Common.{◌≡◌, ℕ, Bool, true, false, cond, ◌&&◌, ◌||◌, ltb, List, [], ◌∷◌, length, Some, None, Ok, Err, Option, Result, refl, ◌∙◌}
use Rattle.table.specs.Program.{Program}
use Rattle.rules.specs.Rules.{Premise, first}
use Rattle.memory.specs.Model.{Store, has_object}
use Rattle.machine.specs.declared.threads.Slot.{Slot}
use Rattle.machine.specs.declared.threads.Slot.TheVariants.{Empty, Null, Number, Reference}
use Rattle.machine.specs.declared.threads.Frame.{Frame}
use Rattle.machine.specs.declared.reading.Target.{Target}
use Rattle.machine.specs.declared.tests.Answer.{Answer}
use Rattle.machine.specs.declared.tests.Answer.TheVariants.{Halts}
use Rattle.machine.specs.Values.{at, is_null, is_reference, object_of}
use Rattle.machine.specs.Reading.{fields, has_field, slot_has_object}
use Rattle.machine.specs.Seeing.{target_at, pair_at, targeted, paired}
use Rattle.machine.specs.Tests.{exchanges}
use Rattle.machine.specs.Steps.{all_words}
use Rattle.machine.specs.Trying.{unless_failing, asked, answered, answered_store, settled, settled_store}
use Rattle.machine.proofs.Settling.{four_hold}
use Rattle.machine.proofs.Pairing.{and_false, Found, no_field, no_object, there, find, fails_73, fails_74}

module _ {X : Type 0} (qs : List Premise) (null : Bool) (x : X) where
  pub asked_fails : (n : ℕ) → first qs ≡ Some n → Err n ≡ asked qs null x
  asked_fails n h = rw h refl

  pub asked_holds : first qs ≡ None → Ok (cond null None (Some x)) ≡ asked qs null x
  asked_holds h = rw h refl

  pub failed : (n : ℕ) → Err n ≡ asked qs null x → first qs ≡ Some n
  failed n h = by (first qs) h
    where
      by : (o : Option ℕ) → ◌≡◌ {A = Result (Option X) ℕ} (Err n) (unless_failing o (Ok (cond null None (Some x))) (λ k. Err k)) → o ≡ Some n
      by None e = cc
      by (Some k) e = cc

  pub halted : Ok None ≡ asked qs null x → (first qs ≡ None) × (null ≡ true)
  halted h = by (first qs) null h
    where
      by : (o : Option ℕ) (a : Bool) → ◌≡◌ {A = Result (Option X) ℕ} (Ok None) (unless_failing o (Ok (cond a None (Some x))) (λ k. Err k)) → (o ≡ None) × (a ≡ true)
      by None true e = (refl, refl)
      by None false e = cc
      by (Some k) a e = cc

  pub found : (y : X) → Ok (Some y) ≡ asked qs null x → (first qs ≡ None) × (null ≡ false) × (y ≡ x)
  found y h = by (first qs) null h
    where
      by : (o : Option ℕ) (a : Bool) → ◌≡◌ {A = Result (Option X) ℕ} (Ok (Some y)) (unless_failing o (Ok (cond a None (Some x))) (λ k. Err k)) → (o ≡ None) × (a ≡ false) × (y ≡ x)
      by None true e = cc
      by None false e = (refl, refl, cc)
      by (Some k) a e = cc

module _ (p : Program) (m : Store) where
  pub targeted_as : (v : Slot) (f : ℕ) → is_reference v ≡ true → has_field p m v f ≡ true → slot_has_object p m v ≡ true → targeted p m v f ≡ Ok (cond (is_null v) None (Some (target_at p m v f)))
  targeted_as Empty f r hf hv = cc
  targeted_as Null f r hf hv = refl
  targeted_as (Number n) f r hf hv = cc
  targeted_as (Reference o) f r hf hv = by (has_object m o) (ltb f (length (fields p m (Reference o)))) refl refl
    where
      by : (a b : Bool) → has_object m o ≡ a → ltb f (length (fields p m (Reference o))) ≡ b → targeted p m (Reference o) f ≡ Ok (Some (target_at p m (Reference o) f))
      by true true ha hb = rw (ha, hb) refl
      by true false ha hb = let z = rw (ha, hb) at hf in cc
      by false b ha hb = cc

  both_as : (a b : Bool) (s t : Target) → paired (Ok (cond a None (Some s))) (Ok (cond b None (Some t))) ≡ Ok (cond (a || b) None (Some (record { from = s; to = t })))
  both_as true b s t = refl
  both_as false true s t = refl
  both_as false false s t = refl

  abbrev asks_of : Bool → Bool → Slot → ℕ → Slot → ℕ → List Premise
  asks_of a b v f u g = (71, a) ∷ (72, b) ∷ (73, has_field p m v f && has_field p m u g) ∷ (74, slot_has_object p m v && slot_has_object p m u) ∷ []

  -- two values that resolve, or not, as it is asked
  pub pair_asked : (a b : Bool) (v : Slot) (f : ℕ) (u : Slot) (g : ℕ) → a ≡ true → b ≡ true → is_reference v ≡ true → is_reference u ≡ true
      → paired (targeted p m v f) (targeted p m u g) ≡ asked (asks_of a b v f u g) (is_null v || is_null u) (pair_at p m v f u g)
  pair_asked a b v f u g ha hb rv ru = by (find p m v f) (find p m u g)
    where
      at_73 : (has_field p m v f && has_field p m u g) ≡ false → Err 73 ≡ asked (asks_of a b v f u g) (is_null v || is_null u) (pair_at p m v f u g)
      at_73 hc = asked_fails (asks_of a b v f u g) (is_null v || is_null u) (pair_at p m v f u g) 73 (fails_73 p m a b (has_field p m v f && has_field p m u g) (slot_has_object p m v && slot_has_object p m u) ha hb hc)

      at_74 : has_field p m v f ≡ true → has_field p m u g ≡ true → (slot_has_object p m v && slot_has_object p m u) ≡ false → Err 74 ≡ asked (asks_of a b v f u g) (is_null v || is_null u) (pair_at p m v f u g)
      at_74 hv hu hd = asked_fails (asks_of a b v f u g) (is_null v || is_null u) (pair_at p m v f u g) 74 (fails_74 p m a b (has_field p m v f && has_field p m u g) (slot_has_object p m v && slot_has_object p m u) ha hb (rw (hv, hu) refl) hd)

      by : Found p m v f → Found p m u g → paired (targeted p m v f) (targeted p m u g) ≡ asked (asks_of a b v f u g) (is_null v || is_null u) (pair_at p m v f u g)
      by (no_field e hf) (no_field d hg) = rw (e, d) (at_73 (rw hf refl))
      by (no_field e hf) (no_object d hg ho) = rw (e, d) (at_73 (rw hf refl))
      by (no_field e hf) (there o d hg ho) = rw (e, d) (at_73 (rw hf refl))
      by (no_object e hf hv) (no_field d hg) = rw (e, d) (at_73 (and_false (has_field p m v f) _ hg))
      by (no_object e hf hv) (no_object d hg hu) = rw (e, d) (at_74 hf hg (rw hv refl))
      by (no_object e hf hv) (there o d hg hu) = rw (e, d) (at_74 hf hg (rw hv refl))
      by (there o e hf hv) (no_field d hg) = rw (e, d) (at_73 (and_false (has_field p m v f) _ hg))
      by (there o e hf hv) (no_object d hg hu) = rw (e, d) (at_74 hf hg (and_false (slot_has_object p m v) _ hu))
      by (there o e hf hv) (there q d hg hu) =
          rw (targeted_as v f rv hf hv, targeted_as u g ru hg hu)
          (both_as (is_null v) (is_null u) (target_at p m v f) (target_at p m u g)
          ∙ asked_holds (asks_of a b v f u g) (is_null v || is_null u) (pair_at p m v f u g)
          (four_hold a b (has_field p m v f && has_field p m u g) (slot_has_object p m v && slot_has_object p m u) ha hb (rw (hf, hg) refl) (rw (hv, hu) refl)))

-- an exchange, by what its fields come to
module _ {X : Type 0} (p : Program) (m : Store) (F : Frame) (asks : List Premise) (null : Bool) (x f e w : ℕ) (k : Bool) (ws : List Slot) (t : X) where
  abbrev Ends : Result Answer ℕ → Store → Type 0
  Ends r n = (r ≡ answered F (exchanges p m F.slots asks null x f e w k ws)) × (n ≡ answered_store m (exchanges p m F.slots asks null x f e w k ws))

  pub test_fails : (n : ℕ) → Err n ≡ asked asks null t → Ends (Err n) m
  test_fails n h = let q = failed asks null t n h in (rw q refl, rw q refl)

  pub test_halts : Ok None ≡ asked asks null t → Ends (Ok Halts) m
  test_halts h = let q = halted asks null t h in (rw (q.0, q.1) refl, rw (q.0, q.1) refl)

  pub test_51 : (y : X) → Ok (Some y) ≡ asked asks null t → all_words (e ∷ w ∷ []) ≡ false → Ends (Err 51) m
  test_51 y h a = let q = found asks null t y h in (rw (q.0, q.1, a) refl, rw (q.0, q.1, a) refl)

  pub test_exchanges : (y : X) → Ok (Some y) ≡ asked asks null t → (G : Frame) (o d v : ℕ) (r : Result Answer ℕ) (n : Store)
      → G ≡ record { function = F.function; index = F.index; slots = ws } → o ≡ object_of (at F.slots x) → d ≡ e → v ≡ w
      → r ≡ settled m G o f d v → n ≡ settled_store m o f d v k → Ends r n
  test_exchanges y h G o d v r n same object old new value after =
      let q = found asks null t y h in (value ∙ rw (same, object, old, new, q.0, q.1) refl, after ∙ rw (object, old, new, q.0, q.1) refl)
