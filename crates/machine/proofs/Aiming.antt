-- What a test on the field x.f comes to, by the references that it was given and what the first of them refers to.
use Rattle.std.proofs.Common.{◌≡◌, ℕ, Bool, true, false, cond, ◌&&◌, List, [], ◌∷◌, map, get_or, Some, Ok, Err, Option, Result, refl, ap, ◌∙◌}
use Rattle.std.specs.List.{list_all}
use Rattle.table.specs.Program.{Program}
use Rattle.table.specs.declared.fault.Refusal.{Refusal}
use Rattle.table.specs.declared.fault.Refusal.TheVariants.{NoOperand, Sort}
use Rattle.table.specs.Faults.{number_of}
use Rattle.rules.specs.Rules.{first}
use Rattle.memory.specs.Model.{Store}
use Rattle.machine.specs.declared.threads.Slot.{Slot}
use Rattle.machine.specs.declared.threads.Slot.TheVariants.{Empty}
use Rattle.machine.specs.declared.reading.Target.{Target}
use Rattle.machine.specs.Values.{at, given, is_null, is_reference}
use Rattle.machine.specs.Reading.{has_field, slot_has_object, refers}
use Rattle.machine.specs.Seeing.{target_at, targeted}
use Rattle.machine.specs.Tests.{field_asks}
use Rattle.machine.specs.Trying.{asked}
use Rattle.machine.proofs.Settling.{four_hold}
use Rattle.machine.proofs.Pairing.{and_false, Found, no_field, no_object, there, find, fails_73, fails_74}
use Rattle.machine.proofs.Exchanging.{asked_fails, asked_holds, targeted_as}

-- what a list of two or three comes to
pub and_two : (a b : Bool) → (a && b) ≡ (a && (b && true))
and_two true true = refl
and_two true false = refl
and_two false b = refl

pub and_three : (a b c : Bool) → (a && b && c) ≡ (a && (b && (c && true)))
and_three true b c = and_two b c
and_three false b c = refl

and_left : (a b : Bool) → (a && b) ≡ true → a ≡ true
and_left true b h = refl
and_left false b h = cc

both : (a b : Bool) → a ≡ true → b ≡ true → (a && b) ≡ true
both a b ha hb = rw (ha, hb) refl

fails_72 : (a b c d : Bool) → a ≡ true → b ≡ false → first ((71, a) ∷ (72, b) ∷ (73, c) ∷ (74, d) ∷ []) ≡ Some 72
fails_72 a b c d ha hb = rw (ha, hb) refl

-- references, or their refusal
abbrev given_or : Bool → Bool → List Slot → Result (List Slot) Refusal
given_or g k ws = cond g (cond k (Ok ws) (Err Sort)) (Err NoOperand)

pub by_given : (g k : Bool) (ws us : List Slot) → Ok us ≡ given_or g k ws → (g ≡ true) × (k ≡ true) × (us ≡ ws)
by_given true true ws us h = (refl, refl, cc)
by_given true false ws us h = cc
by_given false k ws us h = cc

by_refusal : (g k r c d : Bool) (ws : List Slot) (e : Refusal) → Err e ≡ given_or g k ws → first ((71, g) ∷ (72, k && r) ∷ (73, c) ∷ (74, d) ∷ []) ≡ Some (number_of e)
by_refusal true true r c d ws e h = cc
by_refusal true false r c d ws e h = let s : e ≡ Sort = cc in rw s refl
by_refusal false k r c d ws e h = let s : e ≡ NoOperand = cc in rw s refl

-- the operands x and others, all of them references
module _ (p : Program) (m : Store) (vs : List Slot) (G K : Bool) (x f : ℕ) (xs : List ℕ) (all : G ≡ list_all (given vs) (x ∷ xs)) (kinds : K ≡ list_all is_reference (map (at vs) (x ∷ xs))) where
  abbrev told : Result (List Slot) Refusal
  told = given_or (list_all (given vs) (x ∷ xs)) (list_all is_reference (map (at vs) (x ∷ xs))) (map (at vs) (x ∷ xs))

  abbrev comes_to : Result (Option Target) ℕ
  comes_to = asked (field_asks p m vs G K x f) (is_null (at vs x)) (target_at p m (at vs x) f)

  pub values : (us : List Slot) → Ok us ≡ told → us ≡ map (at vs) (x ∷ xs)
  values us h = (by_given (list_all (given vs) (x ∷ xs)) (list_all is_reference (map (at vs) (x ∷ xs))) (map (at vs) (x ∷ xs)) us h).2

  pub refused : (e : Refusal) → Err e ≡ told → Err (number_of e) ≡ comes_to
  refused e h =
      asked_fails (field_asks p m vs G K x f) (is_null (at vs x)) (target_at p m (at vs x) f) (number_of e)
      (ap (λ z. first (field_asks p m vs z K x f)) all
      ∙ ap (λ z. first (field_asks p m vs (list_all (given vs) (x ∷ xs)) z x f)) kinds
      ∙ by_refusal (list_all (given vs) (x ∷ xs)) (list_all is_reference (map (at vs) (x ∷ xs))) (refers p m (at vs x) f) (has_field p m (at vs x) f) (slot_has_object p m (at vs x)) (map (at vs) (x ∷ xs)) e h)

  pub aimed : (us : List Slot) → Ok us ≡ told → (r : Result (Option Target) ℕ)
      → r ≡ cond (refers p m (get_or us 0 Empty) f) (targeted p m (get_or us 0 Empty) f) (Err 72) → r ≡ comes_to
  aimed us h r made = made ∙ ap (λ z. cond (refers p m (get_or z 0 Empty) f) (targeted p m (get_or z 0 Empty) f) (Err 72)) (values us h) ∙ by (refers p m (at vs x) f) refl (find p m (at vs x) f)
    where
      facts : (list_all (given vs) (x ∷ xs) ≡ true) × (list_all is_reference (map (at vs) (x ∷ xs)) ≡ true) × (us ≡ map (at vs) (x ∷ xs))
      facts = by_given (list_all (given vs) (x ∷ xs)) (list_all is_reference (map (at vs) (x ∷ xs))) (map (at vs) (x ∷ xs)) us h

      hG : G ≡ true
      hG = all ∙ facts.0

      hK : K ≡ true
      hK = kinds ∙ facts.1

      by : (b : Bool) → refers p m (at vs x) f ≡ b → Found p m (at vs x) f → cond (refers p m (at vs x) f) (targeted p m (at vs x) f) (Err 72) ≡ comes_to
      by false q o =
          ap (λ z. cond z (targeted p m (at vs x) f) (Err 72)) q
          ∙ asked_fails (field_asks p m vs G K x f) (is_null (at vs x)) (target_at p m (at vs x) f) 72 (fails_72 G (K && refers p m (at vs x) f) (has_field p m (at vs x) f) (slot_has_object p m (at vs x)) hG (and_false K (refers p m (at vs x) f) q))
      by true q (no_field e hf) =
          ap (λ z. cond z (targeted p m (at vs x) f) (Err 72)) q ∙ e
          ∙ asked_fails (field_asks p m vs G K x f) (is_null (at vs x)) (target_at p m (at vs x) f) 73 (fails_73 p m G (K && refers p m (at vs x) f) (has_field p m (at vs x) f) (slot_has_object p m (at vs x)) hG (both K (refers p m (at vs x) f) hK q) hf)
      by true q (no_object e hf ho) =
          ap (λ z. cond z (targeted p m (at vs x) f) (Err 72)) q ∙ e
          ∙ asked_fails (field_asks p m vs G K x f) (is_null (at vs x)) (target_at p m (at vs x) f) 74 (fails_74 p m G (K && refers p m (at vs x) f) (has_field p m (at vs x) f) (slot_has_object p m (at vs x)) hG (both K (refers p m (at vs x) f) hK q) hf ho)
      by true q (there o e hf ho) =
          ap (λ z. cond z (targeted p m (at vs x) f) (Err 72)) q
          ∙ targeted_as p m (at vs x) f (and_left (is_reference (at vs x)) (list_all is_reference (map (at vs) xs)) facts.1) hf ho
          ∙ asked_holds (field_asks p m vs G K x f) (is_null (at vs x)) (target_at p m (at vs x) f) (four_hold G (K && refers p m (at vs x) f) (has_field p m (at vs x) f) (slot_has_object p m (at vs x)) hG (both K (refers p m (at vs x) f) hK q) hf ho)
