-- Tests: each keeps what is kept on a yes and on a no, and is never stuck.
use Rattle.std.proofs.Common.{◌≡◌, ℕ, suc, ◌+◌, ◌-◌, ◌^◌, ◌<◌, Bool, true, false, ltb, ◌⊎◌, List, [], ◌∷◌, length, get_or, set, Some, None, sym, refl, ap, ◌∙◌, subst, inl, inr, arith}
use Rattle.std.proofs.lemmas.List.{length-set}
use Rattle.std.proofs.lemmas.Bool.{eqb-true, eqb-false, and_parts, and_from, or_cases, or_left, or_right, not-true, cond_both, cases_Bool}
use Rattle.table.specs.declared.types.Ty.{Ty}
use Rattle.table.specs.Program.{Program}
use Rattle.table.specs.Types.{is_number, is_owned, is_spec}
use Rattle.table.specs.declared.records.Test.{Test}
use Rattle.table.specs.declared.records.Test.TheVariants.{Nil, Same, Equal, Less, Link, Unlink, Swap, Try, Fix, Stable}
use Rattle.table.specs.Records.{Ask}
use Rattle.table.specs.declared.types.Mode.TheVariants.{Val}
use Rattle.rules.specs.Rules.{first, callee, slot, with, asks}
use Rattle.rules.specs.Scopes.{shape}
use Rattle.rules.specs.Laws.{Holds}
use Rattle.memory.specs.Model.{Store, cell_at}
use Rattle.memory.specs.declared.object.Cell.{Cell}
use Rattle.machine.specs.declared.threads.Slot.{Slot}
use Rattle.machine.specs.declared.threads.Slot.TheVariants as V
use Rattle.machine.specs.Values.{word_of, left}
use Rattle.machine.specs.declared.threads.Frame.{Frame}
use Rattle.machine.specs.Ways.{value, go, way}
use Rattle.machine.specs.Steps.{Does, unless, taking, all_words}
use Rattle.machine.specs.Reading.{field_type, cell, write}
use Rattle.machine.specs.Tests.{trial}
use Rattle.safety.specs.Model.{Has}
use Rattle.safety.specs.Model as C
use Rattle.safety.specs.Fields.{spent}
use Rattle.safety.specs.Step.{poke}
use Rattle.safety.specs.Threads.{frame_at, advance}
use Rattle.safety.specs.Typed.{Typed, t_stay, t_swap, t_unlink, t_unlink_alias, t_link, t_try, t_fix, t_stable}
use Rattle.safety.specs.Checked.{core, core_field, structs_of, Notes, current, scopes, To, Leads}
use Rattle.safety.proofs.Images.{mem}
use Rattle.safety.proofs.Mask.{alone}
use Rattle.safety.proofs.Meaning.{ty_core, may_field, with_core}
use Rattle.safety.proofs.Ground.{saved_at, ref_kind, kind_ref, kind_pristine, kind_alias, cell_is}
use Rattle.safety.proofs.Tells.{not_number_pristine, not_number_alias, not_number_lasting, not_number_held, plain, mode_val, mode_once, mode_spec, field_owned, owned_from_pristine, owned_into_owned, number_into, alias_left, kind_owned, field_alias, ref_to, withheld_owned, same_struct, by_flow}
use Rattle.safety.proofs.Poised.{Poised, Fd, Good, Kd, Operand, Push, Sd, Wd, base, ck, fine, fld, goes, holds_as, is_a_number, is_a_reference, is_given, late, obj, operand, passes, placed, refers_to, rfs, unless_null, unless_nulls, whole_wrote, wrote}
use Rattle.safety.proofs.Bindings.{flow_in, left_is}

module _ (X : Poised) where
  abbrev p : Program
  p = X.program

  abbrev A : Notes
  A = X.notes

  abbrev Ms : List (List Frame)
  Ms = X.threads

  abbrev m : Store
  m = X.memory

  abbrev i : ℕ
  i = X.number

  abbrev fs : List Frame
  fs = get_or Ms i []

  abbrev J : ℕ
  J = length (get_or Ms i []) - 1

  abbrev F : Frame
  F = frame_at Ms i (length (get_or Ms i []) - 1)

  abbrev sc : List (Ty × List Ty)
  sc = A F.function F.index

  abbrev ts : List Ty
  ts = current (A F.function F.index)

  -- tests: a no, and a yes
  pub answers : (t : Test) (a b : ℕ) → ((trial p m F.slots t).says ≡ true → Good X (Does (go p m fs (suc F.index) (trial p m F.slots t).slots (trial p m F.slots t).memory) None))
      → To p A F.function (suc F.index + a) (scopes A F.function F.index) → Good X (unless (first ((51, all_words (trial p m F.slots t).words) ∷ [])) (Does (way p m fs (Ask t a b)).change None))
  answers t a b agreed l = late X 51 (all_words (trial p m F.slots t).words) _ (omega arith) (cond_both (trial p m F.slots t).says (go p m fs (suc F.index) (trial p m F.slots t).slots (trial p m F.slots t).memory) (go p m fs (suc F.index + a) F.slots m)
      (λ c. Good X (Does c None)) agreed (λ _. goes X (suc F.index + a) F.slots m (mem m) None (t_stay (suc F.index + a) l.1) refl (base X).whole l.0 (placed X).slots))

  pub stays : To p A F.function (suc F.index) (scopes A F.function F.index) → Good X (Does (go p m fs (suc F.index) F.slots m) None)
  stays l = goes X (suc F.index) F.slots m (mem m) None (t_stay (suc F.index) l.1) refl (base X).whole l.0 (placed X).slots

  abbrev Asked : Test → ℕ → ℕ → Type 0
  Asked t a b = (threads room : ℕ) → Holds (asks p (callee p F.function) ts t) → Leads p A F.function F.index (Ask t a b) (shape (Ask t a b)) → Good X (taking p m fs threads room (Some (Ask t a b)))

  pub nil_good : (x a b : ℕ) → Asked (Nil x) a b
  nil_good x a b threads room h l =
      let u = operand X x h.0 in
      passes X (trial p m F.slots (Nil x)).asks _ (is_given X x u, (is_a_reference X x u (not-true _ h.1.0), tt)) (answers (Nil x) a b (λ _. stays l.0) l.1)

  pub same_good : (x y a b : ℕ) → Asked (Same x y) a b
  same_good x y a b threads room h l =
      let c = and_parts _ _ h.0 in
      let d = and_parts _ _ h.1.0 in
      let u = operand X x c.0 in
      let v = operand X y c.1 in
      passes X (trial p m F.slots (Same x y)).asks _ (and_from _ _ (is_given X x u) (is_given X y v), (and_from _ _ (is_a_reference X x u (not-true _ d.0)) (is_a_reference X y v (not-true _ d.1)), tt))
      (answers (Same x y) a b (λ _. stays l.0) l.1)

  pub equal_good : (x y a b : ℕ) → Asked (Equal x y) a b
  equal_good x y a b threads room h l =
      let c = and_parts _ _ h.0 in
      let d = and_parts _ _ h.1.0 in
      let u = operand X x c.0 in
      let v = operand X y c.1 in
      passes X (trial p m F.slots (Equal x y)).asks _ (and_from _ _ (is_given X x u) (is_given X y v), (and_from _ _ (is_a_number X x u d.0) (is_a_number X y v d.1), tt))
      (answers (Equal x y) a b (λ _. stays l.0) l.1)

  pub less_good : (x y a b : ℕ) → Asked (Less x y) a b
  less_good x y a b threads room h l =
      let c = and_parts _ _ h.0 in
      let d = and_parts _ _ h.1.0 in
      let u = operand X x c.0 in
      let v = operand X y c.1 in
      passes X (trial p m F.slots (Less x y)).asks _ (and_from _ _ (is_given X x u) (is_given X y v), (and_from _ _ (is_a_number X x u d.0) (is_a_number X y v d.1), tt))
      (answers (Less x y) a b (λ _. stays l.0) l.1)

  -- what is read of the cell x.f
  pub marked : (x f o : ℕ) (k : Bool) → value p m fs x ≡ V.Reference o → (cell p m (value p m fs x) f).mark ≡ k → (cell_at m o f).mark ≡ k
  marked x f o k e h = sym (ap (λ (c : Cell). c.mark) (cell_is p m (value p m fs x) o e f)) ∙ h

  pub worded : (x f o n : ℕ) → value p m fs x ≡ V.Reference o → (cell p m (value p m fs x) f).word ≡ n → (cell_at m o f).word ≡ n
  worded x f o n e h = sym (ap (λ (c : Cell). c.word) (cell_is p m (value p m fs x) o e f)) ∙ h

  pub left_null : (x f o : ℕ) (v : Slot) → Operand X x → value p m fs x ≡ V.Reference o → is_owned (Fd X x f).ty.kind ≡ true → left (field_type p m (value p m fs x) f) v ≡ V.Null
  left_null x f o v u e h = left_is X x f o v u e ∙ ap (λ (c : C.Content). spent c v) (field_owned (Fd X x f).ty.kind (Fd X x f).ty.strukt h)

  pub pointed : (x f : ℕ) → is_spec (Fd X x f).mode ≡ true → is_number (Fd X x f).ty.kind ≡ false
  pointed x f h = (ck X).pointing (Sd X x) f (or_right _ _ h)

  pub stable_good : (x f a b : ℕ) → Asked (Stable x f) a b
  stable_good x f a b threads room h l =
      let u = operand X x h.0 in
      let d = not_number_lasting (Kd X x) h.1.0 in
      let r = is_a_reference X x u d in
      let q = and_parts _ _ h.1.1.0 in
      passes X (trial p m F.slots (Stable x f)).asks _ (is_given X x u, (and_from _ _ r (rfs X x f u ((ck X).pointing (Sd X x) f q.1)), (fld X x f u q.0, (obj X x u, tt))))
      (unless_null X x r _ (λ o e. answers (Stable x f) a b
      (λ y. goes X (suc F.index) F.slots m (mem m) None
      (t_stable (suc F.index) x o f (ref_kind (Kd X x)) (Sd X x) (Wd X x) (with (Wd X x) f) (saved_at sc x) (plain (Kd X x) h.1.0) (refers_to X x u d o e) (marked x f o true e y) (with_core (Wd X x) f)
      (subst (Push X x) (kind_ref (Kd X x) (Sd X x) (with (Wd X x) f) d) l.0.1))
      refl (base X).whole l.0.0 (placed X).slots) l.1))

  pub fix_good : (x f y a b : ℕ) → Asked (Fix x f y) a b
  fix_good x f y a b threads room h l =
      let c = and_parts _ _ h.0 in
      let k = and_parts _ _ h.1.0 in
      let u = operand X x c.0 in
      let v = operand X y c.1 in
      let d = not_number_lasting (Kd X x) k.0 in
      let r = is_a_reference X x u d in
      let q = and_parts _ _ h.1.1.0 in
      passes X (trial p m F.slots (Fix x f y)).asks _
      (and_from _ _ (is_given X x u) (is_given X y v), (and_from _ _ (and_from _ _ r (is_a_reference X y v (not-true _ k.1))) (rfs X x f u (pointed x f q.1)), (fld X x f u q.0, (obj X x u, tt))))
      (unless_null X x r _ (λ o e. answers (Fix x f y) a b
      (λ s. goes X (suc F.index) F.slots (write p m (value p m fs x) f (word_of (value p m fs y)) true) (poke (mem m) o f (cell_at m o f).word true) None
      (t_fix (suc F.index) x o f (ref_kind (Kd X x)) (Sd X x) (Wd X x) (with (Wd X x) f) (saved_at sc x) (plain (Kd X x) k.0) (refers_to X x u d o e) (mode_spec (Fd X x f).mode q.1) (with_core (Wd X x) f)
      (subst (Push X x) (kind_ref (Kd X x) (Sd X x) (with (Wd X x) f) d) l.0.1))
      (wrote X x f o (word_of (value p m fs y)) true u e q.0 ∙ ap (λ (n : ℕ). poke (mem m) o f n true) (sym (worded x f o (word_of (value p m fs y)) e (eqb-true _ _ (and_parts _ _ s).1))))
      (whole_wrote X x f o (word_of (value p m fs y)) true u e) l.0.0 (placed X).slots) l.1))

  -- a yes that takes the value of y, or of w, and writes it to x.f
  pub spends : (x f o y n : ℕ) (v v' : Slot) (k : Bool) → Operand X x → value p m fs x ≡ V.Reference o → ltb f (length (get_or p.structs (Sd X x) [])) ≡ true → suc F.index < length (callee p F.function).records
      → v ≡ v' → (n' : ℕ) → n ≡ n' → Typed (structs_of p) (scopes A) Ms (mem m) i J (advance Ms i J (suc F.index) (set F.slots y v')) (poke (mem m) o f n' k)
      → Good X (Does (go p m fs (suc F.index) (set F.slots y v) (write p m (value p m fs x) f n k)) None)
  spends x f o y n v v' k u e low l ev n' en t =
      goes X (suc F.index) (set F.slots y v) (write p m (value p m fs x) f n k) (poke (mem m) o f n' k) None
      (subst (λ (c : Slot). Typed (structs_of p) (scopes A) Ms (mem m) i J (advance Ms i J (suc F.index) (set F.slots y c)) (poke (mem m) o f n' k)) (sym ev) t)
      (wrote X x f o n k u e low ∙ ap (λ (c : ℕ). poke (mem m) o f c k) en) (whole_wrote X x f o n k u e) l (length-set F.slots y v ∙ (placed X).slots)

  pub try_good : (x f y a b : ℕ) → Asked (Try x f y) a b
  try_good x f y a b threads room h l =
      let c = and_parts _ _ h.0 in
      let c' = and_parts _ _ c.0 in
      let n : ¬ (x ≡ y) = eqb-false x y (not-true _ c.1) in
      let k = and_parts _ _ h.1.0 in
      let u = operand X x c'.0 in
      let v = operand X y c'.1 in
      let d = not_number_lasting (Kd X x) k.0 in
      let r = is_a_reference X x u d in
      let q = and_parts _ _ h.1.1.0 in
      let w0 : Wd X y ≡ 0 = eqb-true _ _ h.1.1.1.0 in
      let fl = h.1.1.1.1.0 in
      let ow = owned_from_pristine (Kd X y) (Fd X x f).ty.kind (Wd X y) (Fd X x f).ty.withheld (by_flow (slot ts y) (Fd X x f).ty fl) k.1 ((ck X).lasting (Sd X x) f) in
      passes X (trial p m F.slots (Try x f y)).asks _
      (and_from _ _ (is_given X x u) (is_given X y v), (and_from _ _ (and_from _ _ r (is_a_reference X y v (not_number_pristine (Kd X y) k.1))) (rfs X x f u ((ck X).pointing (Sd X x) f (or_left _ _ q.1))), (fld X x f u q.0, (obj X x u, tt))))
      (unless_null X x r _ (λ o e. answers (Try x f y) a b
      (λ s. spends x f o y (word_of (value p m fs y)) (left (field_type p m (value p m fs x) f) (value p m fs y)) V.Null true u e q.0 l.0.0 (left_null x f o (value p m fs y) u e ow) (word_of (value p m fs y)) refl
      (t_try (suc F.index) x y o f (ref_kind (Kd X x)) (Sd X x) (Wd X x) (with (Wd X x) f) (Sd X y) (value p m fs y) (saved_at sc x) (saved_at sc y) n (plain (Kd X x) k.0) (refers_to X x u d o e)
      (holds_as X y v (value p m fs y) refl (C.pt C.pristine (Sd X y) 0) (kind_pristine (Kd X y) (Sd X y) (Wd X y) k.1 ∙ ap (λ (w : ℕ). C.pt C.pristine (Sd X y) w) w0))
      (mode_once (Fd X x f).mode q.1) (field_owned (Fd X x f).ty.kind (Fd X x f).ty.strukt ow ∙ ap C.fowned (sym (same_struct (slot ts y) (Fd X x f).ty fl))) (with_core (Wd X x) f) (marked x f o false e (not-true _ (and_parts _ _ s).0))
      (subst (Push X x) (kind_ref (Kd X x) (Sd X x) (with (Wd X x) f) d) l.0.1))) l.1))

  pub swap_good : (x f y w a b : ℕ) → Asked (Swap x f y w) a b
  swap_good x f y w a b threads room h l =
      let c₁ = and_parts _ _ h.0 in
      let c₂ = and_parts _ _ c₁.0 in
      let c₃ = and_parts _ _ c₂.0 in
      let c₄ = and_parts _ _ c₃.0 in
      let c₅ = and_parts _ _ c₄.0 in
      let n : ¬ (w ≡ y) = (λ e. eqb-false y w (not-true _ c₁.1) (sym e)) in
      let k = and_parts _ _ h.1.0 in
      let u = operand X x c₅.0 in
      let v = operand X y c₅.1 in
      let o' = operand X w c₄.1 in
      let d = not_number_lasting (Kd X x) k.0 in
      let r = is_a_reference X x u d in
      let q = and_parts _ _ h.1.1.0 in
      let g = and_parts _ _ h.1.1.1.0 in
      let nn = pointed x f q.1 in
      let rw' = is_a_reference X w o' (number_into (Kd X w) (Fd X x f).ty.kind (Wd X w) (Fd X x f).ty.withheld (by_flow (slot ts w) (Fd X x f).ty g.1) nn) in
      passes X (trial p m F.slots (Swap x f y w)).asks _ (
        and_from _ _ (and_from _ _ (is_given X x u) (is_given X y v)) (is_given X w o'),
        (and_from _ _ (and_from _ _ (and_from _ _ r (is_a_reference X y v (not_number_alias (Kd X y) k.1))) rw') (rfs X x f u nn), (fld X x f u q.0, (obj X x u, tt))),
      )
      (unless_null X x r _ (λ o e. answers (Swap x f y w) a b
      (λ s. let hs = and_parts _ _ s in
      spends x f o w (word_of (value p m fs w)) (left (field_type p m (value p m fs x) f) (value p m fs w)) (spent (core_field (Fd X x f).ty) (value p m fs w)) false u e q.0 l.0.0 (left_is X x f o (value p m fs w) u e) (word_of (value p m fs w)) refl
      (t_swap (suc F.index) x y w o f (ref_kind (Kd X x)) (Sd X x) (Wd X x) (Sd X y) (Wd X y) (value p m fs y) (value p m fs w) (core (slot ts w)) (saved_at sc x) (saved_at sc y) (saved_at sc w) n (plain (Kd X x) k.0) (refers_to X x u d o e)
      (holds_as X y v (value p m fs y) refl (C.pt C.alias (Sd X y) (Wd X y)) (kind_alias (Kd X y) (Sd X y) (Wd X y) k.1)) o'.at (mode_spec (Fd X x f).mode q.1)
      (ref_to (Fd X x f).ty.kind (Fd X x f).ty.strukt (Sd X y) nn (sym (eqb-true _ _ g.0))) (flow_in X (slot ts w) x f g.1) (marked x f o false e (not-true _ hs.0)) (worded x f o (word_of (value p m fs y)) e (eqb-true _ _ hs.1))
      (subst (Push X y) (sym (ty_core (Fd X x f).ty ((ck X).lasting (Sd X x) f) ((ck X).bare (Sd X x) f))) l.0.1))) l.1))

  pub link_good : (x f y g a b : ℕ) → Asked (Link x f y g) a b
  link_good x f y g a b threads room h l =
      let c = and_parts _ _ h.0 in
      let c' = and_parts _ _ c.0 in
      let n : ¬ (x ≡ y) = eqb-false x y (not-true _ c.1) in
      let k = and_parts _ _ h.1.0 in
      let u = operand X x c'.0 in
      let v = operand X y c'.1 in
      let d = not_number_lasting (Kd X x) k.0 in
      let r = is_a_reference X x u d in
      let dy = not_number_pristine (Kd X y) k.1 in
      let ry = is_a_reference X y v dy in
      let q₁ = and_parts _ _ h.1.1.0 in
      let q₂ = and_parts _ _ q₁.0 in
      let q₃ = and_parts _ _ q₂.0 in
      let ws : Wd X y ≡ 2 ^ g = eqb-true _ _ h.1.1.1.0 in
      let t₁ = and_parts _ _ h.1.1.1.1.0 in
      let t₂ = and_parts _ _ t₁.0 in
      let lone = subst (λ (w : ℕ). Rattle.safety.specs.Fields.Alone w g) (sym ws) (alone g) in
      let og = withheld_owned (Kd X y) (Fd X y g) k.1 (may_field p.structs (slot ts y) g ((fine X).kept y) lone.has) in
      let es : (Fd X x f).ty.strukt ≡ Sd X y = eqb-true _ _ t₂.1 in
      passes X (trial p m F.slots (Link x f y g)).asks _ (
        and_from _ _ (is_given X x u) (is_given X y v),
        (
          and_from _ _ (and_from _ _ (and_from _ _ r ry) (rfs X x f u (not_number_held _ (or_left _ _ t₂.0)))) (rfs X y g v (not_number_held _ (or_left _ _ og))),
          (and_from _ _ (fld X x f u q₃.0) (fld X y g v q₂.1), (and_from _ _ (obj X x u) (obj X y v), tt)),
        ),
      )
      (unless_nulls X x y r ry _ (λ o q e e'. answers (Link x f y g) a b
      (λ s. let hs = and_parts _ _ s in
      spends x f o y (word_of (value p m fs y)) (left (field_type p m (value p m fs x) f) (value p m fs y)) V.Null false u e q₃.0 l.0.0 (left_null x f o (value p m fs y) u e t₂.0) (suc q) (ap word_of e')
      (t_link (suc F.index) x y o f q g (ref_kind (Kd X x)) (Sd X x) (Wd X x) (Sd X y) (Wd X y) (saved_at sc x) (saved_at sc y) n (plain (Kd X x) k.0) (refers_to X x u d o e)
      (holds_as X y v (V.Reference q) e' (C.pt C.pristine (Sd X y) (Wd X y)) (kind_pristine (Kd X y) (Sd X y) (Wd X y) k.1)) (mode_spec (Fd X x f).mode q₃.1) (mode_val (Fd X y g).mode q₁.1)
      (field_owned (Fd X x f).ty.kind (Fd X x f).ty.strukt t₂.0 ∙ ap C.fowned es)
      (field_owned (Fd X y g).ty.kind (Fd X y g).ty.strukt og ∙ ap C.fowned (sym (same_struct (Fd X x f).ty (Fd X y g).ty t₁.1) ∙ es)) lone
      (marked x f o false e (not-true _ hs.0)) (worded x f o (cell_at m q g).word e (eqb-true _ _ hs.1 ∙ ap (λ (c : Cell). c.word) (cell_is p m (value p m fs y) q e' g))) l.0.1)) l.1))

  pub unlink_good : (x f y g a b : ℕ) → Asked (Unlink x f y g) a b
  unlink_good x f y g a b threads room h l =
      let c = and_parts _ _ h.0 in
      let c' = and_parts _ _ c.0 in
      let k = and_parts _ _ h.1.0 in
      let u = operand X x c'.0 in
      let v = operand X y c'.1 in
      let d = not_number_lasting (Kd X x) k.0 in
      let r = is_a_reference X x u d in
      let dy = not_number_alias (Kd X y) k.1 in
      let ry = is_a_reference X y v dy in
      let q₁ = and_parts _ _ h.1.1.0 in
      let q₂ = and_parts _ _ q₁.0 in
      let q₃ = and_parts _ _ q₂.0 in
      let t = and_parts _ _ h.1.1.1.1.0 in
      let nn = pointed x f q₃.1 in
      let fb = by_flow (Fd X y g).ty (Fd X x f).ty t.1 in
      let ng = number_into (Fd X y g).ty.kind (Fd X x f).ty.kind (Fd X y g).ty.withheld (Fd X x f).ty.withheld fb nn in
      let es : (Fd X x f).ty.strukt ≡ Sd X y = sym (eqb-true _ _ t.0) in
      let eg : (Fd X y g).ty.strukt ≡ Sd X y = same_struct (Fd X y g).ty (Fd X x f).ty t.1 ∙ es in
      let stable : ((Fd X y g).mode ≡ Val) ⊎ Has (Wd X y) g = elim (or_cases _ _ h.1.1.1.0) [ inl z ↦ inl (mode_val (Fd X y g).mode z) | inr z ↦ inr (eqb-true _ _ z) ] in
      passes X (trial p m F.slots (Unlink x f y g)).asks _ (
        and_from _ _ (is_given X x u) (is_given X y v),
        (and_from _ _ (and_from _ _ (and_from _ _ r ry) (rfs X x f u nn)) (rfs X y g v ng), (and_from _ _ (fld X x f u q₃.0) (fld X y g v q₂.1), (and_from _ _ (obj X x u) (obj X y v), tt))),
      )
      (unless_nulls X x y r ry _ (λ o q e e'. answers (Unlink x f y g) a b
      (λ s. let hs = and_parts _ _ s in
      let mk = marked x f o false e (not-true _ hs.0) in
      let wd : (cell_at m o f).word ≡ suc q = worded x f o (suc q) e (eqb-true _ _ hs.1 ∙ ap word_of e') in
      let hy = holds_as X y v (V.Reference q) e' (C.pt C.alias (Sd X y) (Wd X y)) (kind_alias (Kd X y) (Sd X y) (Wd X y) k.1) in
      goes X (suc F.index) F.slots (write p m (value p m fs x) f (cell p m (value p m fs y) g).word false) (poke (mem m) o f (cell_at m q g).word false) None
      (elim (cases_Bool (is_owned (Fd X x f).ty.kind)) [
        | inl ow ↦ t_unlink (suc F.index) x y o f q g (ref_kind (Kd X x)) (Sd X x) (Wd X x) (Sd X y) (Wd X y) (2 ^ g) (saved_at sc x) (saved_at sc y) (plain (Kd X x) k.0) (refers_to X x u d o e) hy (mode_spec (Fd X x f).mode q₃.1) stable
            (field_owned (Fd X x f).ty.kind (Fd X x f).ty.strukt ow ∙ ap C.fowned es)
            (field_owned (Fd X y g).ty.kind (Fd X y g).ty.strukt (owned_into_owned (Fd X y g).ty.kind (Fd X x f).ty.kind (Fd X y g).ty.withheld (Fd X x f).ty.withheld fb ow ((ck X).lasting (Sd X y) g)) ∙ ap C.fowned eg)
            (alone g) mk wd (subst (Push X y) (kind_owned (Fd X x f).ty.kind (Fd X x f).ty.strukt (2 ^ g) ow ∙ ap (λ (s : ℕ). C.pt C.owned s (2 ^ g)) es) l.0.1)
        | inr no' ↦ (let al = alias_left (Fd X x f).ty.kind nn ((ck X).lasting (Sd X x) f) no' in
            t_unlink_alias (suc F.index) x y o f q g (ref_kind (Kd X x)) (Sd X x) (Wd X x) (Sd X y) (Wd X y) (2 ^ g) (saved_at sc x) (saved_at sc y) (plain (Kd X x) k.0) (refers_to X x u d o e) hy (mode_spec (Fd X x f).mode q₃.1) stable
            (field_alias (Fd X x f).ty.kind (Fd X x f).ty.strukt al ∙ ap C.falias es) (ref_to (Fd X y g).ty.kind (Fd X y g).ty.strukt (Sd X y) ng eg)
            (alone g) mk wd (subst (Push X y) (kind_alias (Fd X x f).ty.kind (Fd X x f).ty.strukt (2 ^ g) al ∙ ap (λ (s : ℕ). C.pt C.alias s (2 ^ g)) es) l.0.1))
      ])
      (wrote X x f o (cell p m (value p m fs y) g).word false u e q₃.0 ∙ ap (λ (n : ℕ). poke (mem m) o f n false) (ap (λ (c : Cell). c.word) (cell_is p m (value p m fs y) q e' g)))
      (whole_wrote X x f o (cell p m (value p m fs y) g).word false u e) l.0.0 (placed X).slots) l.1))
