-- Records that bind a slot, emit and join: each keeps what is kept, and is never stuck.
use Rattle.std.proofs.Common.{◌≡◌, ℕ, suc, ◌+◌, ◌-◌, ◌%◌, ◌^◌, ◌<◌, true, false, ltb, ◌⊎◌, List, [], ◌∷◌, length, get_or, set, Some, None, sym, refl, ap, ◌∙◌, subst, inl, inr, arith}
use Rattle.std.proofs.lemmas.List.{length-set}
use Rattle.std.proofs.lemmas.Bool.{eqb-true, eqb-false, ltb-true, and_parts, and_from, or_cases, or_left, not-true, cond-true, cond-false, cases_Bool}
use Rattle.table.specs.declared.types.Ty.{Ty}
use Rattle.table.specs.declared.types.Field.{Field}
use Rattle.table.specs.Program.{Program}
use Rattle.table.specs.Types.{is_alias, is_owned, is_var}
use Rattle.table.specs.Records.{New, Null, Int, Share, Own, Get, Take, Set, Add, Join, Emit}
use Rattle.rules.specs.Rules.{callee, slot, free, flows, premises, without, with, tentative}
use Rattle.rules.specs.Scopes.{shape}
use Rattle.rules.specs.Laws.{Holds}
use Rattle.memory.specs.Model.{Store, count_of, with_object}
use Rattle.machine.specs.declared.threads.Slot.{Slot}
use Rattle.machine.specs.declared.threads.Slot.TheVariants as V
use Rattle.machine.specs.Values.{word_of, suits, left, value_of}
use Rattle.machine.specs.declared.threads.Frame.{Frame}
use Rattle.machine.specs.Ways.{value, way}
use Rattle.machine.specs.Steps.{Does, taking, all_words}
use Rattle.machine.specs.Reading.{field_type, cell, write}
use Rattle.safety.specs.Model as C
use Rattle.safety.specs.Fields.{Flows, ty_of, spent}
use Rattle.safety.specs.Step.{Mem, poke}
use Rattle.safety.specs.Threads.{frame_at, advance}
use Rattle.safety.specs.Typed.{Typed, fresh, t_stay, t_number, t_null, t_new, t_share, t_own, t_get, t_take, t_set, t_tentative}
use Rattle.safety.specs.Checked.{by_kind, core, core_field, structs_of, Notes, current, scopes, Leads}
use Rattle.safety.proofs.Images.{mem, mem_added, whole_added}
use Rattle.safety.proofs.Meaning.{never, flow_core, ty_core, left_core, without_core, with_core}
use Rattle.safety.proofs.Ground.{saved_at, ref_kind, kind_ref, kind_pristine, kind_alias, field_is, got_is, of_field}
use Rattle.safety.proofs.Tells.{not_number_pristine, not_number_alias, not_number_held, mode_var, not_var, not_once, writable, not_pristine, field_owned, shared_core, lent_core, low_rank, suits_flow, fits_suits}
use Rattle.safety.proofs.Poised.{Poised, Bnd, Fd, Good, Kd, Operand, Sd, Wd, base, binding, ck, fine, fld, goes, holds_as, is_a_number, is_a_reference, is_given, late, low_fresh, obj, operand, passes, placed, refers_to, slot_low, struct_at, unless_null, whole_wrote, wrote}

module _ (X : Poised) where
  abbrev p : Program
  p = X.program

  abbrev A : Notes
  A = X.notes

  abbrev Ms : List (List Frame)
  Ms = X.threads

  abbrev m : Store
  m = X.memory

  abbrev i : ℕ
  i = X.number

  abbrev fs : List Frame
  fs = get_or Ms i []

  abbrev J : ℕ
  J = length (get_or Ms i []) - 1

  abbrev F : Frame
  F = frame_at Ms i (length (get_or Ms i []) - 1)

  abbrev sc : List (Ty × List Ty)
  sc = A F.function F.index

  abbrev ts : List Ty
  ts = current (A F.function F.index)

  -- int, null, new, share, own, add, emit, join
  pub int_good : (z n threads room : ℕ) → Holds (premises p (callee p F.function) ts (Int z n)) → Leads p A F.function F.index (Int z n) (shape (Int z n)) → Good X (taking p m fs threads room (Some (Int z n)))
  int_good z n threads room h l = passes X (way p m fs (Int z n)).asks _ (slot_low X z h.0, tt)
      (binding X z h.0 F.slots (V.Number n) m (mem m) None (t_number (suc F.index) n (low_fresh X z h.0) l.1) refl (base X).whole l.0 (placed X).slots)

  pub null_good : (z s threads room : ℕ) → Holds (premises p (callee p F.function) ts (Null z s)) → Leads p A F.function F.index (Null z s) (shape (Null z s)) → Good X (taking p m fs threads room (Some (Null z s)))
  null_good z s threads room h l = passes X (way p m fs (Null z s)).asks _ (slot_low X z h.0, (h.1.0, tt))
      (binding X z h.0 F.slots V.Null m (mem m) None (t_null (suc F.index) s (low_fresh X z h.0) l.1) refl (base X).whole l.0 (placed X).slots)

  pub new_good : (z s threads room : ℕ) → Holds (premises p (callee p F.function) ts (New z s)) → Leads p A F.function F.index (New z s) (shape (New z s)) → Good X (taking p m fs threads room (Some (New z s)))
  new_good z s threads room h l = passes X (way p m fs (New z s)).asks _ (slot_low X z h.0, (h.1.0, tt))
      (late X 65 (ltb (count_of m) m.capacity) _ (omega arith)
      (binding X z h.0 F.slots (V.Reference (count_of m)) (with_object m s) (mem (with_object m s)) None
      (subst (λ (Q : Mem). Typed (structs_of p) (scopes A) Ms (mem m) i J (advance Ms i J (suc F.index) (set F.slots (fresh (structs_of p) (scopes A) Ms i J) (V.Reference (count_of m)))) Q) (sym (mem_added m s))
      (t_new (suc F.index) s (low_fresh X z h.0) l.1)) refl (whole_added m s (base X).whole) l.0 (placed X).slots))

  pub share_good : (z x threads room : ℕ) → Holds (premises p (callee p F.function) ts (Share z x)) → Leads p A F.function F.index (Share z x) (shape (Share z x)) → Good X (taking p m fs threads room (Some (Share z x)))
  share_good z x threads room h l =
      let u = operand X x h.1.0 in
      passes X (way p m fs (Share z x)).asks _ (and_from _ _ (slot_low X z h.0) (is_given X x u), tt)
      (binding X z h.0 F.slots (value p m fs x) m (mem m) None
      (t_share (suc F.index) x (value p m fs x) (core (slot ts x)) (saved_at sc x) (low_fresh X z h.0) u.at (low_rank (Kd X x) (Sd X x) (Wd X x) (not-true _ h.1.1.0))
      (subst (Bnd X) (sym (shared_core (Kd X x) (Sd X x) (Wd X x))) l.1)) refl (base X).whole l.0 (placed X).slots)

  pub own_good : (z x threads room : ℕ) → Holds (premises p (callee p F.function) ts (Own z x)) → Leads p A F.function F.index (Own z x) (shape (Own z x)) → Good X (taking p m fs threads room (Some (Own z x)))
  own_good z x threads room h l =
      let u = operand X x h.1.0 in
      passes X (way p m fs (Own z x)).asks _ (and_from _ _ (slot_low X z h.0) (is_given X x u), (is_a_reference X x u (not_number_pristine (Kd X x) h.1.1.0), tt))
      (binding X z h.0 (set F.slots x V.Null) (value p m fs x) m (mem m) None
      (t_own (suc F.index) x (Sd X x) (value p m fs x) (saved_at sc x) (low_fresh X z h.0)
      (holds_as X x u (value p m fs x) refl (C.pt C.pristine (Sd X x) 0) (kind_pristine (Kd X x) (Sd X x) (Wd X x) h.1.1.0 ∙ ap (λ (w : ℕ). C.pt C.pristine (Sd X x) w) (eqb-true (Wd X x) 0 h.1.1.1.0))) l.1)
      refl (base X).whole l.0 (length-set F.slots x V.Null ∙ (placed X).slots))

  pub add_good : (z x y threads room : ℕ) → Holds (premises p (callee p F.function) ts (Add z x y)) → Leads p A F.function F.index (Add z x y) (shape (Add z x y)) → Good X (taking p m fs threads room (Some (Add z x y)))
  add_good z x y threads room h l =
      let a = and_parts _ _ h.1.0 in
      let k = and_parts _ _ h.1.1.0 in
      let u = operand X x a.0 in
      let v = operand X y a.1 in
      passes X (way p m fs (Add z x y)).asks _ (and_from _ _ (and_from _ _ (slot_low X z h.0) (is_given X x u)) (is_given X y v), (and_from _ _ (is_a_number X x u k.0) (is_a_number X y v k.1), tt))
      (binding X z h.0 F.slots (V.Number ((word_of (value p m fs x) + word_of (value p m fs y)) % 2 ^ 31)) m (mem m) None
      (t_number (suc F.index) ((word_of (value p m fs x) + word_of (value p m fs y)) % 2 ^ 31) (low_fresh X z h.0) l.1) refl (base X).whole l.0 (placed X).slots)

  pub emit_good : (x threads room : ℕ) → Holds (premises p (callee p F.function) ts (Emit x)) → Leads p A F.function F.index (Emit x) (shape (Emit x)) → Good X (taking p m fs threads room (Some (Emit x)))
  emit_good x threads room h l =
      let u = operand X x h.0 in
      passes X (way p m fs (Emit x)).asks _ (is_given X x u, (is_a_number X x u h.1.0, tt))
      (late X 68 (ltb 0 room) _ (omega arith) (goes X (suc F.index) F.slots m (mem m) (Some (word_of (value p m fs x))) (t_stay (suc F.index) l.1) refl (base X).whole l.0 (placed X).slots))

  pub join_good : (n threads room : ℕ) → Leads p A F.function F.index (Join n) (shape (Join n)) → Good X (taking p m fs threads room (Some (Join n)))
  join_good n threads room l = goes X (suc F.index + n) F.slots m (mem m) None (t_stay (suc F.index + n) l.1) refl (base X).whole l.0 (placed X).slots

  -- get, take
  pub get_good : (z x f threads room : ℕ) → Holds (premises p (callee p F.function) ts (Get z x f)) → Leads p A F.function F.index (Get z x f) (shape (Get z x f)) → Good X (taking p m fs threads room (Some (Get z x f)))
  get_good z x f threads room h l =
      let u = operand X x h.1.0 in
      let d = not-true _ h.1.1.0 in
      let r = is_a_reference X x u d in
      passes X (way p m fs (Get z x f)).asks _ (and_from _ _ (slot_low X z h.0) (is_given X x u), (r, (fld X x f u h.1.1.1.0, (obj X x u, tt))))
      (unless_null X x r _ (λ o e.
      binding X z h.0 F.slots (value_of (field_type p m (value p m fs x) f) (cell p m (value p m fs x) f).word) m (mem m) None
      (subst (λ (v : Slot). Typed (structs_of p) (scopes A) Ms (mem m) i J (advance Ms i J (suc F.index) (set F.slots (fresh (structs_of p) (scopes A) Ms i J) v)) (mem m))
      (sym (got_is p m (value p m fs x) o e (Sd X x) f (struct_at X x u o e).1))
      (t_get (suc F.index) x o f (ref_kind (Kd X x)) (Sd X x) (Wd X x) (saved_at sc x) (low_fresh X z h.0) (refers_to X x u d o e) (subst (Bnd X) (sym (lent_core (Fd X x f).ty.kind (Fd X x f).ty.strukt)) l.1)))
      refl (base X).whole l.0 (placed X).slots))

  pub take_good : (z x f threads room : ℕ) → Holds (premises p (callee p F.function) ts (Take z x f)) → Leads p A F.function F.index (Take z x f) (shape (Take z x f)) → Good X (taking p m fs threads room (Some (Take z x f)))
  take_good z x f threads room h l =
      let u = operand X x h.1.0 in
      let d = not_number_held (Kd X x) h.1.1.0 in
      let r = is_a_reference X x u d in
      let q = and_parts _ _ h.1.1.1.0 in
      passes X (way p m fs (Take z x f)).asks _ (and_from _ _ (slot_low X z h.0) (is_given X x u), (r, (fld X x f u q.0, (obj X x u, tt))))
      (unless_null X x r _ (λ o e.
      binding X z h.0 F.slots (value_of (field_type p m (value p m fs x) f) (cell p m (value p m fs x) f).word) (write p m (value p m fs x) f 0 false) (poke (mem m) o f 0 false) None
      (subst (λ (v : Slot). Typed (structs_of p) (scopes A) Ms (mem m) i J (advance Ms i J (suc F.index) (set F.slots (fresh (structs_of p) (scopes A) Ms i J) v)) (poke (mem m) o f 0 false))
      (sym (got_is p m (value p m fs x) o e (Sd X x) f (struct_at X x u o e).1))
      (t_take (suc F.index) x o f (ref_kind (Kd X x)) (Sd X x) (Wd X x) (saved_at sc x) (low_fresh X z h.0) (refers_to X x u d o e) (mode_var (Fd X x f).mode q.1)
      (subst (Bnd X) (sym (ty_core (Fd X x f).ty ((ck X).lasting (Sd X x) f) ((ck X).bare (Sd X x) f))) l.1)))
      (wrote X x f o 0 false u e q.0) (whole_wrote X x f o 0 false u e) l.0 (placed X).slots))

  -- a tentative write: the field is not var and owned, y is an alias of its struct
  pub is_tentative : (x f y : ℕ) → (flows (slot ts y) (Fd X x f).ty ≡ true) ⊎ (tentative p (callee p F.function) ts x f y ≡ true) → flows (slot ts y) (Fd X x f).ty ≡ false
      → (is_var (Fd X x f).mode ≡ false) × (is_owned (Fd X x f).ty.kind ≡ true) × (is_alias (Kd X y) ≡ true) × (Sd X y ≡ (Fd X x f).ty.strukt)
  is_tentative x f y (inl w) n = never (sym n ∙ w)
  is_tentative x f y (inr t) n =
      let a = and_parts _ _ t in
      let b = and_parts _ _ a.0 in
      let c = and_parts _ _ b.0 in
      let d = and_parts _ _ c.0 in
      (not-true _ d.0, d.1, c.1, eqb-true _ _ b.1)

  pub tentative_suits : (x f y : ℕ) → Operand X y → (flows (slot ts y) (Fd X x f).ty ≡ true) ⊎ (tentative p (callee p F.function) ts x f y ≡ true) → flows (slot ts y) (Fd X x f).ty ≡ false
      → suits (Fd X x f).ty (value p m fs y) ≡ true
  tentative_suits x f y v o n =
      let t = is_tentative x f y o n in
      cond-false _ _ _ (not_number_held _ (or_left _ _ t.1)) ∙ is_a_reference X y v (not_number_alias (Kd X y) t.2)

  -- set: a value that flows, and a tentative one
  pub left_is : (x f o : ℕ) (v : Slot) → Operand X x → value p m fs x ≡ V.Reference o → left (field_type p m (value p m fs x) f) v ≡ spent (core_field (Fd X x f).ty) v
  left_is x f o v u e = ap (λ (t : Field). left t.ty v) (field_is p m (value p m fs x) o e (Sd X x) f (struct_at X x u o e).1) ∙ left_core (Fd X x f).ty v

  pub flow_in : (t : Ty) (x f : ℕ) → flows t (Fd X x f).ty ≡ true → Flows (core t) (ty_of (core_field (Fd X x f).ty))
  flow_in t x f h = subst (λ (c : C.Claim). Flows (core t) c) (sym (ty_core (Fd X x f).ty ((ck X).lasting (Sd X x) f) ((ck X).bare (Sd X x) f))) (flow_core t (Fd X x f).ty h)

  -- z gets x's reference, with another set
  pub rebound : (z x f y o : ℕ) → free p (callee p F.function) ts z ≡ true → Operand X x → value p m fs x ≡ V.Reference o → ltb f (length (get_or p.structs (Sd X x) [])) ≡ true → suc F.index < length (callee p F.function).records
      → Typed (structs_of p) (scopes A) Ms (mem m) i J
      (advance Ms i J (suc F.index) (set (set (set F.slots y (spent (core_field (Fd X x f).ty) (value p m fs y))) x V.Null) (fresh (structs_of p) (scopes A) Ms i J) (V.Reference o))) (poke (mem m) o f (word_of (value p m fs y)) false)
      → Good X (Does (way p m fs (Set z x f y)).change None)
  rebound z x f y o h u e low l t =
      binding X z h (set (set F.slots y (left (field_type p m (value p m fs x) f) (value p m fs y))) x V.Null) (value p m fs x) (write p m (value p m fs x) f (word_of (value p m fs y)) false)
      (poke (mem m) o f (word_of (value p m fs y)) false) None
      (subst (λ (v : Slot). Typed (structs_of p) (scopes A) Ms (mem m) i J (advance Ms i J (suc F.index) (set (set (set F.slots y v) x V.Null) (fresh (structs_of p) (scopes A) Ms i J) (value p m fs x))) (poke (mem m) o f (word_of (value p m fs y)) false))
      (sym (left_is x f o (value p m fs y) u e))
      (subst (λ (v : Slot). Typed (structs_of p) (scopes A) Ms (mem m) i J (advance Ms i J (suc F.index) (set (set (set F.slots y (spent (core_field (Fd X x f).ty) (value p m fs y))) x V.Null) (fresh (structs_of p) (scopes A) Ms i J) v)) (poke (mem m) o f (word_of (value p m fs y)) false))
      (sym e) t))
      (wrote X x f o (word_of (value p m fs y)) false u e low) (whole_wrote X x f o (word_of (value p m fs y)) false u e) l
      (length-set (set F.slots y (left (field_type p m (value p m fs x) f) (value p m fs y))) x V.Null ∙ length-set F.slots y (left (field_type p m (value p m fs x) f) (value p m fs y)) ∙ (placed X).slots)

  pub set_good : (z x f y threads room : ℕ) → Holds (premises p (callee p F.function) ts (Set z x f y)) → Leads p A F.function F.index (Set z x f y) (shape (Set z x f y)) → Good X (taking p m fs threads room (Some (Set z x f y)))
  set_good z x f y threads room h l =
      let a = and_parts _ _ h.1.0 in
      let b = and_parts _ _ a.0 in
      let u = operand X x b.0 in
      let v = operand X y b.1 in
      let n : ¬ (x ≡ y) = eqb-false x y (not-true _ a.1) in
      let hd = h.1.1.0 in
      let d = not_number_held (Kd X x) hd in
      let r = is_a_reference X x u d in
      let q = and_parts _ _ h.1.1.1.0 in
      let f8 : f < 8 = (let c = ltb-true f _ q.0 in let e = (ck X).narrow (Sd X x) in omega arith) in
      let either = cases_Bool (flows (slot ts y) (Fd X x f).ty) in
      let suit : suits (Fd X x f).ty (value p m fs y) ≡ true = elim either [
        | inl w ↦ suits_flow (slot ts y) (Fd X x f).ty (value p m fs y) w (fits_suits (mem m) (value p m fs y) (slot ts y) v.fits)
        | inr w ↦ tentative_suits x f y v (or_cases _ _ h.1.1.1.1.0) w
      ] in
      passes X (way p m fs (Set z x f y)).asks _ (
        and_from _ _ (and_from _ _ (slot_low X z h.0) (is_given X x u)) (is_given X y v),
        (and_from _ _ r (of_field p m (value p m fs x) (Kd X x) (Sd X x) (Wd X x) u.fits f (λ (g : Field). suits g.ty (value p m fs y)) suit), (fld X x f u q.0, (obj X x u, tt))),
      )
      (unless_null X x r _ (λ o e. late X 51 (all_words (word_of (value p m fs y) ∷ [])) _ (omega arith) (elim either [
        | inl w ↦ rebound z x f y o h.0 u e q.0 l.0
            (t_set (suc F.index) x y o f (ref_kind (Kd X x)) (Sd X x) (Wd X x) (without (Wd X x) f) (value p m fs y) (core (slot ts y)) (saved_at sc x) (saved_at sc y) (low_fresh X z h.0) n (refers_to X x u d o e) v.at
            (writable (Kd X x) (Fd X x f).mode hd q.1) (flow_in (slot ts y) x f w) (without_core p.structs (slot ts x) f ((fine X).kept x) ((ck X).narrow (Sd X x)) f8)
            (subst (Bnd X) (ap (λ (c : ℕ). by_kind (Kd X x) (Sd X x) c) (cond-true _ (without (Wd X x) f) (with (Wd X x) f) w) ∙ kind_ref (Kd X x) (Sd X x) (without (Wd X x) f) d) l.1))
        | inr w ↦
            let t = is_tentative x f y (or_cases _ _ h.1.1.1.1.0) w in
            let pr = not_pristine (Kd X x) (Fd X x f).mode hd q.1 t.0 in
            rebound z x f y o h.0 u e q.0 l.0
            (subst (λ (c : C.Content). Typed (structs_of p) (scopes A) Ms (mem m) i J (advance Ms i J (suc F.index) (set (set (set F.slots y (spent c (value p m fs y))) x V.Null) (fresh (structs_of p) (scopes A) Ms i J) (V.Reference o))) (poke (mem m) o f (word_of (value p m fs y)) false))
            (sym (field_owned (Fd X x f).ty.kind (Fd X x f).ty.strukt t.1))
            (t_tentative (suc F.index) x y o f (Sd X x) (Wd X x) (with (Wd X x) f) (Sd X y) (Wd X y) (value p m fs y) (saved_at sc x) (saved_at sc y) (low_fresh X z h.0) n
            (holds_as X x u (V.Reference o) e (C.pt C.pristine (Sd X x) (Wd X x)) (kind_pristine (Kd X x) (Sd X x) (Wd X x) pr.0)) (holds_as X y v (value p m fs y) refl (C.pt C.alias (Sd X y) (Wd X y)) (kind_alias (Kd X y) (Sd X y) (Wd X y) t.2))
            (not_var (Fd X x f).mode t.0) (not_once (Fd X x f).mode pr.1) (field_owned (Fd X x f).ty.kind (Fd X x f).ty.strukt t.1 ∙ ap C.fowned (sym t.3)) (with_core (Wd X x) f)
            (subst (Bnd X) (ap (λ (c : ℕ). by_kind (Kd X x) (Sd X x) c) (cond-false _ (without (Wd X x) f) (with (Wd X x) f) w) ∙ kind_pristine (Kd X x) (Sd X x) (with (Wd X x) f) pr.0) l.1)))
      ])))
