-- A thread of a checked program that is about to step: its record, its operands, and what it takes that a step keeps what is kept.
use Rattle.std.proofs.Common.{◌≡◌, ℕ, suc, ◌-◌, ◌<◌, Bool, true, false, cond, not, ◌||◌, eqb, ltb, List, [], ◌∷◌, ◌++◌, length, get_or, set, None, Option, sym, refl, ap, ◌∙◌, subst, inl, inr, arith}
use Rattle.std.proofs.lemmas.List.{length-set, set-get_or}
use Rattle.std.proofs.lemmas.Bool.{eqb-true, ltb-true, lt-ltb, and_parts, and_from, not_from_false}
use Rattle.table.specs.declared.types.Kind.{Kind}
use Rattle.table.specs.declared.types.Ty.{Ty}
use Rattle.table.specs.declared.types.Field.{Field}
use Rattle.table.specs.Program.{Program}
use Rattle.table.specs.Types.{is_number}
use Rattle.rules.specs.Rules.{Premise, first, callee, slot, free, declared}
use Rattle.rules.specs.Laws.{Holds}
use Rattle.rules.proofs.Laws.{none_fails}
use Rattle.memory.specs.Model.{Store, count_of, object_at}
use Rattle.machine.specs.declared.threads.Slot.{Slot}
use Rattle.machine.specs.declared.threads.Slot.TheVariants as V
use Rattle.machine.specs.Values.{is_null, holds_number, is_reference, given}
use Rattle.machine.specs.declared.threads.Frame.{Frame}
use Rattle.machine.specs.declared.threads.Status.TheVariants.{Halted}
use Rattle.machine.specs.Ways.{value, go, stopped}
use Rattle.machine.specs.Steps.{Turn, Does, unless}
use Rattle.machine.specs.Reading.{slot_has_object, has_field, refers, write}
use Rattle.safety.specs.Model as C
use Rattle.safety.specs.Step.{Mem, Sound, poke}
use Rattle.safety.specs.Threads.{frame_at, flat, FallsSc, advance}
use Rattle.safety.specs.Kept.{Fits}
use Rattle.safety.specs.Typed.{Slotted, Active, Typed, fresh}
use Rattle.safety.specs.Checked.{core, structs_of, Notes, current, scopes, Fine, Checked}
use Rattle.safety.proofs.Images.{stored, mem, mem_stored, Whole, whole_stored}
use Rattle.safety.proofs.Keeps.{kept_sound}
use Rattle.safety.proofs.Typed.{in_scope, typed_keeps}
use Rattle.safety.proofs.Chains.{set_all, Placed, Chain, chain_at, chain_moved}
use Rattle.safety.proofs.Meaning.{never}
use Rattle.safety.proofs.Ground.{in_threads, stacks_length, current_length, saved_at, stack_at, fits_full, fits_number, fits_reference, ref_kind, kind_ref, null_or, Base, GoodTurn, at_object, struct_is, object_there, field_there, of_field}

-- a thread that is about to step, in a checked program
pub record Poised : Type 0 where
  pub program : Program
  pub notes : Notes
  pub checked : Checked program notes
  pub threads : List (List Frame)
  pub memory : Store
  pub number : ℕ
  pub kept : Base program notes threads memory
  pub framed : 0 < length (get_or threads number [])

module _ (X : Poised) where
  abbrev p : Program
  p = X.program

  abbrev A : Notes
  A = X.notes

  abbrev Ms : List (List Frame)
  Ms = X.threads

  abbrev m : Store
  m = X.memory

  abbrev i : ℕ
  i = X.number

  pub ck : Checked X.program X.notes
  ck = X.checked

  pub base : Base X.program X.notes X.threads X.memory
  base = X.kept

  pub some_frame : 0 < length (get_or X.threads X.number [])
  some_frame = X.framed

  abbrev pub fs : List Frame
  fs = get_or Ms i []

  abbrev pub J : ℕ
  J = length (get_or Ms i []) - 1

  abbrev pub F : Frame
  F = frame_at Ms i (length (get_or Ms i []) - 1)

  abbrev pub sc : List (Ty × List Ty)
  sc = A F.function F.index

  abbrev pub ts : List Ty
  ts = current (A F.function F.index)

  pub placed : Placed p (frame_at Ms i (length (get_or Ms i []) - 1))
  placed = chain_at p (get_or Ms i []) (base.chains i) (length (get_or Ms i []) - 1) (omega arith)

  pub fine : Fine p A F.function F.index
  fine = ck.fine F.function F.index placed.there placed.index

  pub act : Active (structs_of p) (scopes A) Ms i J
  act = record { thread = in_threads Ms i some_frame; newest = omega arith; slots = placed.slots; few = let a = stacks_length sc in let b = fine.few in omega arith }

  abbrev pub SlotIs : ℕ → Slot → C.Claim → Type 0
  SlotIs x v t = Slotted (structs_of p) (scopes A) Ms i J x v t (saved_at sc x)

  pub record Operand (x : ℕ) : Type 0 where
    pub at : SlotIs x (value p m fs x) (core (slot ts x))
    pub fits : Fits (mem m) (value p m fs x) (core (slot ts x))
    pub low : x < 16

  pub operand : (x : ℕ) → ltb x (length ts) ≡ true → Operand x
  operand x h =
      let l : x < length ts = ltb-true x (length ts) h in
      let at : SlotIs x (value p m fs x) (core (slot ts x)) = record { types = stack_at sc x l; value = refl } in
      let low : x < 16 = (let a = current_length sc in let b = fine.few in omega arith) in
      record {
        at = at;
        fits = (kept_sound (structs_of p) (flat (scopes A) Ms) (mem m) base.sound).fits (C.spot i J x) (value p m fs x) (core (slot ts x)) (saved_at sc x)
            (in_scope (structs_of p) (scopes A) Ms (mem m) i J act base.sound x (value p m fs x) (core (slot ts x)) (saved_at sc x) at);
        low = low;
      }

  -- an operand is given, and is what its type says
  pub is_given : (x : ℕ) → Operand x → given F.slots x ≡ true
  is_given x o = and_from _ _ (lt-ltb x 16 o.low) (ap not (fits_full (mem m) (value p m fs x) (core (slot ts x)) o.fits))

  pub is_a_number : (x : ℕ) → Operand x → is_number (slot ts x).kind ≡ true → holds_number (value p m fs x) ≡ true
  is_a_number x o h = fits_number (mem m) (value p m fs x) (slot ts x).kind (slot ts x).strukt (slot ts x).withheld o.fits h

  pub is_a_reference : (x : ℕ) → Operand x → is_number (slot ts x).kind ≡ false → is_reference (value p m fs x) ≡ true
  is_a_reference x o h = fits_reference (mem m) (value p m fs x) (slot ts x).kind (slot ts x).strukt (slot ts x).withheld o.fits h

  pub holds_as : (x : ℕ) → Operand x → (v : Slot) → value p m fs x ≡ v → (t : C.Claim) → core (slot ts x) ≡ t → SlotIs x v t
  holds_as x o v e t q = record { types = o.at.types ∙ ap (λ (u : C.Claim). u ∷ saved_at sc x) q; value = e }

  abbrev pub Good : Turn → Type 0
  Good t = GoodTurn p A Ms i t

  -- the conditions hold
  pub passes : (l : List Premise) (t : Turn) → Holds l → Good t → Good (unless (first l) t)
  passes l t h g = subst (λ (o : Option ℕ). Good (unless o t)) (sym (none_fails l h)) g

  -- a null operand halts the thread
  pub halting : Good (Does (stopped p m fs Halted fs) None)
  halting = (subst (λ (N : List (List Frame)). Base p A N m) (sym (set-get_or Ms i [])) base, λ e. never e)

  -- the newest frame goes on
  pub goes : (index : ℕ) (vs : List Slot) (n : Store) (R : Mem) (out : Option ℕ) → Typed (structs_of p) (scopes A) Ms (mem m) i J (advance Ms i J index vs) R
      → mem n ≡ R → Whole n → index < length (callee p F.function).records → length vs ≡ 16 → Good (Does (go p m fs index vs n) out)
  goes index vs n R out t e w l k = (
    record {
      sound = subst (λ (Q : Mem). Sound (structs_of p) (flat (scopes A) (advance Ms i J index vs)) Q) (sym e) (typed_keeps (structs_of p) (scopes A) Ms (mem m) i J act base.sound (advance Ms i J index vs) R t);
      chains = set_all (Chain p) Ms i (set fs J G) [] (chain_moved p fs J G (base.chains i) (omega arith) refl (record { there = placed.there; index = l; slots = k })) base.chains;
      whole = w;
    },
    λ _. let a = length-set fs J G in omega arith,
  )
    where
      G : Frame
      G = record { function = F.function; index = index; slots = vs }

  pub is_free : (z : ℕ) → free p (callee p F.function) ts z ≡ true → (z ≡ fresh (structs_of p) (scopes A) Ms i J) × (z < 16)
  is_free z h =
      let a = and_parts (eqb z (length ts)) (ltb z 16) h in
      let e : z ≡ length ts = eqb-true z (length ts) a.0 in
      (e ∙ current_length sc ∙ sym (stacks_length sc), ltb-true z 16 a.1)

  -- and binds z
  pub binding : (z : ℕ) → free p (callee p F.function) ts z ≡ true → (vs : List Slot) (v : Slot) (n : Store) (R : Mem) (out : Option ℕ)
      → Typed (structs_of p) (scopes A) Ms (mem m) i J (advance Ms i J (suc F.index) (set vs (fresh (structs_of p) (scopes A) Ms i J) v)) R
      → mem n ≡ R → Whole n → suc F.index < length (callee p F.function).records → length vs ≡ 16 → Good (Does (go p m fs (suc F.index) (set vs z v) n) out)
  binding z h vs v n R out t e w l k =
      subst (λ (y : ℕ). Good (Does (go p m fs (suc F.index) (set vs y v) n) out)) (sym (is_free z h).0)
      (goes (suc F.index) (set vs (fresh (structs_of p) (scopes A) Ms i J) v) n R out t e w l (length-set vs (fresh (structs_of p) (scopes A) Ms i J) v ∙ k))

  -- small things
  pub low_fresh : (z : ℕ) → free p (callee p F.function) ts z ≡ true → fresh (structs_of p) (scopes A) Ms i J < 16
  low_fresh z h = let a = is_free z h in omega arith

  pub slot_low : (z : ℕ) → free p (callee p F.function) ts z ≡ true → ltb z 16 ≡ true
  slot_low z h = (and_parts (eqb z (length ts)) (ltb z 16) h).1

  abbrev pub Bnd : C.Claim → Type 0
  Bnd u = FallsSc (scopes A F.function F.index ++ ((u ∷ []) ∷ [])) (scopes A F.function (suc F.index))

  abbrev pub Push : ℕ → C.Claim → Type 0
  Push y u = FallsSc (set (scopes A F.function F.index) y (u ∷ get_or (scopes A F.function F.index) y [])) (scopes A F.function (suc F.index))

  abbrev pub Kd : ℕ → Kind
  Kd x = (slot ts x).kind

  abbrev pub Sd : ℕ → ℕ
  Sd x = (slot ts x).strukt

  abbrev pub Wd : ℕ → ℕ
  Wd x = (slot ts x).withheld

  abbrev pub Fd : ℕ → ℕ → Field
  Fd x f = declared p (slot ts x).strukt f

  pub late : (n : ℕ) (b : Bool) (t : Turn) → n < 70 → Good t → Good (unless (first ((n, b) ∷ [])) t)
  late n true t h g = g
  late n false t h g = h

  -- a null x halts, else there is an object
  pub unless_null : (x : ℕ) → is_reference (value p m fs x) ≡ true → (t : Turn) → ((o : ℕ) → value p m fs x ≡ V.Reference o → Good t) → Good (cond (is_null (value p m fs x)) (Does (stopped p m fs Halted fs) None) t)
  unless_null x h t g = elim (null_or (value p m fs x) h) [
    | inl e ↦ subst (λ (v : Slot). Good (cond (is_null v) (Does (stopped p m fs Halted fs) None) t)) (sym e) halting
    | inr e ↦ subst (λ (v : Slot). Good (cond (is_null v) (Does (stopped p m fs Halted fs) None) t)) (sym e.1) (g e.0 e.1)
  ]

  pub unless_nulls : (x y : ℕ) → is_reference (value p m fs x) ≡ true → is_reference (value p m fs y) ≡ true → (t : Turn) → ((o q : ℕ) → value p m fs x ≡ V.Reference o → value p m fs y ≡ V.Reference q → Good t)
      → Good (cond (is_null (value p m fs x) || is_null (value p m fs y)) (Does (stopped p m fs Halted fs) None) t)
  unless_nulls x y h k t g = elim (null_or (value p m fs x) h) [
    | inl e ↦ subst (λ (v : Slot). Good (cond (is_null v || is_null (value p m fs y)) (Does (stopped p m fs Halted fs) None) t)) (sym e) halting
    | inr e ↦ subst (λ (v : Slot). Good (cond (is_null v || is_null (value p m fs y)) (Does (stopped p m fs Halted fs) None) t)) (sym e.1) (unless_null y k t (λ q d. g e.0 q e.1 d))
  ]

  -- the object that x refers to
  pub struct_at : (x : ℕ) → Operand x → (o : ℕ) → value p m fs x ≡ V.Reference o → (o < count_of m) × ((object_at m o).kind ≡ Sd x)
  struct_at x u o e = struct_is p m (value p m fs x) o e (Kd x) (Sd x) (Wd x) u.fits

  pub refers_to : (x : ℕ) → Operand x → is_number (Kd x) ≡ false → (o : ℕ) → value p m fs x ≡ V.Reference o → SlotIs x (V.Reference o) (C.pt (ref_kind (Kd x)) (Sd x) (Wd x))
  refers_to x u h o e = holds_as x u (V.Reference o) e (C.pt (ref_kind (Kd x)) (Sd x) (Wd x)) (kind_ref (Kd x) (Sd x) (Wd x) h)

  pub in_cells : (x f o : ℕ) → Operand x → value p m fs x ≡ V.Reference o → ltb f (length (get_or p.structs (Sd x) [])) ≡ true → f < length (object_at m o).cells
  in_cells x f o u e h =
      let a = base.whole o (struct_at x u o e).0 in
      let b = ck.narrow (Sd x) in
      let c = ltb-true f (length (get_or p.structs (Sd x) [])) h in
      omega arith

  pub wrote : (x f o n : ℕ) (k : Bool) → Operand x → value p m fs x ≡ V.Reference o → ltb f (length (get_or p.structs (Sd x) [])) ≡ true → mem (write p m (value p m fs x) f n k) ≡ poke (mem m) o f n k
  wrote x f o n k u e h = ap (λ (q : ℕ). mem (stored m q f n k)) (at_object p m (value p m fs x) o e) ∙ mem_stored m o f n k (struct_at x u o e).0 (in_cells x f o u e h)

  pub whole_wrote : (x f o n : ℕ) (k : Bool) → Operand x → value p m fs x ≡ V.Reference o → Whole (write p m (value p m fs x) f n k)
  whole_wrote x f o n k u e = subst (λ (q : ℕ). Whole (stored m q f n k)) (sym (at_object p m (value p m fs x) o e)) (whole_stored m o f n k (struct_at x u o e).0 base.whole)

  -- 71 to 74 of a field of x
  pub obj : (x : ℕ) → Operand x → slot_has_object p m (value p m fs x) ≡ true
  obj x u = object_there p m (value p m fs x) (Kd x) (Sd x) (Wd x) u.fits

  pub fld : (x f : ℕ) → Operand x → ltb f (length (get_or p.structs (Sd x) [])) ≡ true → has_field p m (value p m fs x) f ≡ true
  fld x f u h = field_there p m (value p m fs x) (Kd x) (Sd x) (Wd x) u.fits f h

  pub rfs : (x f : ℕ) → Operand x → is_number (Fd x f).ty.kind ≡ false → refers p m (value p m fs x) f ≡ true
  rfs x f u h = of_field p m (value p m fs x) (Kd x) (Sd x) (Wd x) u.fits f (λ (d : Field). not (is_number d.ty.kind)) (not_from_false _ h)
