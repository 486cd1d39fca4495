-- What is kept from step to step, and what is known of a frame that is about to step: its record, its operands, its memory.
use Rattle.std.proofs.Common.{◌≡◌, ℕ, zero, suc, ◌<◌, Bool, true, false, cond, ltb, ◌⊎◌, List, [], ◌∷◌, ◌++◌, map, length, get_or, set, Some, None, Option, sym, refl, ap, ◌∙◌, subst, ap₂, inl, inr, arith}
use Rattle.std.proofs.lemmas.Bool.{lt-ltb}
use Rattle.table.specs.declared.types.Kind.{Kind}
use Rattle.table.specs.declared.types.Kind.TheVariants.{Number, Alias, Owned, Pristine}
use Rattle.table.specs.declared.types.Ty.{Ty}
use Rattle.table.specs.declared.types.Field.{Field}
use Rattle.table.specs.Program.{Program}
use Rattle.table.specs.Types.{is_number, is_alias, is_pristine}
use Rattle.rules.specs.Rules.{slot, no_field, declared}
use Rattle.memory.specs.Model.{Store, count_of, object_at, cell_at}
use Rattle.memory.specs.declared.object.Cell.{Cell}
use Rattle.machine.specs.declared.threads.Slot.{Slot}
use Rattle.machine.specs.declared.threads.Slot.TheVariants as V
use Rattle.machine.specs.declared.threads.Frame.{Frame}
use Rattle.machine.specs.World.{is_running}
use Rattle.machine.specs.Steps.{Turn, Fails, Does}
use Rattle.machine.specs.Values.{is_empty, holds_number, is_reference, object_of, value_of}
use Rattle.machine.specs.Reading.{fields, field, field_type, cell, slot_has_object, where_object, has_field, where_field}
use Rattle.safety.specs.Model as C
use Rattle.safety.specs.Fields.{val_of}
use Rattle.safety.specs.Step.{Mem, Sound}
use Rattle.safety.specs.Threads.{flat}
use Rattle.safety.specs.Kept.{Fits}
use Rattle.safety.specs.Checked.{by_kind, core, core_field, structs_of, Notes, current, stacks, scopes}
use Rattle.safety.proofs.Images.{mem, Whole}
use Rattle.safety.proofs.Chains.{Chain}
use Rattle.safety.proofs.Meaning.{never, value_core}

-- lists
pub in_threads : {X : Type 0} (Ms : List (List X)) (i : ℕ) → 0 < length (get_or Ms i []) → i < length Ms
in_threads [] i h = absurd (omega arith)
in_threads (f ∷ Ms) zero h = omega arith
in_threads (f ∷ Ms) (suc i) h = let k = in_threads Ms i h in omega arith

pub stacks_length : (sc : List (Ty × List Ty)) → length (stacks sc) ≡ length sc
stacks_length [] = refl
stacks_length (a ∷ sc) = ap suc (stacks_length sc)

pub current_length : (sc : List (Ty × List Ty)) → length (current sc) ≡ length sc
current_length [] = refl
current_length (a ∷ sc) = ap suc (current_length sc)

abbrev pub saved_at : List (Ty × List Ty) → ℕ → List C.Claim
saved_at [] x = []
saved_at (a ∷ sc) zero = map core a.1
saved_at (a ∷ sc) (suc x) = saved_at sc x

pub stack_at : (sc : List (Ty × List Ty)) (x : ℕ) → x < length (current sc) → get_or (stacks sc) x [] ≡ core (slot (current sc) x) ∷ saved_at sc x
stack_at [] x h = absurd (omega arith)
stack_at (a ∷ sc) zero h = refl
stack_at (a ∷ sc) (suc x) h = stack_at sc x (omega arith)

-- what a value that fits its type is
pub fits_full : (R : Mem) (v : Slot) (t : C.Claim) → Fits R v t → is_empty v ≡ false
fits_full R V.Empty t f = absurd f
fits_full R V.Null t f = refl
fits_full R (V.Number n) t f = refl
fits_full R (V.Reference o) t f = refl

pub fits_number : (R : Mem) (v : Slot) (k : Kind) (s w : ℕ) → Fits R v (by_kind k s w) → is_number k ≡ true → holds_number v ≡ true
fits_number R V.Empty k s w f e = absurd f
fits_number R V.Null Number s w f e = absurd f
fits_number R V.Null Alias s w f e = never e
fits_number R V.Null Owned s w f e = never e
fits_number R V.Null Pristine s w f e = never e
fits_number R (V.Number n) k s w f e = refl
fits_number R (V.Reference o) Number s w f e = absurd f
fits_number R (V.Reference o) Alias s w f e = never e
fits_number R (V.Reference o) Owned s w f e = never e
fits_number R (V.Reference o) Pristine s w f e = never e

pub fits_reference : (R : Mem) (v : Slot) (k : Kind) (s w : ℕ) → Fits R v (by_kind k s w) → is_number k ≡ false → is_reference v ≡ true
fits_reference R V.Empty k s w f e = absurd f
fits_reference R V.Null k s w f e = refl
fits_reference R (V.Number n) Number s w f e = never (sym e)
fits_reference R (V.Number n) Alias s w f e = absurd f
fits_reference R (V.Number n) Owned s w f e = absurd f
fits_reference R (V.Number n) Pristine s w f e = absurd f
fits_reference R (V.Reference o) k s w f e = refl

pub fits_struct : (R : Mem) (o : ℕ) (k : Kind) (s w : ℕ) → Fits R (V.Reference o) (by_kind k s w) → (o < R.size) × (R.kind o ≡ s)
fits_struct R o Number s w f = absurd f
fits_struct R o Alias s w f = f
fits_struct R o Owned s w f = f
fits_struct R o Pristine s w f = f

-- the kinds that refer
abbrev pub ref_kind : Kind → C.Right
ref_kind Number = C.alias
ref_kind Alias = C.alias
ref_kind Owned = C.owned
ref_kind Pristine = C.pristine

pub kind_ref : (k : Kind) (s w : ℕ) → is_number k ≡ false → by_kind k s w ≡ C.pt (ref_kind k) s w
kind_ref Number s w h = never (sym h)
kind_ref Alias s w h = refl
kind_ref Owned s w h = refl
kind_ref Pristine s w h = refl

pub kind_pristine : (k : Kind) (s w : ℕ) → is_pristine k ≡ true → by_kind k s w ≡ C.pt C.pristine s w
kind_pristine Number s w h = never h
kind_pristine Alias s w h = never h
kind_pristine Owned s w h = never h
kind_pristine Pristine s w h = refl

pub kind_alias : (k : Kind) (s w : ℕ) → is_alias k ≡ true → by_kind k s w ≡ C.pt C.alias s w
kind_alias Number s w h = never h
kind_alias Alias s w h = refl
kind_alias Owned s w h = never h
kind_alias Pristine s w h = never h

pub kind_number : (k : Kind) (s w : ℕ) → is_number k ≡ true → by_kind k s w ≡ C.num
kind_number Number s w h = refl
kind_number Alias s w h = never h
kind_number Owned s w h = never h
kind_number Pristine s w h = never h

pub null_or : (v : Slot) → is_reference v ≡ true → (v ≡ V.Null) ⊎ ((o : ℕ) × (v ≡ V.Reference o))
null_or V.Empty h = never h
null_or V.Null h = inl refl
null_or (V.Number n) h = never h
null_or (V.Reference o) h = inr (o, refl)

pub either_true : (b c : Bool) → c ≡ true → cond b c true ≡ true
either_true true c h = h
either_true false c h = refl

-- what is kept from step to step
pub record Base (p : Program) (A : Notes) (Ms : List (List Frame)) (m : Store) : Type 0 where
  pub sound : Sound (structs_of p) (flat (scopes A) Ms) (mem m)
  pub chains : (i : ℕ) → Chain p (get_or Ms i [])
  pub whole : Whole m

abbrev pub with_fork : List (List Frame) → Option Frame → List (List Frame)
with_fork Ms None = Ms
with_fork Ms (Some F) = Ms ++ ((F ∷ []) ∷ [])

-- a step that keeps it, or is refused but not stuck
abbrev pub GoodTurn : Program → Notes → List (List Frame) → ℕ → Turn → Type 0
GoodTurn p A Ms i (Fails n) = n < 70
GoodTurn p A Ms i (Does c out) = Base p A (with_fork (set Ms i c.frames) c.forked) c.memory × (is_running c.status ≡ true → 0 < length c.frames)

-- a field of the object that a value refers to
module _ (p : Program) (m : Store) (v : Slot) where
  pub where_true : (b : Bool) → ((o : ℕ) → v ≡ V.Reference o → b ≡ true) → where_object p m v b ≡ true
  where_true b = go v
    where
      go : (u : Slot) → ((o : ℕ) → u ≡ V.Reference o → b ≡ true) → where_object p m u b ≡ true
      go V.Empty h = refl
      go V.Null h = refl
      go (V.Number n) h = refl
      go (V.Reference o) h = either_true (ltb o (count_of m)) b (h o refl)

  module _ (o : ℕ) (e : v ≡ V.Reference o) where
    pub at_object : object_of v ≡ o
    at_object = ap object_of e

    pub struct_is : (k : Kind) (s w : ℕ) → Fits (mem m) v (by_kind k s w) → (o < count_of m) × ((object_at m o).kind ≡ s)
    struct_is k s w f = fits_struct (mem m) o k s w (subst (λ (u : Slot). Fits (mem m) u (by_kind k s w)) e f)

    pub fields_are : (s : ℕ) → (object_at m o).kind ≡ s → fields p m v ≡ get_or p.structs s []
    fields_are s q = ap (λ (u : ℕ). get_or p.structs (object_at m u).kind []) at_object ∙ ap (λ (u : ℕ). get_or p.structs u []) q

    pub field_is : (s f : ℕ) → (object_at m o).kind ≡ s → field p m v f ≡ declared p s f
    field_is s f q = ap (λ (l : List Field). get_or l f no_field) (fields_are s q)

    pub cell_is : (f : ℕ) → cell p m v f ≡ cell_at m o f
    cell_is f = ap (λ (u : ℕ). cell_at m u f) at_object

    pub got_is : (s f : ℕ) → (object_at m o).kind ≡ s → value_of (field_type p m v f) (cell p m v f).word ≡ val_of (core_field (declared p s f).ty) (cell_at m o f).word
    got_is s f q = ap₂ (λ (t : Ty) (n : ℕ). value_of t n) (ap (λ (x : Field). x.ty) (field_is s f q)) (ap (λ (c : Cell). c.word) (cell_is f)) ∙ value_core (declared p s f).ty (cell_at m o f).word

  module _ (k : Kind) (s w : ℕ) (fits : Fits (mem m) v (by_kind k s w)) where
    pub object_there : slot_has_object p m v ≡ true
    object_there = go v fits
      where
        go : (u : Slot) → Fits (mem m) u (by_kind k s w) → slot_has_object p m u ≡ true
        go V.Empty f = refl
        go V.Null f = refl
        go (V.Number n) f = refl
        go (V.Reference o) f = lt-ltb o (count_of m) (fits_struct (mem m) o k s w f).0

    pub field_there : (f : ℕ) → ltb f (length (get_or p.structs s [])) ≡ true → has_field p m v f ≡ true
    field_there f h = where_true (ltb f (length (fields p m v))) (λ o e. ap (λ (l : List Field). ltb f (length l)) (fields_are o e s (struct_is o e k s w fits).1) ∙ h)

    pub of_field : (f : ℕ) (P : Field → Bool) → P (declared p s f) ≡ true → where_field p m v f (P (field p m v f)) ≡ true
    of_field f P h = where_true (cond (ltb f (length (fields p m v))) (P (field p m v f)) true)
        (λ o e. either_true (ltb f (length (fields p m v))) (P (field p m v f)) (ap P (field_is o e s f (struct_is o e k s w fits).1) ∙ h))
