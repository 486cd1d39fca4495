-- What a test that holds tells of kinds, modes, types and values.
use Rattle.std.proofs.Common.{◌≡◌, ℕ, ◌≤◌, Bool, true, false, cond, not, ◌&&◌, ◌||◌, eqb, ltb, length, Some, None, Option, sym, refl, ap, ◌∙◌, subst, arith}
use Rattle.std.proofs.lemmas.Bool.{eqb-true, and_parts, not-true}
use Rattle.table.specs.declared.types.Mode.{Mode}
use Rattle.table.specs.declared.types.Mode.TheVariants.{Var, Val, Once, Spec}
use Rattle.table.specs.declared.types.Kind.{Kind}
use Rattle.table.specs.declared.types.Kind.TheVariants.{Number, Alias, Owned, Pristine}
use Rattle.table.specs.declared.types.Ty.{Ty}
use Rattle.table.specs.declared.types.Field.{Field}
use Rattle.table.specs.Program.{Program}
use Rattle.table.specs.Types.{is_number, is_alias, is_owned, is_pristine, is_var, is_val, is_once, is_spec, may_withhold}
use Rattle.rules.specs.Rules.{flows, flows_by}
use Rattle.rules.specs.Rules as R
use Rattle.memory.specs.Model.{Store, count_of}
use Rattle.machine.specs.declared.threads.Slot.{Slot}
use Rattle.machine.specs.declared.threads.Slot.TheVariants as V
use Rattle.machine.specs.Values.{holds_number, is_reference, suits}
use Rattle.machine.specs.Reading.{fields, field, touched}
use Rattle.safety.specs.Model as C
use Rattle.safety.specs.Fields.{lent}
use Rattle.safety.specs.Step.{Mem, shared, Writable, Plain, RefTo}
use Rattle.safety.specs.Kept.{Fits}
use Rattle.safety.specs.Checked.{by_kind, core, field_by_kind}
use Rattle.safety.proofs.Meaning.{never}
use Rattle.safety.proofs.Ground.{fits_number, fits_reference, ref_kind}

-- kinds and modes that a test has told
pub not_number_pristine : (k : Kind) → is_pristine k ≡ true → is_number k ≡ false
not_number_pristine Number h = never h
not_number_pristine Alias h = refl
not_number_pristine Owned h = refl
not_number_pristine Pristine h = refl

pub not_number_alias : (k : Kind) → is_alias k ≡ true → is_number k ≡ false
not_number_alias Number h = never h
not_number_alias Alias h = refl
not_number_alias Owned h = refl
not_number_alias Pristine h = refl

pub not_number_lasting : (k : Kind) → (is_alias k || is_owned k) ≡ true → is_number k ≡ false
not_number_lasting Number h = never h
not_number_lasting Alias h = refl
not_number_lasting Owned h = refl
not_number_lasting Pristine h = refl

pub not_number_held : (k : Kind) → (is_owned k || is_pristine k) ≡ true → is_number k ≡ false
not_number_held Number h = never h
not_number_held Alias h = refl
not_number_held Owned h = refl
not_number_held Pristine h = refl

pub plain : (k : Kind) → (is_alias k || is_owned k) ≡ true → Plain (ref_kind k)
plain Number h = never h
plain Alias h = tt
plain Owned h = tt
plain Pristine h = never h

pub mode_var : (m : Mode) → is_var m ≡ true → m ≡ Var
mode_var Var h = refl
mode_var Val h = never h
mode_var Once h = never h
mode_var Spec h = never h

pub mode_val : (m : Mode) → is_val m ≡ true → m ≡ Val
mode_val Var h = never h
mode_val Val h = refl
mode_val Once h = never h
mode_val Spec h = never h

pub mode_once : (m : Mode) → is_once m ≡ true → m ≡ Once
mode_once Var h = never h
mode_once Val h = never h
mode_once Once h = refl
mode_once Spec h = never h

pub mode_spec : (m : Mode) → is_spec m ≡ true → m ≡ Spec
mode_spec Var h = never h
mode_spec Val h = never h
mode_spec Once h = never h
mode_spec Spec h = refl

pub not_var : (m : Mode) → is_var m ≡ false → m ≡ Var → ⊥
not_var Var h e = never (sym h)
not_var Val h e = let z : ◌≡◌ {A = ℕ} 0 1 = cc in omega arith
not_var Once h e = let z : ◌≡◌ {A = ℕ} 0 1 = cc in omega arith
not_var Spec h e = let z : ◌≡◌ {A = ℕ} 0 1 = cc in omega arith

pub not_once : (m : Mode) → is_once m ≡ false → m ≡ Once → ⊥
not_once Once h e = never (sym h)
not_once Val h e = let z : ◌≡◌ {A = ℕ} 0 1 = cc in omega arith
not_once Var h e = let z : ◌≡◌ {A = ℕ} 0 1 = cc in omega arith
not_once Spec h e = let z : ◌≡◌ {A = ℕ} 0 1 = cc in omega arith

-- what set asks of the field's mode
pub writable : (k : Kind) (m : Mode) → (is_owned k || is_pristine k) ≡ true → cond (is_pristine k) (not (is_once m)) (is_var m) ≡ true → Writable (ref_kind k) (m)
writable Number m h w = never h
writable Alias m h w = never h
writable Owned m h w = mode_var m w
writable Pristine m h w = not_once m (not-true (is_once m) w)

pub not_pristine : (k : Kind) (m : Mode) → (is_owned k || is_pristine k) ≡ true → cond (is_pristine k) (not (is_once m)) (is_var m) ≡ true → is_var m ≡ false → (is_pristine k ≡ true) × (is_once m ≡ false)
not_pristine Number m h w v = never h
not_pristine Alias m h w v = never h
not_pristine Owned m h w v = never (sym v ∙ w)
not_pristine Pristine m h w v = (refl, not-true (is_once m) w)

pub field_owned : (k : Kind) (s : ℕ) → is_owned k ≡ true → field_by_kind k s ≡ C.fowned s
field_owned Number s h = never h
field_owned Alias s h = never h
field_owned Owned s h = refl
field_owned Pristine s h = never h

-- what share and get give
pub shared_core : (k : Kind) (s w : ℕ) → shared (by_kind k s w) ≡ core (cond (is_number k) R.number (R.type Alias s w))
shared_core Number s w = refl
shared_core Alias s w = refl
shared_core Owned s w = refl
shared_core Pristine s w = refl

pub lent_core : (k : Kind) (s : ℕ) → lent (field_by_kind k s) ≡ core (cond (is_number k) R.number (R.type Alias s 0))
lent_core Number s = refl
lent_core Alias s = refl
lent_core Owned s = refl
lent_core Pristine s = refl

pub low_rank : (k : Kind) (s w : ℕ) → is_pristine k ≡ false → C.rank (by_kind k s w) ≤ 1
low_rank Number s w h = omega arith
low_rank Alias s w h = omega arith
low_rank Owned s w h = omega arith
low_rank Pristine s w h = never (sym h)

-- a value that fits a type fits what the type flows to
pub suit_kinds : (k k' : Kind) (w w' : ℕ) (v : Slot) → flows_by k k' w w' ≡ true → cond (is_number k) (holds_number v) (is_reference v) ≡ true → cond (is_number k') (holds_number v) (is_reference v) ≡ true
suit_kinds Number Number w w' v f h = h
suit_kinds Number Alias w w' v f h = never f
suit_kinds Number Owned w w' v f h = never f
suit_kinds Number Pristine w w' v f h = never f
suit_kinds Alias Number w w' v f h = never f
suit_kinds Alias Alias w w' v f h = h
suit_kinds Alias Owned w w' v f h = h
suit_kinds Alias Pristine w w' v f h = h
suit_kinds Owned Number w w' v f h = never f
suit_kinds Owned Alias w w' v f h = h
suit_kinds Owned Owned w w' v f h = h
suit_kinds Owned Pristine w w' v f h = h
suit_kinds Pristine Number w w' v f h = never f
suit_kinds Pristine Alias w w' v f h = h
suit_kinds Pristine Owned w w' v f h = h
suit_kinds Pristine Pristine w w' v f h = h

pub suits_flow : (t u : Ty) (v : Slot) → flows t u ≡ true → suits t v ≡ true → suits u v ≡ true
suits_flow t u v f h = suit_kinds t.kind u.kind t.withheld u.withheld v (and_parts _ _ f).1 h

pub fits_kinds : (R : Mem) (v : Slot) (k : Kind) (s w : ℕ) → Fits R v (by_kind k s w) → cond (is_number k) (holds_number v) (is_reference v) ≡ true
fits_kinds R v Number s w f = fits_number R v Number s w f refl
fits_kinds R v Alias s w f = fits_reference R v Alias s w f refl
fits_kinds R v Owned s w f = fits_reference R v Owned s w f refl
fits_kinds R v Pristine s w f = fits_reference R v Pristine s w f refl

pub fits_suits : (R : Mem) (v : Slot) (t : Ty) → Fits R v (core t) → suits t v ≡ true
fits_suits R v t f = fits_kinds R v t.kind t.strukt t.withheld f

-- flow tells kinds
pub owned_from_pristine : (k k' : Kind) (w w' : ℕ) → flows_by k k' w w' ≡ true → is_pristine k ≡ true → is_pristine k' ≡ false → is_owned k' ≡ true
owned_from_pristine Number k' w w' f h n = never h
owned_from_pristine Alias k' w w' f h n = never h
owned_from_pristine Owned k' w w' f h n = never h
owned_from_pristine Pristine Number w w' f h n = never f
owned_from_pristine Pristine Alias w w' f h n = never f
owned_from_pristine Pristine Owned w w' f h n = refl
owned_from_pristine Pristine Pristine w w' f h n = never (sym n)

pub owned_into_owned : (k k' : Kind) (w w' : ℕ) → flows_by k k' w w' ≡ true → is_owned k' ≡ true → is_pristine k ≡ false → is_owned k ≡ true
owned_into_owned Number Number w w' f h n = never h
owned_into_owned Number Alias w w' f h n = never h
owned_into_owned Number Owned w w' f h n = never f
owned_into_owned Number Pristine w w' f h n = never h
owned_into_owned Alias Number w w' f h n = never h
owned_into_owned Alias Alias w w' f h n = never h
owned_into_owned Alias Owned w w' f h n = never f
owned_into_owned Alias Pristine w w' f h n = never h
owned_into_owned Owned k' w w' f h n = refl
owned_into_owned Pristine k' w w' f h n = never (sym n)

pub number_into : (k k' : Kind) (w w' : ℕ) → flows_by k k' w w' ≡ true → is_number k' ≡ false → is_number k ≡ false
number_into Number Number w w' f n = never (sym n)
number_into Number Alias w w' f n = never f
number_into Number Owned w w' f n = never f
number_into Number Pristine w w' f n = never f
number_into Alias k' w w' f n = refl
number_into Owned k' w w' f n = refl
number_into Pristine k' w w' f n = refl

pub alias_left : (k : Kind) → is_number k ≡ false → is_pristine k ≡ false → is_owned k ≡ false → is_alias k ≡ true
alias_left Number a b c = never (sym a)
alias_left Alias a b c = refl
alias_left Owned a b c = never (sym c)
alias_left Pristine a b c = never (sym b)

pub kind_owned : (k : Kind) (s w : ℕ) → is_owned k ≡ true → by_kind k s w ≡ C.pt C.owned s w
kind_owned Number s w h = never h
kind_owned Alias s w h = never h
kind_owned Owned s w h = refl
kind_owned Pristine s w h = never h

pub field_alias : (k : Kind) (s : ℕ) → is_alias k ≡ true → field_by_kind k s ≡ C.falias s
field_alias Number s h = never h
field_alias Alias s h = refl
field_alias Owned s h = never h
field_alias Pristine s h = never h

pub ref_to : (k : Kind) (s s' : ℕ) → is_number k ≡ false → s ≡ s' → RefTo (field_by_kind k s) s'
ref_to Number s s' h e = never (sym h)
ref_to Alias s s' h e = e
ref_to Owned s s' h e = e
ref_to Pristine s s' h e = e

-- a pristine type withholds only fields of owned type
pub withheld_owned : (k : Kind) (f : Field) → is_pristine k ≡ true → may_withhold k f ≡ true → is_owned f.ty.kind ≡ true
withheld_owned Number f h w = never h
withheld_owned Alias f h w = never h
withheld_owned Owned f h w = never h
withheld_owned Pristine f h w = (and_parts _ _ w).1

pub same_struct : (t u : Ty) → flows t u ≡ true → t.strukt ≡ u.strukt
same_struct t u h = eqb-true _ _ (and_parts (eqb t.strukt u.strukt) (flows_by t.kind u.kind t.withheld u.withheld) h).0

pub by_flow : (t u : Ty) → flows t u ≡ true → flows_by t.kind u.kind t.withheld u.withheld ≡ true
by_flow t u h = (and_parts (eqb t.strukt u.strukt) (flows_by t.kind u.kind t.withheld u.withheld) h).1

-- who owns
pub owned_by : (k : Kind) (s w n : ℕ) → (is_owned k || is_pristine k) ≡ true → C.own_ty (by_kind k s w) n ≡ n
owned_by Number s w n h = never h
owned_by Alias s w n h = never h
owned_by Owned s w n h = refl
owned_by Pristine s w n h = refl

pub held_from : (k : Kind) → is_number k ≡ false → is_alias k ≡ false → (is_owned k || is_pristine k) ≡ true
held_from Number a b = never (sym a)
held_from Alias a b = never (sym b)
held_from Owned a b = refl
held_from Pristine a b = refl

pub alias_not : (v a : Bool) → (v && a) ≡ false → v ≡ true → a ≡ false
alias_not true a h e = h
alias_not false a h e = never e

pub nothing : {X Y : Type 0} {x : X} → ◌≡◌ {A = Option X} None (Some x) → Y
nothing e = let z : ◌≡◌ {A = ℕ} 0 1 = cc in absurd (omega arith)

-- a touched field is a var field of the object that x refers to
pub touched_ref : (p : Program) (m : Store) (v : Slot) (f : ℕ) (t : ℕ × ℕ) → touched p m v f ≡ Some t → (v ≡ V.Reference t.0) × (is_var (field p m (V.Reference t.0) f).mode ≡ true)
touched_ref p m V.Empty f t e = nothing e
touched_ref p m V.Null f t e = nothing e
touched_ref p m (V.Number n) f t e = nothing e
touched_ref p m (V.Reference o) f t e = go (ltb o (count_of m) && ltb f (length (fields p m (V.Reference o))) && is_var (field p m (V.Reference o) f).mode) refl e
  where
    go : (b : Bool) → (ltb o (count_of m) && ltb f (length (fields p m (V.Reference o))) && is_var (field p m (V.Reference o) f).mode) ≡ b → cond b (Some (o, f)) None ≡ Some t
        → (V.Reference o ≡ V.Reference t.0) × (is_var (field p m (V.Reference t.0) f).mode ≡ true)
    go false b k = nothing k
    go true b k = let q : (o, f) ≡ t = cc in let z : o ≡ t.0 = ap (λ (y : ℕ × ℕ). y.0) q in (ap V.Reference z, subst (λ (y : ℕ). is_var (field p m (V.Reference y) f).mode ≡ true) z (and_parts _ _ b).1)
