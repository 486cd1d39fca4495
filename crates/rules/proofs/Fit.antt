-- Every type in use keeps its rules; scopes and levels keep their bounds.
use Rattle.std.proofs.Common.{◌≡◌, ℕ, zero, suc, ◌+◌, ◌/◌, ◌%◌, ◌^◌, ◌<◌, ◌≤◌, Bool, true, false, cond, not, ◌&&◌, ◌||◌, eqb, ltb, ◌⊎◌, List, [], ◌∷◌, ◌++◌, length, get_or, set, Some, None, Option, sym, refl, ap, ◌∙◌, subst, inl, inr, arith, length-append}
use mathlib.Core.Path.{subst⁻¹}
use Rattle.std.proofs.lemmas.Bool.{eqb-true, eqb-false, eq-eqb, ltb-true, and_parts, and_from, or_cases, or_left, or_right, not-true, not_from_false, cases_Bool, cond-true, cond-false}
use Rattle.table.specs.declared.types.Kind.{Kind}
use Rattle.table.specs.declared.types.Kind.TheVariants.{Number, Alias, Owned, Pristine}
use Rattle.table.specs.declared.types.Mode.{Mode}
use Rattle.table.specs.declared.types.Mode.TheVariants.{Var, Val, Once, Spec}
use Rattle.table.specs.declared.types.Ty.{Ty}
use Rattle.table.specs.declared.types.Field.{Field}
use Rattle.table.specs.declared.records.Test.{Test}
use Rattle.table.specs.declared.records.Test.TheVariants.{Nil, Same, Equal, Less, Link, Unlink, Swap, Try, Fix, Stable}
use Rattle.table.specs.Types.{is_number, is_alias, is_owned, is_pristine, is_var, is_val, is_once, is_spec, may_withhold, set_fits, keeps}
use Rattle.table.specs.Records.{Op, New, Null, Int, Share, Own, Get, Take, Set, Add, Call, Fork, Return, Again, Join, Emit, Ask}
use Rattle.table.specs.Program.{Function, Program}
use Rattle.rules.specs.Rules.{record_at, callee, first, has, with, without, flows, flows_by, type, slot, number, no_field, withholding, read, asks, premises, bound, yes_types, there, free, lasting, tentative, field_mode, field_type}
use Rattle.rules.specs.Scopes.{Block, Yes, No, State, state, close, shape, inside, placed, grown, move, before}
use Rattle.rules.specs.Formed.{Sound, AllKeep, Formed}
use Rattle.rules.specs.Blocks.{Accepted, Fit, FitStands}
use Rattle.rules.proofs.Steps.{good, after_good, before_suc}
use Rattle.rules.proofs.Types.{premise, kind_lasts}
use Rattle.rules.proofs.Sets.{has_half, has_first, has_none, has_one, with_only, without_within, none_set}
use Rattle.rules.proofs.Scan.{yes_length}

-- a set fits when each of its fields may be withheld
pub fits_bit : (k : Kind) (fs : List Field) (m g : ℕ) → set_fits k fs m ≡ true → has m g ≡ true → may_withhold k (get_or fs g no_field) ≡ true
fits_bit k [] m g h e =
    let z : ◌≡◌ {A = Bool} false true = sym (has_none g) ∙ ap (λ n. has n g) (sym (eqb-true m 0 h)) ∙ e in
    let y : ◌≡◌ {A = ℕ} 0 1 = cc in
    absurd (omega arith)
fits_bit k (f ∷ fs) m zero h e =
    let a = and_parts (eqb (m % 2) 0 || may_withhold k f) (set_fits k fs (m / 2)) h in
    elim (or_cases (eqb (m % 2) 0) (may_withhold k f) a.0) [
      | inl x ↦ absurd (omega (arith, eqb-true (m % 2) 0 x, eqb-true (m % 2) 1 (sym (has_first m) ∙ e)))
      | inr x ↦ x
    ]
fits_bit k (f ∷ fs) m (suc g) h e =
    fits_bit k fs (m / 2) g (and_parts (eqb (m % 2) 0 || may_withhold k f) (set_fits k fs (m / 2)) h).1 (has_half m g ∙ e)

pub never_withheld : (k : Kind) → may_withhold k no_field ≡ true → ⊥
never_withheld Number h = let y : ◌≡◌ {A = ℕ} 0 1 = cc in omega arith
never_withheld Alias h = let y : ◌≡◌ {A = ℕ} 0 1 = cc in omega arith
never_withheld Owned h = let y : ◌≡◌ {A = ℕ} 0 1 = cc in omega arith
never_withheld Pristine h = let y : ◌≡◌ {A = ℕ} 0 1 = cc in omega arith

pub bits_fit : (k : Kind) (fs : List Field) (m : ℕ) → ((g : ℕ) → has m g ≡ true → may_withhold k (get_or fs g no_field) ≡ true) → set_fits k fs m ≡ true
bits_fit k [] m h =
    eq-eqb m 0 (none_set m (λ g. elim (cases_Bool (has m g)) [ inl x ↦ absurd (never_withheld k (h g x)) | inr x ↦ x ]))
bits_fit k (f ∷ fs) m h =
    and_from (eqb (m % 2) 0 || may_withhold k f) (set_fits k fs (m / 2))
    (elim (cases_Bool (has m 0)) [
      | inl x ↦ or_right (eqb (m % 2) 0) (may_withhold k f) (h 0 x)
      | inr x ↦
          let d : m % 2 ≡ 1 → ⊥ = eqb-false (m % 2) 1 (sym (has_first m) ∙ x) in
          or_left (eqb (m % 2) 0) (may_withhold k f) (eq-eqb (m % 2) 0 (omega arith))
    ])
    (bits_fit k fs (m / 2) (λ g e. h (suc g) (sym (has_half m g) ∙ e)))

pub empty_fits : (k : Kind) (fs : List Field) → set_fits k fs 0 ≡ true
empty_fits k fs = bits_fit k fs 0 (λ g e. let z : ◌≡◌ {A = Bool} false true = sym (has_none g) ∙ e in let y : ◌≡◌ {A = ℕ} 0 1 = cc in absurd (omega arith))

-- an alias and what is owned withhold alike
pub alike : (k : Kind) (f : Field) → is_pristine k ≡ false → may_withhold k f ≡ true → may_withhold Alias f ≡ true
alike Number f h e = let y : ◌≡◌ {A = ℕ} 0 1 = cc in absurd (omega arith)
alike Alias f h e = e
alike Owned f h e = e
alike Pristine f h e = let y : ◌≡◌ {A = ℕ} 0 1 = cc in absurd (omega arith)

pub lasting_withholds : (k : Kind) (f : Field) → (k ≡ Alias) ⊎ (k ≡ Owned) → is_var f.mode ≡ false → is_number f.ty.kind ≡ false → may_withhold k f ≡ true
lasting_withholds Number f h v n = elim h [ inl x ↦ (let y : ◌≡◌ {A = ℕ} 0 1 = cc in absurd (omega arith)) | inr x ↦ (let y : ◌≡◌ {A = ℕ} 0 1 = cc in absurd (omega arith)) ]
lasting_withholds Alias f h v n = and_from (not (is_var f.mode)) (not (is_number f.ty.kind)) (not_from_false (is_var f.mode) v) (not_from_false (is_number f.ty.kind) n)
lasting_withholds Owned f h v n = and_from (not (is_var f.mode)) (not (is_number f.ty.kind)) (not_from_false (is_var f.mode) v) (not_from_false (is_number f.ty.kind) n)
lasting_withholds Pristine f h v n = elim h [ inl x ↦ (let y : ◌≡◌ {A = ℕ} 0 1 = cc in absurd (omega arith)) | inr x ↦ (let y : ◌≡◌ {A = ℕ} 0 1 = cc in absurd (omega arith)) ]

module _ (ss : List (List Field)) where
  -- the parts of a reference's rules
  pub keeps_parts : (t : Ty) → is_number t.kind ≡ false → keeps ss t ≡ true
      → (eqb t.barred 0 ≡ true) × (ltb t.strukt (length ss) ≡ true) × (set_fits t.kind (get_or ss t.strukt []) t.withheld ≡ true)
  keeps_parts t n h =
      let a = and_parts (eqb t.barred 0) _ h in
      let b = sym (cond-false (is_number t.kind) _ _ n) ∙ a.1 in
      let c = and_parts (ltb t.strukt (length ss)) (set_fits t.kind (get_or ss t.strukt []) t.withheld) b in
      (a.0, c.0, c.1)

  pub keeps_make : (t : Ty) → is_number t.kind ≡ false → eqb t.barred 0 ≡ true → ltb t.strukt (length ss) ≡ true → set_fits t.kind (get_or ss t.strukt []) t.withheld ≡ true
      → keeps ss t ≡ true
  keeps_make t n b s w =
      and_from (eqb t.barred 0) _ b
      (cond-false (is_number t.kind) _ _ n ∙ and_from (ltb t.strukt (length ss)) (set_fits t.kind (get_or ss t.strukt []) t.withheld) s w)

  pub slot_keeps : (ts : List Ty) (x : ℕ) → AllKeep ss ts → keeps ss (slot ts x) ≡ true
  slot_keeps [] x h = refl
  slot_keeps (t ∷ ts) zero h = h.0
  slot_keeps (t ∷ ts) (suc x) h = slot_keeps ts x h.1

  pub set_keeps : (ts : List Ty) (x : ℕ) (u : Ty) → AllKeep ss ts → keeps ss u ≡ true → AllKeep ss (set ts x u)
  set_keeps [] x u h k = tt
  set_keeps (t ∷ ts) zero u h k = (k, h.1)
  set_keeps (t ∷ ts) (suc x) u h k = (h.0, set_keeps ts x u h.1 k)

  pub push_keeps : (ts : List Ty) (u : Ty) → AllKeep ss ts → keeps ss u ≡ true → AllKeep ss (ts ++ (u ∷ []))
  push_keeps [] u h k = (k, tt)
  push_keeps (t ∷ ts) u h k = (h.0, push_keeps ts u h.1 k)

  -- what a reader gets
  pub read_keeps : (p : Program) (fn : Function) (ts : List Ty) (t : Ty) (w : ℕ) → keeps ss t ≡ true → (is_number t.kind ≡ false → set_fits Alias (get_or ss t.strukt []) w ≡ true) → keeps ss (read p fn ts t w) ≡ true
  read_keeps p fn ts t w h k =
      elim (cases_Bool (is_number t.kind)) [
        | inl x ↦ subst⁻¹ (λ u. keeps ss u ≡ true) (cond-true (is_number t.kind) number (type Alias t.strukt w) x) refl
        | inr x ↦ subst⁻¹ (λ u. keeps ss u ≡ true) (cond-false (is_number t.kind) number (type Alias t.strukt w) x)
            (keeps_make (type Alias t.strukt w) refl refl (keeps_parts t x h).1 (k x))
      ]

  -- the same type with another set
  pub withholding_keeps : (t : Ty) (w : ℕ) → is_number t.kind ≡ false → keeps ss t ≡ true → ((g : ℕ) → has w g ≡ true → may_withhold t.kind (get_or (get_or ss t.strukt []) g no_field) ≡ true) → keeps ss (withholding t w) ≡ true
  withholding_keeps t w n h k =
      let a = keeps_parts t n h in
      keeps_make (withholding t w) n a.0 a.1 (bits_fit t.kind (get_or ss t.strukt []) w k)

-- kinds by their tests
pub lasts : (k : Kind) → (is_alias k || is_owned k) ≡ true → ((k ≡ Alias) ⊎ (k ≡ Owned)) × (is_number k ≡ false)
lasts Number h = let y : ◌≡◌ {A = ℕ} 0 1 = cc in absurd (omega arith)
lasts Alias h = (inl refl, refl)
lasts Owned h = (inr refl, refl)
lasts Pristine h = let y : ◌≡◌ {A = ℕ} 0 1 = cc in absurd (omega arith)

pub holds : (k : Kind) → (is_owned k || is_pristine k) ≡ true → is_number k ≡ false
holds Number h = let y : ◌≡◌ {A = ℕ} 0 1 = cc in absurd (omega arith)
holds Alias h = refl
holds Owned h = refl
holds Pristine h = refl

pub spec_lasts : (m : Mode) → is_spec m ≡ true → is_var m ≡ false
spec_lasts Var h = let y : ◌≡◌ {A = ℕ} 0 1 = cc in absurd (omega arith)
spec_lasts Val h = refl
spec_lasts Once h = refl
spec_lasts Spec h = refl

pub once_lasts : (m : Mode) → is_once m ≡ true → is_var m ≡ false
once_lasts Var h = let y : ◌≡◌ {A = ℕ} 0 1 = cc in absurd (omega arith)
once_lasts Val h = refl
once_lasts Once h = refl
once_lasts Spec h = refl

-- a tentative write goes to a val or spec field of a pristine object
pub tentative_mode : (k : Kind) (m : Mode) → (is_owned k || is_pristine k) ≡ true → cond (is_pristine k) (not (is_once m)) (is_var m) ≡ true → not (is_var m) ≡ true → (k ≡ Pristine) × ((is_val m || is_spec m) ≡ true)
tentative_mode Number m h c v = let y : ◌≡◌ {A = ℕ} 0 1 = cc in absurd (omega arith)
tentative_mode Alias m h c v = let y : ◌≡◌ {A = ℕ} 0 1 = cc in absurd (omega arith)
tentative_mode Owned m h c v = let e = not-true (is_var m) v in let y : ◌≡◌ {A = ℕ} 0 1 = cc in absurd (omega arith)
tentative_mode Pristine Var h c v = let y : ◌≡◌ {A = ℕ} 0 1 = cc in absurd (omega arith)
tentative_mode Pristine Val h c v = (refl, refl)
tentative_mode Pristine Once h c v = let y : ◌≡◌ {A = ℕ} 0 1 = cc in absurd (omega arith)
tentative_mode Pristine Spec h c v = (refl, refl)

-- what flows to a reference is a reference
pub flows_reference : (t u : Ty) → flows t u ≡ true → is_number u.kind ≡ false → is_number t.kind ≡ false
flows_reference t u h n = go t.kind u.kind (and_parts (eqb t.strukt u.strukt) (flows_by t.kind u.kind t.withheld u.withheld) h).1 n
  where
    go : (k j : Kind) → flows_by k j t.withheld u.withheld ≡ true → is_number j ≡ false → is_number k ≡ false
    go Number Number e m = let y : ◌≡◌ {A = ℕ} 0 1 = cc in absurd (omega arith)
    go Number Alias e m = let y : ◌≡◌ {A = ℕ} 0 1 = cc in absurd (omega arith)
    go Number Owned e m = let y : ◌≡◌ {A = ℕ} 0 1 = cc in absurd (omega arith)
    go Number Pristine e m = let y : ◌≡◌ {A = ℕ} 0 1 = cc in absurd (omega arith)
    go Alias j e m = refl
    go Owned j e m = refl
    go Pristine j e m = refl

-- what a record binds keeps its rules, and there is room for it
abbrev pub BoundKeeps : List (List Field) → List Ty → Option Ty → Type 0
BoundKeeps ss ts None = Unit {0}
BoundKeeps ss ts (Some t) = (keeps ss t ≡ true) × (length ts < 16)

module _ (p : Program) (fn : Function) (ts : List Ty) (formed : Formed p) (all : AllKeep p.structs ts) where
  abbrev ss : List (List Field)
  ss = p.structs

  pub of_slot : (x : ℕ) → keeps ss (slot ts x) ≡ true
  of_slot x = slot_keeps ss ts x all

  pub of_field : (x f : ℕ) → keeps ss (field_type p fn ts x f) ≡ true
  of_field x f = formed.field_types (slot ts x).strukt f

  pub sound_field : (x f : ℕ) → Sound (get_or (get_or ss (slot ts x).strukt []) f no_field)
  sound_field x f = formed.fields (slot ts x).strukt f

  -- the sets of a slot, with one field more or less
  pub slot_bit : (x g : ℕ) → is_number (slot ts x).kind ≡ false → has (slot ts x).withheld g ≡ true → may_withhold (slot ts x).kind (get_or (get_or ss (slot ts x).strukt []) g no_field) ≡ true
  slot_bit x g n e = fits_bit (slot ts x).kind (get_or ss (slot ts x).strukt []) (slot ts x).withheld g (keeps_parts ss (slot ts x) n (of_slot x)).2 e

  pub less_keeps : (x f : ℕ) → is_number (slot ts x).kind ≡ false → keeps ss (withholding (slot ts x) (without (slot ts x).withheld f)) ≡ true
  less_keeps x f n = withholding_keeps ss (slot ts x) (without (slot ts x).withheld f) n (of_slot x) (λ g e. slot_bit x g n (without_within (slot ts x).withheld f g e))

  pub more_keeps : (x f : ℕ) → is_number (slot ts x).kind ≡ false → may_withhold (slot ts x).kind (get_or (get_or ss (slot ts x).strukt []) f no_field) ≡ true → keeps ss (withholding (slot ts x) (with (slot ts x).withheld f)) ≡ true
  more_keeps x f n m = withholding_keeps ss (slot ts x) (with (slot ts x).withheld f) n (of_slot x) (λ g e.
      elim (with_only (slot ts x).withheld f g e) [
        | inl y ↦ slot_bit x g n y
        | inr y ↦ subst (λ h. may_withhold (slot ts x).kind (get_or (get_or ss (slot ts x).strukt []) h no_field) ≡ true) y m
      ])

  -- x withholds a once or spec field too
  pub test_keeps : (x f : ℕ) → lasting p fn ts x ≡ true → is_var (field_mode p fn ts x f) ≡ false → is_number (field_type p fn ts x f).kind ≡ false → keeps ss (withholding (slot ts x) (with (slot ts x).withheld f)) ≡ true
  test_keeps x f h v n =
      let l = lasts (slot ts x).kind h in
      more_keeps x f l.1 (lasting_withholds (slot ts x).kind (get_or (get_or ss (slot ts x).strukt []) f no_field) l.0 v n)

  pub share_keeps : (x : ℕ) → is_pristine (slot ts x).kind ≡ false → keeps ss (read p fn ts (slot ts x) (slot ts x).withheld) ≡ true
  share_keeps x h =
      read_keeps ss p fn ts (slot ts x) (slot ts x).withheld (of_slot x) (λ n.
      bits_fit Alias (get_or ss (slot ts x).strukt []) (slot ts x).withheld (λ g e. alike (slot ts x).kind (get_or (get_or ss (slot ts x).strukt []) g no_field) h (slot_bit x g n e)))

  pub set_op_keeps : (z x f y : ℕ) → first (premises p fn ts (Set z x f y)) ≡ None
      → keeps ss (withholding (slot ts x) (cond (flows (slot ts y) (field_type p fn ts x f)) (without (slot ts x).withheld f) (with (slot ts x).withheld f))) ≡ true
  set_op_keeps z x f y h =
      let hold = premise (premises p fn ts (Set z x f y)) h 2 in
      let n = holds (slot ts x).kind hold in
      let m = and_parts (there p fn ts x f) (cond (is_pristine (slot ts x).kind) (not (is_once (field_mode p fn ts x f))) (is_var (field_mode p fn ts x f))) (premise (premises p fn ts (Set z x f y)) h 3) in
      let c = or_cases (flows (slot ts y) (field_type p fn ts x f)) (tentative p fn ts x f y) (premise (premises p fn ts (Set z x f y)) h 4) in
      elim (cases_Bool (flows (slot ts y) (field_type p fn ts x f))) [
        | inl q ↦ subst⁻¹ (λ w. keeps ss (withholding (slot ts x) w) ≡ true) (cond-true (flows (slot ts y) (field_type p fn ts x f)) (without (slot ts x).withheld f) (with (slot ts x).withheld f) q) (less_keeps x f n)
        | inr q ↦ subst⁻¹ (λ w. keeps ss (withholding (slot ts x) w) ≡ true) (cond-false (flows (slot ts y) (field_type p fn ts x f)) (without (slot ts x).withheld f) (with (slot ts x).withheld f) q)
            (elim c [
              | inl r ↦ (let v : ◌≡◌ {A = ℕ} 0 1 = cc (q, r) in absurd (omega arith))
              | inr r ↦
                  let a1 = and_parts (not (is_var (field_mode p fn ts x f)) && is_owned (field_type p fn ts x f).kind && is_alias (slot ts y).kind && eqb (slot ts y).strukt (field_type p fn ts x f).strukt) (eqb (slot ts y).withheld 0) r in
                  let a2 = and_parts (not (is_var (field_mode p fn ts x f)) && is_owned (field_type p fn ts x f).kind && is_alias (slot ts y).kind) (eqb (slot ts y).strukt (field_type p fn ts x f).strukt) a1.0 in
                  let a3 = and_parts (not (is_var (field_mode p fn ts x f)) && is_owned (field_type p fn ts x f).kind) (is_alias (slot ts y).kind) a2.0 in
                  let a4 = and_parts (not (is_var (field_mode p fn ts x f))) (is_owned (field_type p fn ts x f).kind) a3.0 in
                  let t = tentative_mode (slot ts x).kind (field_mode p fn ts x f) hold m.1 a4.0 in
                  more_keeps x f n (subst⁻¹ (λ k. may_withhold k (get_or (get_or ss (slot ts x).strukt []) f no_field) ≡ true) t.0 (and_from (is_val (field_mode p fn ts x f) || is_spec (field_mode p fn ts x f)) (is_owned (field_type p fn ts x f).kind) t.1 a4.1))
            ])
      ]

  pub low : (z : ℕ) → free p fn ts z ≡ true → length ts < 16
  low z h =
      let a = and_parts (eqb z (length ts)) (ltb z 16) h in
      omega (arith, eqb-true z (length ts) a.0, ltb-true z 16 a.1)

  pub new_keeps : (k : Kind) (s : ℕ) → is_number k ≡ false → ltb s (length ss) ≡ true → keeps ss (type k s 0) ≡ true
  new_keeps k s n h = keeps_make ss (type k s 0) n refl h (empty_fits k (get_or ss s []))

  pub bound_keeps : (op : Op) → first (premises p fn ts op) ≡ None → BoundKeeps ss ts (bound p fn ts op)
  bound_keeps (New z s) h = (new_keeps Pristine s refl (premise (premises p fn ts (New z s)) h 1), low z (premise (premises p fn ts (New z s)) h 0))
  bound_keeps (Null z s) h = (new_keeps Pristine s refl (premise (premises p fn ts (Null z s)) h 1), low z (premise (premises p fn ts (Null z s)) h 0))
  bound_keeps (Int z n) h = (refl, low z (premise (premises p fn ts (Int z n)) h 0))
  bound_keeps (Share z x) h =
      (share_keeps x (not-true (is_pristine (slot ts x).kind) (premise (premises p fn ts (Share z x)) h 2)), low z (premise (premises p fn ts (Share z x)) h 0))
  bound_keeps (Own z x) h =
      let k = premise (premises p fn ts (Own z x)) h 2 in
      let n = holds (slot ts x).kind (or_right (is_owned (slot ts x).kind) (is_pristine (slot ts x).kind) k) in
      (new_keeps Owned (slot ts x).strukt refl (keeps_parts ss (slot ts x) n (of_slot x)).1, low z (premise (premises p fn ts (Own z x)) h 0))
  bound_keeps (Get z x f) h =
      (read_keeps ss p fn ts (field_type p fn ts x f) 0 (of_field x f) (λ n. empty_fits Alias (get_or ss (field_type p fn ts x f).strukt [])), low z (premise (premises p fn ts (Get z x f)) h 0))
  bound_keeps (Take z x f) h = (of_field x f, low z (premise (premises p fn ts (Take z x f)) h 0))
  bound_keeps (Set z x f y) h = (set_op_keeps z x f y h, low z (premise (premises p fn ts (Set z x f y)) h 0))
  bound_keeps (Add z x y) h = (refl, low z (premise (premises p fn ts (Add z x y)) h 0))
  bound_keeps (Call z n args) h = (formed.results n, low z (premise (premises p fn ts (Call z n args)) h 0))
  bound_keeps (Fork n args) h = tt
  bound_keeps (Return x) h = tt
  bound_keeps (Again args) h = tt
  bound_keeps (Join n) h = tt
  bound_keeps (Emit x) h = tt
  bound_keeps (Ask t a b) h = tt

  pub yes_keeps : (t : Test) → first (asks p fn ts t) ≡ None → AllKeep ss (yes_types p fn ts t)
  yes_keeps (Nil x) h = all
  yes_keeps (Same x y) h = all
  yes_keeps (Equal x y) h = all
  yes_keeps (Less x y) h = all
  yes_keeps (Link x f y g) h = all
  yes_keeps (Unlink x f y g) h =
      let b = and_parts (there p fn ts x f && is_spec (field_mode p fn ts x f) && there p fn ts y g) (not (is_var (field_mode p fn ts y g))) (premise (asks p fn ts (Unlink x f y g)) h 2) in
      let c = and_parts (there p fn ts x f && is_spec (field_mode p fn ts x f)) (there p fn ts y g) b.0 in
      let d = and_parts (there p fn ts x f) (is_spec (field_mode p fn ts x f)) c.0 in
      let e = and_parts (eqb (slot ts y).strukt (field_type p fn ts x f).strukt) (flows (field_type p fn ts y g) (field_type p fn ts x f)) (premise (asks p fn ts (Unlink x f y g)) h 4) in
      let same : (slot ts y).strukt ≡ (field_type p fn ts x f).strukt = eqb-true (slot ts y).strukt (field_type p fn ts x f).strukt e.0 in
      let n = (sound_field x f).spec d.1 in
      let l = kind_lasts (field_type p fn ts x f).kind (sound_field x f).lasting n in
      let m : may_withhold (field_type p fn ts x f).kind (get_or (get_or ss (slot ts y).strukt []) g no_field) ≡ true =
      lasting_withholds (field_type p fn ts x f).kind (get_or (get_or ss (slot ts y).strukt []) g no_field) l (not-true (is_var (field_mode p fn ts y g)) b.1) (flows_reference (field_type p fn ts y g) (field_type p fn ts x f) e.1 n)
      in
      let m' : may_withhold (field_type p fn ts x f).kind (get_or (get_or ss (field_type p fn ts x f).strukt []) g no_field) ≡ true =
      subst (λ s. may_withhold (field_type p fn ts x f).kind (get_or (get_or ss s []) g no_field) ≡ true) same m
      in
      set_keeps ss ts y (withholding (field_type p fn ts x f) (2 ^ g)) all
      (withholding_keeps ss (field_type p fn ts x f) (2 ^ g) n (of_field x f) (λ g' q.
      subst (λ k. may_withhold (field_type p fn ts x f).kind (get_or (get_or ss (field_type p fn ts x f).strukt []) k no_field) ≡ true) (eqb-true g g' (sym (has_one g g') ∙ q)) m'))
  yes_keeps (Swap x f y w) h = set_keeps ss ts y (field_type p fn ts x f) all (of_field x f)
  yes_keeps (Try x f y) h =
      let a = and_parts (lasting p fn ts x) (is_pristine (slot ts y).kind) (premise (asks p fn ts (Try x f y)) h 1) in
      let d = and_parts (there p fn ts x f) (is_once (field_mode p fn ts x f)) (premise (asks p fn ts (Try x f y)) h 2) in
      set_keeps ss ts x _ all (test_keeps x f a.0 (once_lasts (field_mode p fn ts x f) d.1) ((sound_field x f).once d.1))
  yes_keeps (Fix x f y) h =
      let a = and_parts (lasting p fn ts x) (not (is_number (slot ts y).kind)) (premise (asks p fn ts (Fix x f y)) h 1) in
      let d = and_parts (there p fn ts x f) (is_spec (field_mode p fn ts x f)) (premise (asks p fn ts (Fix x f y)) h 2) in
      set_keeps ss ts x _ all (test_keeps x f a.0 (spec_lasts (field_mode p fn ts x f) d.1) ((sound_field x f).spec d.1))
  yes_keeps (Stable x f) h =
      let a = premise (asks p fn ts (Stable x f)) h 1 in
      let d = and_parts (there p fn ts x f) (is_once (field_mode p fn ts x f) || is_spec (field_mode p fn ts x f)) (premise (asks p fn ts (Stable x f)) h 2) in
      set_keeps ss ts x _ all
      (elim (or_cases (is_once (field_mode p fn ts x f)) (is_spec (field_mode p fn ts x f)) d.1) [
        | inl q ↦ test_keeps x f a (once_lasts (field_mode p fn ts x f) q) ((sound_field x f).once q)
        | inr q ↦ test_keeps x f a (spec_lasts (field_mode p fn ts x f) q) ((sound_field x f).spec q)
      ])

pub fit_if : (p : Program) (b : Bool) (R S : State) → Fit p R → Fit p S → Fit p (cond b R S)
fit_if p true R S h k = h
fit_if p false R S h k = k

pub close_fit : (p : Program) (n : ℕ) (ts : List Ty) (bs : List Block) → Fit p (state ts bs) → Fit p (close n ts bs)
close_fit p n ts [] h = h
close_fit p n ts (Yes k e s ∷ bs) h =
    let low : length bs ≤ 7 = omega (arith, h.levels) in
    fit_if p (eqb e n) _ _
    (fit_if p (eqb k 0) _ _
    (close_fit p n s bs (record { types = h.saved.0; slots = h.saved.1; saved = h.saved.2; levels = low }))
    (record { types = h.saved.0; slots = h.saved.1; saved = h.saved; levels = h.levels }))
    h
close_fit p n ts (No e s ∷ bs) h =
    let low : length bs ≤ 7 = omega (arith, h.levels) in
    fit_if p (eqb e n) _ _
    (close_fit p n s bs (record { types = h.saved.0; slots = h.saved.1; saved = h.saved.2; levels = low }))
    h

pub grown_fit : (p : Program) (S : State) (o : Option Ty) → Fit p S → BoundKeeps p.structs S.types o → Fit p (state (grown S.types o) S.blocks)
grown_fit p S None h k = h
grown_fit p S (Some t) h k = record {
  types = push_keeps p.structs S.types t h.types k.0;
  slots = omega (arith, length-append S.types (t ∷ []), k.1);
  saved = h.saved;
  levels = h.levels;
}

module _ (p : Program) (fn : Function) (formed : Formed p) where
  abbrev pub MovesFit : ℕ → State → Op → Type 0
  MovesFit i S op = Fit p (move i S (grown S.types (bound p fn S.types op)) (yes_types p fn S.types) (shape op))

  pub closed_fit : (i : ℕ) (S : State) (op : Op) → Fit p S → first (premises p fn S.types op) ≡ None → Fit p (close (suc i) (grown S.types (bound p fn S.types op)) S.blocks)
  closed_fit i S op h k =
      close_fit p (suc i) (grown S.types (bound p fn S.types op)) S.blocks (grown_fit p S (bound p fn S.types op) h (bound_keeps p fn S.types formed h.types op k))

  pub moves_fit : (size i : ℕ) (S : State) (op : Op) → Fit p S → first (premises p fn S.types op) ≡ None → placed size i S.blocks (shape op) ≡ true → MovesFit i S op
  moves_fit size i S (New a b) h k q = closed_fit i S (New a b) h k
  moves_fit size i S (Null a b) h k q = closed_fit i S (Null a b) h k
  moves_fit size i S (Int a b) h k q = closed_fit i S (Int a b) h k
  moves_fit size i S (Share a b) h k q = closed_fit i S (Share a b) h k
  moves_fit size i S (Own a b) h k q = closed_fit i S (Own a b) h k
  moves_fit size i S (Get a b c) h k q = closed_fit i S (Get a b c) h k
  moves_fit size i S (Take a b c) h k q = closed_fit i S (Take a b c) h k
  moves_fit size i S (Set a b c d) h k q = closed_fit i S (Set a b c d) h k
  moves_fit size i S (Add a b c) h k q = closed_fit i S (Add a b c) h k
  moves_fit size i S (Call a b c) h k q = closed_fit i S (Call a b c) h k
  moves_fit size i S (Fork a b) h k q = closed_fit i S (Fork a b) h k
  moves_fit size i S (Return a) h k q = closed_fit i S (Return a) h k
  moves_fit size i S (Again a) h k q = closed_fit i S (Again a) h k
  moves_fit size i S (Join a) h k q = closed_fit i S (Join a) h k
  moves_fit size i S (Emit a) h k q = closed_fit i S (Emit a) h k
  moves_fit size i S (Ask t a b) h k q =
      let c = and_parts (not (eqb a 0) && inside size (suc i + a + b) S.blocks) (ltb (length S.blocks) 7) q in
      record {
        types = yes_keeps p fn S.types formed h.types t k;
        slots = omega (arith, yes_length p fn S.types t, h.slots);
        saved = (h.types, h.slots, h.saved);
        levels = ltb-true (length S.blocks) 7 c.1;
      }

  pub fit_at : Accepted p fn → AllKeep p.structs fn.params → length fn.params ≤ 4 → (i : ℕ) → i ≤ length fn.records → Fit p (before p fn i)
  fit_at ok ps few zero l = record { types = ps; slots = omega arith; saved = tt; levels = omega arith }
  fit_at ok ps few (suc i) l =
      let S = before p fn i in
      let g = good p fn i S (record_at fn i) (ok i l) in
      subst⁻¹ (Fit p) (before_suc p fn i l ∙ after_good p fn i S (record_at fn i) g)
      (moves_fit (length fn.records) i S g.op (fit_at ok ps few i (omega arith)) g.held g.place)

pub fit_stands : FitStands
fit_stands p k formed ok i l = fit_at p (callee p k) formed ok (formed.params k) (formed.few k) i l
