-- Types, flow and sets of the rules, as the core of soundness has them.
use Rattle.std.proofs.Common.{◌≡◌, ℕ, ◌<◌, ◌≤◌, Bool, true, false, cond, ◌&&◌, ◌||◌, eqb, ltb, ◌⊎◌, List, [], length, get_or, sym, refl, ap, ◌∙◌, subst, inl, inr, arith}
use Rattle.std.proofs.lemmas.List.{get_or_past}
use Rattle.std.proofs.lemmas.Bool.{eqb-true, eq-eqb, and_parts, cases_lt, cases_eq}
use Rattle.table.specs.declared.types.Kind.{Kind}
use Rattle.table.specs.declared.types.Kind.TheVariants.{Number, Alias, Owned, Pristine}
use Rattle.table.specs.declared.types.Ty.{Ty}
use Rattle.table.specs.declared.types.Field.{Field}
use Rattle.table.specs.Types.{is_number, is_owned, is_pristine, may_withhold, set_fits, keeps}
use Rattle.rules.specs.Rules.{has, with, without, part, flows, flows_by, no_field}
use Rattle.rules.proofs.Fit.{fits_bit, never_withheld}
use Rattle.rules.proofs.Sets.{has_none, part_within, without_within, without_lost, without_kept}
use Rattle.machine.specs.Values.{reference_of, left, value_of}
use Rattle.machine.specs.declared.threads.Slot.TheVariants as V
use Rattle.machine.specs.declared.threads.Slot.{Slot}
use Rattle.safety.specs.Model.{Has}
use Rattle.safety.specs.Model as C
use Rattle.safety.specs.Fields.{Within, With, Without, Flows, ty_of, val_of, spent}
use Rattle.safety.specs.Frames.{kept}
use Rattle.safety.specs.Checked.{by_kind, core, field_by_kind, core_field}
use Rattle.safety.proofs.Mask.{with_or}

pub never : {X : Type 0} → ◌≡◌ {A = Bool} false true → X
never e = let z : ◌≡◌ {A = ℕ} 0 1 = cc in absurd (omega arith)

-- sets
pub within_core : (v w : ℕ) → part v w ≡ true → Within v w
within_core v w h f e = eqb-true _ 1 (part_within v w h f (eq-eqb _ 1 e))

pub flow_kinds : (k k' : Kind) (s s' w w' : ℕ) → s ≡ s' → flows_by k k' w w' ≡ true → Flows (by_kind k s w) (by_kind k' s' w')
flow_kinds Number Number s s' w w' e h = tt
flow_kinds Number Alias s s' w w' e h = never h
flow_kinds Number Owned s s' w w' e h = never h
flow_kinds Number Pristine s s' w w' e h = never h
flow_kinds Alias Number s s' w w' e h = never h
flow_kinds Alias Alias s s' w w' e h = (e, within_core w' w h)
flow_kinds Alias Owned s s' w w' e h = never h
flow_kinds Alias Pristine s s' w w' e h = never h
flow_kinds Owned Number s s' w w' e h = never h
flow_kinds Owned Alias s s' w w' e h = (e, within_core w' w h)
flow_kinds Owned Owned s s' w w' e h = (e, eqb-true w w' h)
flow_kinds Owned Pristine s s' w w' e h = never h
flow_kinds Pristine Number s s' w w' e h = never h
flow_kinds Pristine Alias s s' w w' e h = never h
flow_kinds Pristine Owned s s' w w' e h = let a = and_parts (eqb w 0) (eqb w' 0) h in (e, (eqb-true w 0 a.0, eqb-true w' 0 a.1))
flow_kinds Pristine Pristine s s' w w' e h = (e, eqb-true w w' h)

pub flow_core : (t u : Ty) → flows t u ≡ true → Flows (core t) (core u)
flow_core t u h = let a = and_parts (eqb t.strukt u.strukt) (flows_by t.kind u.kind t.withheld u.withheld) h in
    flow_kinds t.kind u.kind t.strukt u.strukt t.withheld u.withheld (eqb-true t.strukt u.strukt a.0) a.1

-- a field's type, by its kind
ty_kinds : (k : Kind) (s w : ℕ) → is_pristine k ≡ false → w ≡ 0 → ty_of (field_by_kind k s) ≡ by_kind k s w
ty_kinds Number s w h e = refl
ty_kinds Alias s w h e = ap (λ (v : ℕ). C.pt C.alias s v) (sym e)
ty_kinds Owned s w h e = ap (λ (v : ℕ). C.pt C.owned s v) (sym e)
ty_kinds Pristine s w h e = never (sym h)

pub ty_core : (t : Ty) → is_pristine t.kind ≡ false → t.withheld ≡ 0 → ty_of (core_field t) ≡ core t
ty_core t h e = ty_kinds t.kind t.strukt t.withheld h e

pub value_kinds : (k : Kind) (s n : ℕ) → cond (is_number k) (V.Number n) (reference_of n) ≡ val_of (field_by_kind k s) n
value_kinds Number s n = refl
value_kinds Alias s n = refl
value_kinds Owned s n = refl
value_kinds Pristine s n = refl

pub value_core : (t : Ty) (n : ℕ) → value_of t n ≡ val_of (core_field t) n
value_core t n = value_kinds t.kind t.strukt n

left_kinds : (k : Kind) (s : ℕ) (v : Slot) → cond (is_owned k || is_pristine k) V.Null v ≡ spent (field_by_kind k s) v
left_kinds Number s v = refl
left_kinds Alias s v = refl
left_kinds Owned s v = refl
left_kinds Pristine s v = refl

pub left_core : (t : Ty) (v : Slot) → left t v ≡ spent (core_field t) v
left_core t v = left_kinds t.kind t.strukt v

kept_kinds : (k : Kind) (s w : ℕ) (v : Slot) → cond (is_owned k || is_pristine k) V.Null v ≡ kept (by_kind k s w) v
kept_kinds Number s w v = refl
kept_kinds Alias s w v = refl
kept_kinds Owned s w v = refl
kept_kinds Pristine s w v = refl

pub kept_core : (t : Ty) (v : Slot) → left t v ≡ kept (core t) v
kept_core t v = kept_kinds t.kind t.strukt t.withheld v

-- the set of a type that keeps its rules
pub set_of : (ss : List (List Field)) (t : Ty) → keeps ss t ≡ true → set_fits t.kind (get_or ss t.strukt []) t.withheld ≡ true ⊎ (t.withheld ≡ 0)
set_of ss t h = go (is_number t.kind) (and_parts _ _ h).1
  where
    go : (b : Bool) → cond b (eqb t.strukt 0 && eqb t.withheld 0) (ltb t.strukt (length ss) && set_fits t.kind (get_or ss t.strukt []) t.withheld) ≡ true
        → set_fits t.kind (get_or ss t.strukt []) t.withheld ≡ true ⊎ (t.withheld ≡ 0)
    go true k = inr (eqb-true _ _ (and_parts _ _ k).1)
    go false k = inl (and_parts _ _ k).1

pub may_field : (ss : List (List Field)) (t : Ty) (g : ℕ) → keeps ss t ≡ true → Has t.withheld g → may_withhold t.kind (get_or (get_or ss t.strukt []) g no_field) ≡ true
may_field ss t g h e = go (set_of ss t h)
  where
    go : set_fits t.kind (get_or ss t.strukt []) t.withheld ≡ true ⊎ (t.withheld ≡ 0) → may_withhold t.kind (get_or (get_or ss t.strukt []) g no_field) ≡ true
    go (inl k) = fits_bit t.kind (get_or ss t.strukt []) t.withheld g k (eq-eqb _ 1 e)
    go (inr k) = let z : ◌≡◌ {A = Bool} false true = sym (has_none g) ∙ ap (λ n. has n g) (sym k) ∙ eq-eqb _ 1 e in never z

pub field_low : (ss : List (List Field)) (t : Ty) (g : ℕ) → keeps ss t ≡ true → Has t.withheld g → g < length (get_or ss t.strukt [])
field_low ss t g h e = elim (cases_lt g (length (get_or ss t.strukt []))) [
  | inl l ↦ l
  | inr l ↦ absurd (never_withheld t.kind (subst (λ (x : Field). may_withhold t.kind x ≡ true) (get_or_past (get_or ss t.strukt []) g no_field l) (may_field ss t g h e)))
]

pub without_core : (ss : List (List Field)) (t : Ty) (f : ℕ) → keeps ss t ≡ true → length (get_or ss t.strukt []) ≤ 8 → f < 8 → Without t.withheld f (without t.withheld f)
without_core ss t f h n l = record {
  within = λ g e. eqb-true _ 1 (without_within t.withheld f g (eq-eqb _ 1 e));
  lost = λ e. never (sym (without_lost t.withheld f l) ∙ eq-eqb _ 1 e);
  kept = λ g e. elim (cases_eq f g) [
    | inl q ↦ inr (sym q)
    | inr d ↦ inl (eqb-true _ 1 (without_kept t.withheld f g l (let a = field_low ss t g h e in omega arith) d (eq-eqb _ 1 e)))
  ];
}

pub with_core : (w f : ℕ) → With w f (with w f)
with_core w f = with_or w f
