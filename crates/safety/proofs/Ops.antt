-- Each step of the machine keeps the invariant.
use Rattle.std.proofs.Common.{◌≡◌, ℕ, zero, suc, ◌≤◌, Bool, true, false, List, [], sym, refl, ap, ◌∙◌, subst, inl, inr, arith}
use Rattle.table.specs.declared.types.Mode.TheVariants.{Var, Val, Once, Spec}
use Rattle.table.specs.declared.types.Mode.{Mode}
use Rattle.machine.specs.declared.threads.Slot.{Slot}
use Rattle.machine.specs.declared.threads.Slot.TheVariants.{Empty, Null, Number, Reference}
use Rattle.machine.specs.Values.{reference_of, word_of}
use Rattle.safety.specs.Model.{Right, alias, owned, pristine, Claim, num, pt, Content, fnum, falias, fowned, Structs, Heap, Slots, Spot, Entry, here, at, cell, put, wr, name_of, rank, own_ty, pris_ty, name_e, own_e, pris_e, mode_at, field_at, EntryOK, Inv}
use Rattle.safety.specs.Fields.{zeroed, Flows, ty_of, val_of, lent}
use Rattle.safety.specs.Step.{poke, erase, shared, Plain, Falls, ends, stays, pops, Sound}
use Rattle.safety.proofs.Update.{at_inj}
use Rattle.safety.proofs.Places.{Sub}
use Rattle.safety.proofs.Flow.{flow, flow_rank, flow_lent, pris_low, own_low, own_high, RefVal}
use Rattle.safety.proofs.Cells.{name_val, not_cell_at}
use Rattle.safety.proofs.Erase.{off, erase_wr}
use Rattle.safety.proofs.Scope.{lessen, bind, move}
use Rattle.safety.proofs.Flow.{read_conf}
use Rattle.safety.proofs.Cells.{claim}

never : {A : Type 0} (a b : Mode) → a ≡ b → ¬ (a ≡ b) → A
never a b e n = absurd (n e)

pub var_once : (m : Mode) → m ≡ Var → m ≡ Once → ⊥
var_once m a b = let z : ◌≡◌ {A = ℕ} 0 1 = cc in omega arith

pub var_spec : (m : Mode) → m ≡ Var → m ≡ Spec → ⊥
var_spec m a b = let z : ◌≡◌ {A = ℕ} 0 1 = cc in omega arith

pub val_spec : (m : Mode) → m ≡ Val → m ≡ Spec → ⊥
val_spec m a b = let z : ◌≡◌ {A = ℕ} 0 1 = cc in omega arith

pub val_once : (m : Mode) → m ≡ Val → m ≡ Once → ⊥
val_once m a b = let z : ◌≡◌ {A = ℕ} 0 1 = cc in omega arith

pub spec_once : (m : Mode) → m ≡ Spec → m ≡ Once → ⊥
spec_once m a b = let z : ◌≡◌ {A = ℕ} 0 1 = cc in omega arith

pub off_true : (b : Bool) → (b ≡ true → ⊥) → b ≡ false
off_true true h = absurd (h refl)
off_true false h = refl

pub val_back : (v : Slot) → RefVal v → reference_of (word_of v) ≡ v
val_back Empty h = absurd h
val_back Null h = refl
val_back (Number n) h = absurd h
val_back (Reference o) h = refl

pub word_ref : (n : ℕ) → word_of (reference_of n) ≡ n
word_ref zero = refl
word_ref (suc n) = refl

pub shared_rank : (t : Claim) → rank (shared t) ≡ 0
shared_rank num = refl
shared_rank (pt k s w) = refl

pub plain_rank : (k : Right) (s w : ℕ) → Plain k → rank (pt k s w) ≤ 1
plain_rank alias s w h = omega arith
plain_rank owned s w h = omega arith
plain_rank pristine s w h = absurd h

lent_own : (T : Content) (n : ℕ) → own_ty (lent T) n ≡ 0
lent_own fnum n = refl
lent_own (falias s) n = refl
lent_own (fowned s) n = refl

lent_pris : (T : Content) (n : ℕ) → pris_ty (lent T) n ≡ 0
lent_pris fnum n = refl
lent_pris (falias s) n = refl
lent_pris (fowned s) n = refl

sub_sub : {a b c : ℕ} → Sub a b → Sub b c → Sub a c
sub_sub (inl e) k = inl e
sub_sub (inr e) (inl k) = inl (e ∙ k)
sub_sub (inr e) (inr k) = inr (e ∙ k)

module _ (St : Structs) where
  pub at_slot : (σ : Slots) (H : Heap) (x : Spot) (e : Entry) → Inv St σ H → σ x ≡ e → EntryOK St H e
  at_slot σ H x e inv h = subst (λ (y : Entry). EntryOK St H y) h (inv.slots x)

  pub do_int : (σ : Slots) (H : Heap) (z : Spot) (n : ℕ) → Inv St σ H → Inv St (put σ z (here (Number n) num [])) H
  do_int σ H z n inv = bind St σ H z (here (Number n) num []) (cell 0 0) inv (tt, tt) refl refl (λ s h. absurd (not_cell_at h)) (inl refl)

  pub do_null : (σ : Slots) (H : Heap) (z : Spot) (s : ℕ) → Inv St σ H → Inv St (put σ z (here Null (pt pristine s 0) [])) H
  do_null σ H z s inv = bind St σ H z (here Null (pt pristine s 0) []) (cell 0 0) inv (tt, tt) refl refl (λ s h. absurd (not_cell_at h)) (inl refl)

  pub share_flow : (t : Claim) → rank t ≤ 1 → Flows t (shared t)
  share_flow num h = tt
  share_flow (pt alias s w) h = (refl, λ f x. x)
  share_flow (pt owned s w) h = (refl, λ f x. x)
  share_flow (pt pristine s w) h = let z : ⊥ = omega arith in absurd z

  -- a copy of what a slot has, as a number or an alias
  pub do_lend : (σ : Slots) (H : Heap) (z x : Spot) (v : Slot) (t t' : Claim) (ts : List Claim) → Inv St σ H → σ x ≡ here v t ts → Flows t t' → rank t' ≡ 0 → Inv St (put σ z (here v t' [])) H
  do_lend σ H z x v t t' ts inv ex f r = bind St σ H z (here v t' []) (at x) inv (flow St H v t t' (at_slot σ H x (here v t ts) inv ex).0 f, tt)
      (own_low t' (name_of v) r) (pris_low t' (name_of v) (omega arith))
      (λ s h. ap (λ (y : Spot). pris_e (σ y)) (sym (at_inj h)) ∙ ap pris_e ex ∙ pris_low t (name_of v) (flow_lent t t' f r)) (inr (ap name_e (sym ex)))

  pub do_get : (σ : Slots) (H : Heap) (z : Spot) (p f : ℕ) → Inv St σ H → Inv St (put σ z (here (val_of (field_at St H p f) (H.mem p f).word) (lent (field_at St H p f)) [])) H
  do_get σ H z p f inv = bind St σ H z (here (val_of (field_at St H p f) (H.mem p f).word) (lent (field_at St H p f)) []) (cell p f) inv (read_conf St H p f (inv.cells p f), tt)
      (lent_own (field_at St H p f) (name_of (val_of (field_at St H p f) (H.mem p f).word))) (lent_pris (field_at St H p f) (name_of (val_of (field_at St H p f) (H.mem p f).word)))
      (λ s h. absurd (not_cell_at h)) (inr (name_val (field_at St H p f) (H.mem p f)))

  pub do_give : (σ : Slots) (H : Heap) (z x : Spot) (v : Slot) (t t' : Claim) (ts : List Claim) → Inv St σ H → ¬ (z ≡ x) → σ x ≡ here v t ts → Flows t t' → 1 ≤ rank t'
      → Inv St (put (put σ x (here Null t ts)) z (here v t' [])) H
  do_give σ H z x v t t' ts inv n ex f r = move St σ H x z v t t' ts inv n ex (flow St H v t t' (at_slot σ H x (here v t ts) inv ex).0 f) r (flow_rank t t' f)

  own_sub : (u t : Claim) (n : ℕ) → rank u ≤ rank t → Sub (own_ty u n) (own_ty t n)
  own_sub num t n h = inl refl
  own_sub (pt alias s w) t n h = inl refl
  own_sub (pt owned s w) t n h = inr (sym (own_high t n h))
  own_sub (pt pristine s w) t n h = inr (sym (own_high t n (omega arith)))

  pris_sub : (u t : Claim) (n : ℕ) → rank u ≤ rank t → Sub (pris_ty u n) (pris_ty t n)
  pris_sub num t n h = inl refl
  pris_sub (pt alias s w) t n h = inl refl
  pris_sub (pt owned s w) t n h = inl refl
  pris_sub (pt pristine s w) num n h = let z : ⊥ = omega arith in absurd z
  pris_sub (pt pristine s w) (pt alias s' w') n h = let z : ⊥ = omega arith in absurd z
  pris_sub (pt pristine s w) (pt owned s' w') n h = let z : ⊥ = omega arith in absurd z
  pris_sub (pt pristine s w) (pt pristine s' w') n h = inr refl

  -- each of them, at once
  fall_all : (H : Heap) (e e' : Entry) → Falls e e' → EntryOK St H e → EntryOK St H e' × Sub (own_e e') (own_e e) × Sub (pris_e e') (pris_e e) × Sub (name_e e') (name_e e)
  fall_all H e e' ends c = (tt, inl refl, inl refl, inl refl)
  fall_all H e e' (stays i) c = (subst (λ (x : Entry). EntryOK St H x) i c, inr (ap own_e (sym i)), inr (ap pris_e (sym i)), inr (ap name_e (sym i)))
  fall_all H e e' (pops {v = v} {t = t} {u = u} {us = us} k) c =
      let r = fall_all H (here v u us) e' k (c.1.0, c.1.2) in
      (r.0, sub_sub r.1 (own_sub u t (name_of v) c.1.1), sub_sub r.2 (pris_sub u t (name_of v) c.1.1), r.3)

  pub do_fall : (σ σ' : Slots) (H : Heap) → Inv St σ H → ((s : Spot) → Falls (σ s) (σ' s)) → Inv St σ' H
  do_fall σ σ' H inv k = lessen St σ σ' H inv (λ s. (fall_all H (σ s) (σ' s) (k s) (inv.slots s)).0) (λ s. (fall_all H (σ s) (σ' s) (k s) (inv.slots s)).1)
      (λ s. (fall_all H (σ s) (σ' s) (k s) (inv.slots s)).2) (λ s. (fall_all H (σ s) (σ' s) (k s) (inv.slots s)).3)

  -- a var field is neither marked nor dead
  pub var_unmarked : (σ : Slots) (H : Heap) (p f : ℕ) → Inv St σ H → mode_at St H p f ≡ Var → (H.mem p f).mark ≡ false
  var_unmarked σ H p f inv h = off_true (H.mem p f).mark (λ e. elim ((inv.cells p f).marked e) [ inl a ↦ var_once (mode_at St H p f) h a | inr a ↦ var_spec (mode_at St H p f) h a ])

  pub var_live : (σ : Slots) (H : Heap) (p f : ℕ) → Inv St σ H → mode_at St H p f ≡ Var → (H.mem p f).dead ≡ false
  var_live σ H p f inv h = off_true (H.mem p f).dead (λ e. ((inv.cells p f).dying e).1 h)

  pub do_take : (σ : Slots) (H : Heap) (z : Spot) (p f : ℕ) → Inv St σ H → mode_at St H p f ≡ Var
      → Sound St (put σ z (here (val_of (field_at St H p f) (H.mem p f).word) (ty_of (field_at St H p f)) [])) (poke (erase H) p f 0 false)
  do_take σ H z p f inv h = (wr H p f zeroed, claim St σ H z p f [] inv (var_live σ H p f inv h) (var_unmarked σ H p f inv h) tt, erase_wr H (erase H) p f zeroed 0 false (off H p f) refl refl)
