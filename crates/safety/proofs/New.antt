-- A new object, with one pristine slot for its only name.
use Rattle.std.proofs.Common.{◌≡◌, ℕ, suc, ◌<◌, Bool, true, false, ◌⊎◌, sym, refl, ap, ◌∙◌, ap₂, subst₂, inl, inr, arith}
use native.Mathlib.Decide.{ℕ_discrete}
use Rattle.table.specs.declared.types.Mode.TheVariants.{Val}
use Rattle.machine.specs.declared.threads.Slot.{Slot}
use Rattle.machine.specs.declared.threads.Slot.TheVariants.{Empty, Null, Number, Reference}
use Rattle.safety.specs.Model.{alias, owned, pristine, Claim, num, pt, Content, fnum, falias, fowned, Structs, Cell, Heap, Slots, Spot, Entry, out, here, Place, at, cell, put, name_of, own_ty, pris_ty, name_e, own_e, pris_e, name_c, own_c, field_at, Dead, Conf, EntryOK, CellOK, Inv, name, own, pris}
use Rattle.safety.specs.Fields.{zeroed, grow, first}
use Rattle.safety.proofs.Update.{put_at, put_off, not_both, choose_yes, choose_no}
use Rattle.safety.proofs.Places.{Sub, unique_new, sole_new}
use Rattle.safety.proofs.Frame.{Grows, entry_frame, cell_frame}
use Rattle.safety.proofs.Scope.{put_ind}

pub name_zeroed : (T : Content) → name_c T zeroed ≡ 0
name_zeroed fnum = refl
name_zeroed (falias s) = refl
name_zeroed (fowned s) = refl

pub own_zeroed : (T : Content) → own_c T zeroed ≡ 0
own_zeroed fnum = refl
own_zeroed (falias s) = refl
own_zeroed (fowned s) = refl

pub own_name_ty : (t : Claim) (n o : ℕ) → own_ty t n ≡ suc o → n ≡ suc o
own_name_ty num n o h = omega arith
own_name_ty (pt alias s w) n o h = omega arith
own_name_ty (pt owned s w) n o h = h
own_name_ty (pt pristine s w) n o h = h

pub pris_own_ty : (t : Claim) (n o : ℕ) → pris_ty t n ≡ suc o → own_ty t n ≡ suc o
pris_own_ty num n o h = h
pris_own_ty (pt alias s w) n o h = h
pris_own_ty (pt owned s w) n o h = omega arith
pris_own_ty (pt pristine s w) n o h = h

pub own_name_e : (e : Entry) (o : ℕ) → own_e e ≡ suc o → name_e e ≡ suc o
own_name_e out o h = h
own_name_e (here v t ts) o h = own_name_ty t (name_of v) o h

pub pris_own_e : (e : Entry) (o : ℕ) → pris_e e ≡ suc o → own_e e ≡ suc o
pris_own_e out o h = h
pris_own_e (here v t ts) o h = pris_own_ty t (name_of v) o h

own_live : (b : Bool) (n o : ℕ) → Rattle.safety.specs.Model.live b n ≡ suc o → n ≡ suc o
own_live true n o h = omega arith
own_live false n o h = h

pub own_name_c : (T : Content) (c : Cell) (o : ℕ) → own_c T c ≡ suc o → name_c T c ≡ suc o
own_name_c fnum c o h = h
own_name_c (falias s) c o h = omega arith
own_name_c (fowned s) c o h = own_live c.dead c.word o h

module _ (St : Structs) where
  -- an owner names what it owns
  pub own_name : (σ : Slots) (H : Heap) (r : Place) (o : ℕ) → own St σ H r ≡ suc o → name St σ H r ≡ suc o
  own_name σ H (at s) o h = own_name_e (σ s) o h
  own_name σ H (cell p f) o h = own_name_c (field_at St H p f) (H.mem p f) o h

  low_val : (H : Heap) (v : Slot) (t : Claim) (o : ℕ) → Conf St H v t → name_of v ≡ suc o → o < H.size
  low_val H Empty t o c h = absurd c
  low_val H Null t o c h = omega arith
  low_val H (Number n) t o c h = omega arith
  low_val H (Reference p) num o c h = absurd c
  low_val H (Reference p) (pt k s w) o c h = let e : p ≡ o = cc in let l = c.low in omega arith

  low_entry : (H : Heap) (e : Entry) (o : ℕ) → EntryOK St H e → name_e e ≡ suc o → o < H.size
  low_entry H out o c h = omega arith
  low_entry H (here v t ts) o c h = low_val H v t o c.0 h

  -- every name is of an object that is there
  pub low : (σ : Slots) (H : Heap) → Inv St σ H → (r : Place) (o : ℕ) → name St σ H r ≡ suc o → o < H.size
  low σ H inv (at s) o h = low_entry H (σ s) o (inv.slots s) h
  low σ H inv (cell p f) o h = ((inv.cells p f).points o h).0

  pub zero_cell : (H : Heap) (p f : ℕ) → H.mem p f ≡ zeroed → CellOK St H p f
  zero_cell H p f e = record {
    points = λ q h. let i : name_c (field_at St H p f) (H.mem p f) ≡ 0 = ap (λ (k : Cell). name_c (field_at St H p f) k) e ∙ name_zeroed (field_at St H p f) in
        let z : ⊥ = omega arith in absurd z;
    whole = λ q h g d. let i : own_c (field_at St H p f) (H.mem p f) ≡ 0 = ap (λ (k : Cell). own_c (field_at St H p f) k) e ∙ own_zeroed (field_at St H p f) in
        omega arith;
    marked = λ h. absurd (not_both h (ap (λ (k : Cell). k.mark) e));
    fresh = λ h i. ap (λ (k : Cell). k.word) e;
    dying = λ h. absurd (not_both h (ap (λ (k : Cell). k.dead) e));
  }

  module _ (σ : Slots) (H : Heap) (z : Spot) (s : ℕ) (inv : Inv St σ H) where
    new_kind : (grow H s).kind H.size ≡ s
    new_kind = choose_yes (ℕ_discrete H.size H.size) s (H.kind H.size) refl

    old_kind : (o : ℕ) → ¬ (o ≡ H.size) → (grow H s).kind o ≡ H.kind o
    old_kind o n = choose_no (ℕ_discrete o H.size) s (H.kind o) n

    new_mem : (f : ℕ) → (grow H s).mem H.size f ≡ zeroed
    new_mem f = choose_yes (ℕ_discrete H.size H.size) zeroed (H.mem H.size f) refl

    old_mem : (o f : ℕ) → ¬ (o ≡ H.size) → (grow H s).mem o f ≡ H.mem o f
    old_mem o f n = choose_no (ℕ_discrete o H.size) zeroed (H.mem o f) n

    apart : (o : ℕ) → o < H.size → ¬ (o ≡ H.size)
    apart o l e = omega arith

    grows : Grows St H (grow H s)
    grows = record {
      more = omega arith;
      kinds = λ o l. old_kind o (apart o l);
      stays = λ o g l x. subst₂ (λ (k : ℕ) (c : Cell). (St.mode k g ≡ Val) ⊎ (c.mark ≡ true)) (sym (old_kind o (apart o l))) (sym (old_mem o g (apart o l))) x;
    }

    old_dead : (o g : ℕ) → Dead St (grow H s) o g → Dead St H o g
    old_dead o g d = go (ℕ_discrete o H.size)
      where
        go : Dec (o ≡ H.size) → Dead St H o g
        go (yes e) = let d' : ((grow H s).mem H.size g).dead ≡ true = rw e at d in absurd (not_both d' (ap (λ (k : Cell). k.dead) (new_mem g)))
        go (no n) = ap (λ (k : Cell). k.dead) (sym (old_mem o g n)) ∙ d

    old_mark : (o g : ℕ) → (H.mem o g).mark ≡ false → ((grow H s).mem o g).mark ≡ false
    old_mark o g d = go (ℕ_discrete o H.size)
      where
        go : Dec (o ≡ H.size) → ((grow H s).mem o g).mark ≡ false
        go (yes e) = rw e (ap (λ (k : Cell). k.mark) (new_mem g))
        go (no n) = ap (λ (k : Cell). k.mark) (old_mem o g n) ∙ d

    off : (r : Place) → ¬ (r ≡ at z) → Sub (name St (put σ z (first H s)) (grow H s) r) (name St σ H r)
    off (at t) n = inr (ap name_e (put_off σ z (first H s) t (λ k. n (ap at k))))
    off (cell o f) n = go (ℕ_discrete o H.size)
      where
        go : Dec (o ≡ H.size) → Sub (name_c (field_at St (grow H s) o f) ((grow H s).mem o f)) (name_c (field_at St H o f) (H.mem o f))
        go (yes i) = inl (rw (i, new_mem f) (name_zeroed (field_at St (grow H s) H.size f)))
        go (no m) = inr (ap₂ (λ (k : ℕ) (c : Cell). name_c (St.field k f) c) (old_kind o m) (old_mem o f m))

    off_own : (r : Place) → ¬ (r ≡ at z) → Sub (own St (put σ z (first H s)) (grow H s) r) (own St σ H r)
    off_own (at t) n = inr (ap own_e (put_off σ z (first H s) t (λ k. n (ap at k))))
    off_own (cell o f) n = go (ℕ_discrete o H.size)
      where
        go : Dec (o ≡ H.size) → Sub (own_c (field_at St (grow H s) o f) ((grow H s).mem o f)) (own_c (field_at St H o f) (H.mem o f))
        go (yes i) = inl (rw (i, new_mem f) (own_zeroed (field_at St (grow H s) H.size f)))
        go (no m) = inr (ap₂ (λ (k : ℕ) (c : Cell). own_c (St.field k f) c) (old_kind o m) (old_mem o f m))

    not_named : (r : Place) → ¬ (name St σ H r ≡ suc H.size)
    not_named r h = let l = low σ H inv r H.size h in omega arith

    pub new : Inv St (put σ z (first H s)) (grow H s)
    new = record {
      slots = put_ind (λ t x. EntryOK St (grow H s) x) σ z (first H s)
          (record { low = omega arith; struct = new_kind; part = (λ f. ap (λ (k : Cell). k.mark) (new_mem f), λ f d. absurd (not_both d (ap (λ (k : Cell). k.dead) (new_mem f)))) }, tt)
          (λ t n. entry_frame St H (grow H s) grows (σ t) (inv.slots t) (λ o h g d. inl (old_dead o g d)) (λ o h g d. old_dead o g d) (λ o h g d. old_mark o g d));
      cells = λ o f. cells' o f (ℕ_discrete o H.size);
      unique = unique_new (own St σ H) (own St (put σ z (first H s)) (grow H s)) (at z) H.size
          (ap own_e (put_at σ z (first H s))) off_own (λ r h. not_named r (own_name σ H r H.size h)) inv.unique;
      sole = sole_new (pris St σ) (pris St (put σ z (first H s))) (name St σ H) (name St (put σ z (first H s)) (grow H s)) z H.size
          (ap pris_e (put_at σ z (first H s)))
          (λ t n. inr (ap pris_e (put_off σ z (first H s) t n)))
          (ap name_e (put_at σ z (first H s))) off not_named
          (λ t h. not_named (at t) (own_name σ H (at t) H.size (pris_own_e (σ t) H.size h))) inv.sole;
    }
      where
        cells' : (o f : ℕ) → Dec (o ≡ H.size) → CellOK St (grow H s) o f
        cells' o f (yes i) = zero_cell (grow H s) o f (rw i (new_mem f))
        cells' o f (no n) = cell_frame St H (grow H s) grows o f (old_kind o n) (old_mem o f n) (inv.cells o f) (λ p h g d. inl (old_dead p g d)) (λ p h g d. old_dead p g d)
