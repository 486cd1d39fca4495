-- The changes of one cell: its content goes to a slot, or a slot's value goes to it, or it is marked.
use Rattle.std.proofs.Common.{◌≡◌, ℕ, suc, ◌<◌, Bool, true, false, ◌⊎◌, List, sym, refl, ap, ◌∙◌, subst, inl, inr, arith}
use Rattle.table.specs.declared.types.Mode.TheVariants.{Once, Spec}
use Rattle.machine.specs.declared.threads.Slot.{Slot}
use Rattle.safety.specs.Model.{alias, owned, Claim, pt, Content, fnum, falias, fowned, Structs, Cell, Heap, Slots, Spot, Entry, here, Place, at, cell, put, wr, name_of, own_ty, pris_ty, name_e, own_e, pris_e, name_c, own_c, struct_of, mode_at, field_at, Stable, Dead, Conf, Saved, EntryOK, CellOK, Inv, name, own, pris}
use Rattle.safety.specs.Fields.{zeroed, stored, Flows, ty_of, val_of, spent}
use Rattle.safety.proofs.Update.{put_at, at_inj, not_both, wr_at}
use Rattle.safety.proofs.Places.{Sub}
use Rattle.safety.proofs.Frame.{Grows, KeepA, KeepO, KeepP, conf_frame, saved_frame, entry_frame}
use Rattle.safety.proofs.Write.{wr_grows, wr_dead, wr_mark, write}
use Rattle.safety.proofs.Flow.{flow, flow_rank, flow_lent, own_zero, pris_zero, pris_low, own_high, name_ref, word_name, conf_ref, null_entry, load_conf, store_points, store_whole}
use Rattle.safety.proofs.New.{own_zeroed, name_zeroed, zero_cell}

pub not_cell_at : {s : Spot} {o f : ℕ} → cell o f ≡ at s → ⊥
not_cell_at e = let z : ◌≡◌ {A = ℕ} 0 1 = cc in omega arith

-- a value read from a field names what the field names
pub name_val : (T : Content) (c : Cell) → name_of (val_of T c.word) ≡ name_c T c
name_val fnum c = refl
name_val (falias s) c = name_ref c.word
name_val (fowned s) c = name_ref c.word

own_val : (T : Content) (c : Cell) → c.dead ≡ false → own_ty (ty_of T) (name_of (val_of T c.word)) ≡ own_c T c
own_val fnum c d = refl
own_val (falias s) c d = refl
own_val (fowned s) c d = rw d (name_ref c.word)

pris_val : (T : Content) (n : ℕ) → pris_ty (ty_of T) n ≡ 0
pris_val fnum n = refl
pris_val (falias s) n = refl
pris_val (fowned s) n = refl

module _ (St : Structs) where
  -- a cell that is not dead afterwards leaves every object as whole as it was
  pub calm : (H : Heap) (p f : ℕ) (c : Cell) → c.dead ≡ false → (o g : ℕ) → Dead St (wr H p f c) o g → Dead St H o g
  calm H p f c e o g d = elim (wr_dead St H p f c o g d) [ inl a ↦ a | inr a ↦ absurd (not_both a.2 e) ]

  -- the content of a cell goes to a slot that owns nothing, and leaves 0
  pub claim : (σ : Slots) (H : Heap) (z : Spot) (p f : ℕ) (ts : List Claim) → Inv St σ H → (H.mem p f).dead ≡ false → (H.mem p f).mark ≡ false
      → Saved St H (val_of (field_at St H p f) (H.mem p f).word) (ty_of (field_at St H p f)) ts
      → Inv St (put σ z (here (val_of (field_at St H p f) (H.mem p f).word) (ty_of (field_at St H p f)) ts)) (wr H p f zeroed)
  claim σ H z p f ts inv live unmarked saved = write St σ H z z e p f zeroed inv (record {
    keep = λ h. absurd (not_both h unmarked);
    need_a = λ r n m h d. absurd (not_both d refl);
    need_o = λ r n m l h d. absurd (not_both d refl);
    need_p = λ s n m h d. absurd (not_both d refl);
    entry = (conf_frame St H (wr H p f zeroed) G v t (load_conf St H p f (inv.cells p f) live) k_a k_o k_p, saved_frame St H (wr H p f zeroed) G v t ts saved k_a k_o k_p);
    beside = λ n. absurd (n refl);
    cellok = zero_cell St (wr H p f zeroed) p f (wr_at H p f zeroed);
    owns = inl (inr (own_val (field_at St H p f) (H.mem p f) live), inl (own_zeroed (field_at St H p f)));
    giver = cell p f;
    plain = λ s h. absurd (not_cell_at h);
    prist = inl (pris_val (field_at St H p f) (name_of v));
    slot_name = inr (name_val (field_at St H p f) (H.mem p f));
    cell_name = inl (inl (name_zeroed (field_at St H p f)));
  })
    where
      v : Slot
      v = val_of (field_at St H p f) (H.mem p f).word

      t : Claim
      t = ty_of (field_at St H p f)

      e : Entry
      e = here v t ts

      G : Grows St H (wr H p f zeroed)
      G = wr_grows St H p f zeroed (λ h. absurd (not_both h unmarked))

      k_a : KeepA St H (wr H p f zeroed) (name_of v)
      k_a = λ o h g d. inl (calm H p f zeroed refl o g d)

      k_o : KeepO St H (wr H p f zeroed) (own_ty t (name_of v))
      k_o = λ o h g d. calm H p f zeroed refl o g d

      k_p : KeepP St H (wr H p f zeroed) (pris_ty t (name_of v))
      k_p = λ o h g d. wr_mark St H p f zeroed o g (λ i k. absurd (not_both k refl)) d

  -- a slot's value goes to a cell whose type it flows to; where that type is owned, the slot is left null
  module _ (σ : Slots) (H : Heap) (z : Spot) (p f : ℕ) (m : Bool) (v : Slot) (t : Claim) (ts : List Claim) (inv : Inv St σ H) (ez : σ z ≡ here v t ts) (fl : Flows t (ty_of (field_at St H p f)))
      (keep : (H.mem p f).mark ≡ true → m ≡ true) (mode : m ≡ true → (mode_at St H p f ≡ Once) ⊎ (mode_at St H p f ≡ Spec)) (fresh : mode_at St H p f ≡ Once → m ≡ true)
      (seen : m ≡ true → (s : Spot) → pris St σ s ≡ suc p → ⊥) where
    put_conf : Conf St H v t
    put_conf = (subst (λ (y : Entry). EntryOK St H y) ez (inv.slots z)).0

    put_grows : Grows St H (wr H p f (stored v m))
    put_grows = wr_grows St H p f (stored v m) keep

    put_conf' : Conf St (wr H p f (stored v m)) v (ty_of (field_at St H p f))
    put_conf' = conf_frame St H (wr H p f (stored v m)) put_grows v (ty_of (field_at St H p f)) (flow St H v t (ty_of (field_at St H p f)) put_conf fl)
        (λ o h g d. inl (calm H p f (stored v m) refl o g d))
        (λ o h g d. calm H p f (stored v m) refl o g d)
        (λ o h. let i : pris_ty (ty_of (field_at St H p f)) (name_of v) ≡ 0 = pris_val (field_at St H p f) (name_of v) in let z : ⊥ = omega arith in absurd z)

    put_entry : (T : Content) → Flows t (ty_of T) → EntryOK St (wr H p f (stored v m)) (here (spent T v) t ts)
    put_entry fnum fl = kept
      where
        kept : EntryOK St (wr H p f (stored v m)) (here v t ts)
        kept = entry_frame St H (wr H p f (stored v m)) put_grows (here v t ts) (subst (λ (y : Entry). EntryOK St H y) ez (inv.slots z))
            (λ o h g d. inl (calm H p f (stored v m) refl o g d))
            (λ o h g d. calm H p f (stored v m) refl o g d)
            (λ o h g d. wr_mark St H p f (stored v m) o g (λ i k. absurd (seen k z (ap pris_e ez ∙ h ∙ ap suc i))) d)
    put_entry (falias s) fl = entry_frame St H (wr H p f (stored v m)) put_grows (here v t ts) (subst (λ (y : Entry). EntryOK St H y) ez (inv.slots z))
        (λ o h g d. inl (calm H p f (stored v m) refl o g d))
        (λ o h g d. calm H p f (stored v m) refl o g d)
        (λ o h g d. wr_mark St H p f (stored v m) o g (λ i k. absurd (seen k z (ap pris_e ez ∙ h ∙ ap suc i))) d)
    put_entry (fowned s) fl = null_entry St H (wr H p f (stored v m)) v t ts (conf_ref St H v owned s 0 (flow St H v t (pt owned s 0) put_conf fl)) (subst (λ (y : Entry). EntryOK St H y) ez (inv.slots z))

    put_points : (T : Content) → Conf St (wr H p f (stored v m)) v (ty_of T) → (q : ℕ) → name_c T (stored v m) ≡ suc q
        → (q < H.size) × (H.kind q ≡ struct_of T) × ((g : ℕ) → Dead St (wr H p f (stored v m)) q g → Stable St (wr H p f (stored v m)) q g)
    put_points fnum c q h = let z : ⊥ = omega arith in absurd z
    put_points (falias s) c q h = store_points St (wr H p f (stored v m)) (falias s) (stored v m) v alias 0 refl c (λ o k. k.1) q h
    put_points (fowned s) c q h = store_points St (wr H p f (stored v m)) (fowned s) (stored v m) v owned 0 refl c (λ o k g d. k.0 g (k.1 g d)) q h

    put_whole : (T : Content) → Conf St (wr H p f (stored v m)) v (ty_of T) → (q : ℕ) → own_c T (stored v m) ≡ suc q → (g : ℕ) → Dead St (wr H p f (stored v m)) q g → ⊥
    put_whole fnum c q h g d = omega arith
    put_whole (falias s) c q h g d = omega arith
    put_whole (fowned s) c q h g d = store_whole St (wr H p f (stored v m)) s v c q h g d

    put_cell : CellOK St (wr H p f (stored v m)) p f
    put_cell = record {
      points = λ q h. put_points (field_at St H p f) put_conf' q (rw (wr_at H p f (stored v m)) at h);
      whole = λ q h. put_whole (field_at St H p f) put_conf' q (rw (wr_at H p f (stored v m)) at h);
      marked = λ h. mode (ap (λ (k : Cell). k.mark) (sym (wr_at H p f (stored v m))) ∙ h);
      fresh = λ h i. absurd (not_both (fresh h) (ap (λ (k : Cell). k.mark) (sym (wr_at H p f (stored v m))) ∙ i));
      dying = λ h. absurd (not_both (ap (λ (k : Cell). k.dead) (sym (wr_at H p f (stored v m))) ∙ h) refl);
    }

    put_owns : (T : Content) → Flows t (ty_of T) → (Sub (own_e (here (spent T v) t ts)) (own St σ H (cell p f)) × Sub (own_c T (stored v m)) (own St σ H (at z)))
        ⊎ (Sub (own_e (here (spent T v) t ts)) (own St σ H (at z)) × Sub (own_c T (stored v m)) (own St σ H (cell p f)))
    put_owns fnum fl = inr (inr (ap own_e (sym ez)), inl refl)
    put_owns (falias s) fl = inr (inr (ap own_e (sym ez)), inl refl)
    put_owns (fowned s) fl = inl (inl (own_zero t), inr (word_name v (conf_ref St H v owned s 0 (flow St H v t (pt owned s 0) put_conf fl)) ∙ sym (own_high t (name_of v) (flow_rank t (pt owned s 0) fl)) ∙ ap own_e (sym ez)))

    put_plain : (T : Content) → Flows t (ty_of T) → name_c T (stored v m) ≡ 0 ⊎ (pris_ty t (name_of (spent T v)) ≡ 0)
    put_plain fnum fl = inl refl
    put_plain (falias s) fl = inr (pris_low t (name_of v) (flow_lent t (pt alias s 0) fl refl))
    put_plain (fowned s) fl = inr (pris_zero t)

    put_name : (T : Content) → Flows t (ty_of T) → name_c T (stored v m) ≡ 0 ⊎ (name_c T (stored v m) ≡ name St σ H (at z))
    put_name fnum fl = inl refl
    put_name (falias s) fl = inr (word_name v (conf_ref St H v alias s 0 (flow St H v t (pt alias s 0) put_conf fl)) ∙ ap name_e (sym ez))
    put_name (fowned s) fl = inr (word_name v (conf_ref St H v owned s 0 (flow St H v t (pt owned s 0) put_conf fl)) ∙ ap name_e (sym ez))

    put_prist : (T : Content) → Sub (pris_ty t (name_of (spent T v))) (pris St σ z)
    put_prist fnum = inr (ap pris_e (sym ez))
    put_prist (falias s) = inr (ap pris_e (sym ez))
    put_prist (fowned s) = inl (pris_zero t)

    put_slot : (T : Content) → Sub (name_of (spent T v)) (name St σ H (at z))
    put_slot fnum = inr (ap name_e (sym ez))
    put_slot (falias s) = inr (ap name_e (sym ez))
    put_slot (fowned s) = inl refl

    put_given : (T : Content) → Flows t (ty_of T) → (q : Place) × ((s : Spot) → q ≡ at s → pris St (put σ z (here (spent T v) t ts)) s ≡ 0) × (Sub (name_c T (stored v m)) (name St σ H (cell p f)) ⊎ (name_c T (stored v m) ≡ name St σ H q))
    put_given T fl = go (put_name T fl) (put_plain T fl)
      where
        go : name_c T (stored v m) ≡ 0 ⊎ (name_c T (stored v m) ≡ name St σ H (at z)) → name_c T (stored v m) ≡ 0 ⊎ (pris_ty t (name_of (spent T v)) ≡ 0)
            → (q : Place) × ((s : Spot) → q ≡ at s → pris St (put σ z (here (spent T v) t ts)) s ≡ 0) × (Sub (name_c T (stored v m)) (name St σ H (cell p f)) ⊎ (name_c T (stored v m) ≡ name St σ H q))
        go (inl a) b = (cell p f, λ s h. absurd (not_cell_at h), inl (inl a))
        go (inr a) (inl b) = (cell p f, λ s h. absurd (not_cell_at h), inl (inl b))
        go (inr a) (inr b) = (at z, λ s h. rw (← (at_inj h), put_at σ z (here (spent T v) t ts)) b, inr a)

    pub store : Inv St (put σ z (here (spent (field_at St H p f) v) t ts)) (wr H p f (stored v m))
    store =
        let g = put_given (field_at St H p f) fl in
        write St σ H z z (here (spent (field_at St H p f) v) t ts) p f (stored v m) inv (record {
          keep = keep;
          need_a = λ r n l h d. absurd (not_both d refl);
          need_o = λ r n l k h d. absurd (not_both d refl);
          need_p = λ s n l h d. absurd (seen d s h);
          entry = put_entry (field_at St H p f) fl;
          beside = λ n. absurd (n refl);
          cellok = put_cell;
          owns = put_owns (field_at St H p f) fl;
          giver = g.0;
          plain = g.1;
          prist = put_prist (field_at St H p f);
          slot_name = inl (put_slot (field_at St H p f));
          cell_name = g.2;
        })
