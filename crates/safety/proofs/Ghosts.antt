-- The changes of one cell that leave it, or take it, dead; and the mark.
use Rattle.std.proofs.Common.{◌≡◌, ℕ, zero, suc, ◌<◌, ◌≤◌, true, false, ◌⊎◌, List, [], ◌∷◌, sym, refl, ap, ◌∙◌, subst, inl, inr, arith}
use Rattle.table.specs.declared.types.Mode.TheVariants.{Var, Val, Once, Spec}
use Rattle.machine.specs.declared.threads.Slot.{Slot}
use Rattle.machine.specs.declared.threads.Slot.TheVariants.{Null, Reference}
use Rattle.machine.specs.Values.{reference_of}
use Rattle.safety.specs.Model.{alias, owned, pristine, Claim, pt, Content, fnum, falias, fowned, Structs, Cell, Heap, Slots, Spot, Entry, here, Place, at, cell, put, wr, rank, own_ty, pris_ty, name_e, own_e, pris_e, name_c, own_c, struct_of, mode_at, field_at, Stable, Dead, Conf, Saved, EntryOK, CellOK, Inv, name, own, pris, Has}
use Rattle.safety.specs.Fields.{tentative, gone, fixed}
use Rattle.safety.proofs.Update.{put_at, at_inj, not_both, wr_at}
use Rattle.safety.proofs.Places.{Sub}
use Rattle.safety.proofs.Frame.{Grows, KeepA, KeepO, KeepP, conf_frame, saved_frame}
use Rattle.safety.proofs.Write.{wr_grows, wr_dead, wr_mark, write}
use Rattle.safety.proofs.Flow.{has_none, pris_low, own_low, name_ref, word_name, conf_ref, null_entry, store_points}
use Rattle.safety.proofs.New.{own_name}
use Rattle.safety.proofs.Cells.{not_cell_at}

own_tentative : (T : Content) (v : Slot) → own_c T (tentative v) ≡ 0
own_tentative fnum v = refl
own_tentative (falias s) v = refl
own_tentative (fowned s) v = refl

own_gone : (T : Content) (c : Cell) → own_c T (gone c) ≡ 0
own_gone fnum c = refl
own_gone (falias s) c = refl
own_gone (fowned s) c = refl

name_gone : (T : Content) (c : Cell) → name_c T (gone c) ≡ name_c T c
name_gone fnum c = refl
name_gone (falias s) c = refl
name_gone (fowned s) c = refl

name_fixed : (T : Content) (c : Cell) → name_c T (fixed c) ≡ name_c T c
name_fixed fnum c = refl
name_fixed (falias s) c = refl
name_fixed (fowned s) c = refl

own_fixed : (T : Content) (c : Cell) → own_c T (fixed c) ≡ own_c T c
own_fixed fnum c = refl
own_fixed (falias s) c = refl
own_fixed (fowned s) c = refl

module _ (St : Structs) where
  -- the ownership of what (q, g) holds goes to the slot z, and the word stays; y owns q and withholds g
  module _ (σ : Slots) (H : Heap) (z y : Spot) (q g s s' w : ℕ) (u : Claim) (us : List Claim) (inv : Inv St σ H) (ey : σ y ≡ here (Reference q) (pt owned s' w) (u ∷ us)) (ru : rank u ≡ 0) (hw : Has w g)
      (e_t : field_at St H q g ≡ fowned s) (live : (H.mem q g).dead ≡ false) (st : Stable St H q g) where
    owns_y : own St σ H (at y) ≡ suc q
    owns_y = ap own_e ey

    owns_c : own St σ H (cell q g) ≡ (H.mem q g).word
    owns_c = ap (λ (T : Content). own_c T (H.mem q g)) e_t ∙ rw live

    e : Entry
    e = here (reference_of (H.mem q g).word) (pt owned s 0) []

    ok_y : EntryOK St H (here (Reference q) (pt owned s' w) (u ∷ us))
    ok_y = subst (λ (x : Entry). EntryOK St H x) ey (inv.slots y)

    G : Grows St H (wr H q g (gone (H.mem q g)))
    G = wr_grows St H q g (gone (H.mem q g)) (λ h. h)

    -- what the cell holds has no dead field, before and after
    whole' : (o : ℕ) → (H.mem q g).word ≡ suc o → (h : ℕ) → Dead St (wr H q g (gone (H.mem q g))) o h → ⊥
    whole' o e h d = elim (wr_dead St H q g (gone (H.mem q g)) o h d) [
      | inl a ↦ (inv.cells q g).whole o (owns_c ∙ e) h a
      | inr a ↦ not_cell_at (inv.unique (cell q g) (at y) q (owns_c ∙ e ∙ ap suc a.0) owns_y)
    ]

    kept : (H.mem q g).word ≡ name_c (field_at St H q g) (H.mem q g)
    kept = ap (λ (T : Content). name_c T (H.mem q g)) (sym e_t)

    conf : (n : ℕ) → (H.mem q g).word ≡ n → Conf St (wr H q g (gone (H.mem q g))) (reference_of n) (pt owned s 0)
    conf zero e = tt
    conf (suc o) e =
        let i = (inv.cells q g).points o (sym kept ∙ e) in
        record { low = i.0; struct = i.1 ∙ ap struct_of e_t; part = (λ f h. absurd (has_none f h), λ f d. absurd (whole' o e f d)) }

    pub extract : ¬ (z ≡ y) → Inv St (put σ z (here (reference_of (H.mem q g).word) (pt owned s 0) [])) (wr H q g (gone (H.mem q g)))
    extract n = write St σ H z y (here (reference_of (H.mem q g).word) (pt owned s 0) []) q g (gone (H.mem q g)) inv (record {
      keep = λ h. h;
      need_a = λ r n m h d. inr (G.stays q g ok_y.0.low st);
      need_o = λ r n m l h d. absurd (m (inv.unique r (at y) q h owns_y));
      need_p = λ s n m h d. d;
      entry = (conf (H.mem q g).word refl, tt);
      beside = λ _. subst (λ (x : Entry). EntryOK St (wr H q g (gone (H.mem q g))) x) (sym ey) (here_y, kept_y);
      cellok = cell_ok;
      owns = inl (inr (name_ref (H.mem q g).word ∙ sym owns_c), inl (own_gone (field_at St H q g) (H.mem q g)));
      giver = cell q g;
      plain = λ s h. absurd (not_cell_at h);
      prist = inl refl;
      slot_name = inr (name_ref (H.mem q g).word ∙ kept);
      cell_name = inl (inr (name_gone (field_at St H q g) (H.mem q g)));
    })
      where
        here_y : Conf St (wr H q g (gone (H.mem q g))) (Reference q) (pt owned s' w)
        here_y = record {
          low = ok_y.0.low;
          struct = ok_y.0.struct;
          part = (
            λ f h. G.stays q f ok_y.0.low (ok_y.0.part.0 f h),
            λ f d. elim (wr_dead St H q g (gone (H.mem q g)) q f d) [ inl a ↦ ok_y.0.part.1 f a | inr a ↦ rw a.1 hw ],
          );
        }

        k_a : KeepA St H (wr H q g (gone (H.mem q g))) (suc q)
        k_a o e f d = elim (wr_dead St H q g (gone (H.mem q g)) o f d) [ inl a ↦ inl a | inr a ↦ inr (rw (a.0, a.1) (G.stays q g ok_y.0.low st)) ]

        k_o : KeepO St H (wr H q g (gone (H.mem q g))) (own_ty u (suc q))
        k_o o e f d = let i : own_ty u (suc q) ≡ 0 = own_low u (suc q) ru in let z : ⊥ = omega arith in absurd z

        k_p : KeepP St H (wr H q g (gone (H.mem q g))) (pris_ty u (suc q))
        k_p o e f d = let i : pris_ty u (suc q) ≡ 0 = pris_low u (suc q) (omega arith) in let z : ⊥ = omega arith in absurd z

        kept_y : Conf St (wr H q g (gone (H.mem q g))) (Reference q) u × (rank u ≤ 1) × Saved St (wr H q g (gone (H.mem q g))) (Reference q) u us
        kept_y = (conf_frame St H (wr H q g (gone (H.mem q g))) G (Reference q) u ok_y.1.0 k_a k_o k_p, ok_y.1.1, saved_frame St H (wr H q g (gone (H.mem q g))) G (Reference q) u us ok_y.1.2 k_a k_o k_p)

        cell_ok : CellOK St (wr H q g (gone (H.mem q g))) q g
        cell_ok =
            let e_c = wr_at H q g (gone (H.mem q g)) in
            let same : name_c (field_at St H q g) ((wr H q g (gone (H.mem q g))).mem q g) ≡ name_c (field_at St H q g) (H.mem q g) = ap (λ (c : Cell). name_c (field_at St H q g) c) e_c ∙ name_gone (field_at St H q g) (H.mem q g) in
            let gone_owns : own_c (field_at St H q g) ((wr H q g (gone (H.mem q g))).mem q g) ≡ 0 = ap (λ (c : Cell). own_c (field_at St H q g) c) e_c ∙ own_gone (field_at St H q g) (H.mem q g) in
            let m : ((wr H q g (gone (H.mem q g))).mem q g).mark ≡ (H.mem q g).mark = ap (λ (c : Cell). c.mark) e_c in
            let wd : ((wr H q g (gone (H.mem q g))).mem q g).word ≡ (H.mem q g).word = ap (λ (c : Cell). c.word) e_c in
            record {
              points = λ o h. let i = (inv.cells q g).points o (sym same ∙ h) in (i.0, i.1, λ f d. absurd (whole' o (kept ∙ sym same ∙ h) f d));
              whole = λ o h f d. omega arith;
              marked = λ h. (inv.cells q g).marked (sym m ∙ h);
              fresh = λ h i. wd ∙ (inv.cells q g).fresh h (sym m ∙ i);
              dying = λ h. (ok_y.0.low, λ v. elim st [ inl a ↦ differ v a | inr a ↦ elim ((inv.cells q g).marked a) [ inl b ↦ differ_once v b | inr b ↦ differ_spec v b ] ]);
            }
          where
            differ : mode_at St H q g ≡ Var → mode_at St H q g ≡ Val → ⊥
            differ a b = let z : ◌≡◌ {A = ℕ} 0 1 = cc in omega arith

            differ_once : mode_at St H q g ≡ Var → mode_at St H q g ≡ Once → ⊥
            differ_once a b = let z : ◌≡◌ {A = ℕ} 0 1 = cc in omega arith

            differ_spec : mode_at St H q g ≡ Var → mode_at St H q g ≡ Spec → ⊥
            differ_spec a b = let z : ◌≡◌ {A = ℕ} 0 1 = cc in omega arith

  -- an alias goes to a field of a pristine object, which lends it and does not own it
  module _ (σ : Slots) (H : Heap) (z x : Spot) (p f s s' w w' : ℕ) (v : Slot) (ts : List Claim) (inv : Inv St σ H) (n : ¬ (x ≡ z)) (ez : σ z ≡ here v (pt alias s w) ts) (ex : σ x ≡ here (Reference p) (pt pristine s' w') [])
      (hw : Has w' f) (e_t : field_at St H p f ≡ fowned s) (not_var : mode_at St H p f ≡ Var → ⊥) (not_once : mode_at St H p f ≡ Once → ⊥) where
    ok_z : EntryOK St H (here v (pt alias s w) ts)
    ok_z = subst (λ (x : Entry). EntryOK St H x) ez (inv.slots z)

    ok_x : EntryOK St H (here (Reference p) (pt pristine s' w') [])
    ok_x = subst (λ (x : Entry). EntryOK St H x) ex (inv.slots x)

    sole_x : (r : Place) → name St σ H r ≡ suc p → r ≡ at x
    sole_x r h = inv.sole x r p (ap pris_e ex) h

    unmarked : (H.mem p f).mark ≡ true → true ≡ false
    unmarked h = sym h ∙ ok_x.0.part.0 f

    Gt : Grows St H (wr H p f (tentative v))
    Gt = wr_grows St H p f (tentative v) (λ h. absurd (not_both h (ok_x.0.part.0 f)))

    conf_v : Conf St (wr H p f (tentative v)) v (pt alias s w)
    conf_v = conf_frame St H (wr H p f (tentative v)) Gt v (pt alias s w) ok_z.0
        (λ o h g d. elim (wr_dead St H p f (tentative v) o g d) [ inl a ↦ inl a | inr a ↦ absurd (n (sym (at_inj (sole_x (at z) (ap name_e ez ∙ h ∙ ap suc a.0))))) ])
        (λ o h. let z : ⊥ = omega arith in absurd z) (λ o h. let z : ⊥ = omega arith in absurd z)

    lend_points : (T : Content) → T ≡ fowned s → (q : ℕ) → name_c T (tentative v) ≡ suc q → (q < H.size) × (H.kind q ≡ struct_of T) × ((g : ℕ) → Dead St (wr H p f (tentative v)) q g → Stable St (wr H p f (tentative v)) q g)
    lend_points T i = store_points St (wr H p f (tentative v)) T (tentative v) v alias w refl (rw i conf_v) (λ o k. k.1)

    lend_name : (T : Content) → T ≡ fowned s → name_c T (tentative v) ≡ name St σ H (at z)
    lend_name T i = ap (λ (T : Content). name_c T (tentative v)) i ∙ word_name v (conf_ref St H v alias s w ok_z.0) ∙ ap name_e (sym ez)

    pub lend : Inv St (put σ z (here Null (pt alias s w) ts)) (wr H p f (tentative v))
    lend = write St σ H z x (here Null (pt alias s w) ts) p f (tentative v) inv (record {
      keep = λ h. absurd (not_both h (ok_x.0.part.0 f));
      need_a = λ r i j h d. absurd (j (sole_x r h));
      need_o = λ r i j k h d. absurd (j (sole_x r (own_name St σ H r p h)));
      need_p = λ t i j h d. absurd (not_both d refl);
      entry = null_entry St H (wr H p f (tentative v)) v (pt alias s w) ts (conf_ref St H v alias s w ok_z.0) ok_z;
      beside = λ _. subst (λ (x : Entry). EntryOK St (wr H p f (tentative v)) x) (sym ex) (
        record {
          low = ok_x.0.low;
          struct = ok_x.0.struct;
          part = (
            λ g. wr_mark St H p f (tentative v) p g (λ i d. absurd (not_both d refl)) (ok_x.0.part.0 g),
            λ g d. elim (wr_dead St H p f (tentative v) p g d) [ inl a ↦ ok_x.0.part.1 g a | inr a ↦ rw a.1 hw ],
          );
        },
        tt,
      );
      cellok = record {
        points = λ q h. lend_points (field_at St H p f) e_t q (rw (wr_at H p f (tentative v)) at h);
        whole = λ q h g d. let i : own_c (field_at St H p f) ((wr H p f (tentative v)).mem p f) ≡ 0 = ap (λ (c : Cell). own_c (field_at St H p f) c) (wr_at H p f (tentative v)) ∙ own_tentative (field_at St H p f) v in omega arith;
        marked = λ h. absurd (not_both h (ap (λ (c : Cell). c.mark) (wr_at H p f (tentative v))));
        fresh = λ h i. absurd (not_once h);
        dying = λ h. (ok_x.0.low, not_var);
      };
      owns = inr (inl refl, inl (own_tentative (field_at St H p f) v));
      giver = at z;
      plain = λ t h. rw (← (at_inj h), put_at σ z (here Null (pt alias s w) ts));
      prist = inl refl;
      slot_name = inl (inl refl);
      cell_name = inr (lend_name (field_at St H p f) e_t);
    })

  -- a cell is marked for good
  module _ (σ : Slots) (H : Heap) (x : Spot) (e : Entry) (p f : ℕ) (inv : Inv St σ H) (mode : (mode_at St H p f ≡ Once) ⊎ (mode_at St H p f ≡ Spec)) (seen : (s : Spot) → pris St σ s ≡ suc p → ⊥) where
    pub fix_grows : Grows St H (wr H p f (fixed (H.mem p f)))
    fix_grows = wr_grows St H p f (fixed (H.mem p f)) (λ h. refl)

    pub fix_dead : (o g : ℕ) → Dead St (wr H p f (fixed (H.mem p f))) o g → Dead St H o g
    fix_dead o g d = elim (wr_dead St H p f (fixed (H.mem p f)) o g d) [ inl a ↦ a | inr a ↦ rw (a.0, a.1) a.2 ]

    fix_cell : CellOK St (wr H p f (fixed (H.mem p f))) p f
    fix_cell =
        let e_c = wr_at H p f (fixed (H.mem p f)) in
        let nm : name_c (field_at St H p f) ((wr H p f (fixed (H.mem p f))).mem p f) ≡ name_c (field_at St H p f) (H.mem p f) = ap (λ (c : Cell). name_c (field_at St H p f) c) e_c ∙ name_fixed (field_at St H p f) (H.mem p f) in
        let ow : own_c (field_at St H p f) ((wr H p f (fixed (H.mem p f))).mem p f) ≡ own_c (field_at St H p f) (H.mem p f) = ap (λ (c : Cell). own_c (field_at St H p f) c) e_c ∙ own_fixed (field_at St H p f) (H.mem p f) in
        record {
          points = λ q h. let i = (inv.cells p f).points q (sym nm ∙ h) in (i.0, i.1, λ g d. fix_grows.stays q g i.0 (i.2 g (fix_dead q g d)));
          whole = λ q h g d. (inv.cells p f).whole q (sym ow ∙ h) g (fix_dead q g d);
          marked = λ _. mode;
          fresh = λ h i. absurd (not_both (ap (λ (c : Cell). c.mark) e_c) i);
          dying = λ h. (inv.cells p f).dying (ap (λ (c : Cell). c.dead) (sym e_c) ∙ h);
        }

    pub fix : EntryOK St (wr H p f (fixed (H.mem p f))) e → Sub (own_e e) (own_e (σ x)) → Sub (pris_e e) (pris_e (σ x)) → Sub (name_e e) (name_e (σ x)) → Inv St (put σ x e) (wr H p f (fixed (H.mem p f)))
    fix ok ow pr nm = write St σ H x x e p f (fixed (H.mem p f)) inv (record {
      keep = λ h. refl;
      need_a = λ r i j h d. inl d;
      need_o = λ r i j k h d. d;
      need_p = λ s i j h d. absurd (seen s h);
      entry = ok;
      beside = λ n. absurd (n refl);
      cellok = fix_cell;
      owns = inr (ow, inr (own_fixed (field_at St H p f) (H.mem p f)));
      giver = cell p f;
      plain = λ s h. absurd (not_cell_at h);
      prist = pr;
      slot_name = inl nm;
      cell_name = inl (inr (name_fixed (field_at St H p f) (H.mem p f)));
    })
