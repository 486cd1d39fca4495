-- The hand-offs: set, swap, try, fix, link and unlink keep the invariant.
use Rattle.std.proofs.Common.{◌≡◌, ℕ, suc, ◌≤◌, true, false, ◌⊎◌, List, [], ◌∷◌, sym, refl, ap, ◌∙◌, subst, ap₂, subst₂, inl, inr, arith}
use Rattle.table.specs.declared.types.Mode.TheVariants.{Var, Val, Once, Spec}
use Rattle.table.specs.declared.types.Mode.{Mode}
use Rattle.machine.specs.declared.threads.Slot.{Slot}
use Rattle.machine.specs.declared.threads.Slot.TheVariants.{Null, Reference}
use Rattle.machine.specs.Values.{reference_of, word_of}
use Rattle.safety.specs.Model.{Right, alias, owned, pristine, Claim, pt, Content, fnum, falias, fowned, Structs, Cell, Heap, Slots, Spot, Entry, out, here, at, cell, put, wr, rank, own_ty, pris_ty, name_e, own_e, pris_e, mode_at, field_at, Stable, Dead, Part, Conf, Saved, EntryOK, Inv, pris, Has}
use Rattle.safety.specs.Fields.{zeroed, stored, tentative, gone, fixed, Flows, ty_of, val_of, spent, With, Without, Alone, lent}
use Rattle.safety.specs.Step.{poke, erase, Writable, RefTo, Plain, Sound}
use Rattle.safety.proofs.Update.{put_at, put_off, at_inj, not_both, wr_at, wr_off}
use Rattle.safety.proofs.Frame.{Grows, entry_frame}
use Rattle.safety.proofs.Write.{wr_grows}
use Rattle.safety.proofs.Flow.{has_none, pris_low, conf_ref, null_entry}
use Rattle.safety.proofs.Erase.{put_put, put_spare, Off, off, off_wr, off_ghost, erase_wr}
use Rattle.safety.proofs.Scope.{retype, move}
use Rattle.safety.proofs.Cells.{claim, store}
use Rattle.safety.proofs.Ghosts.{extract, lend, fix, fix_grows, fix_dead}
use Rattle.safety.proofs.Ops.{var_once, val_spec, val_once, spec_once, off_true, val_back, word_ref, plain_rank, at_slot, var_unmarked, do_get}

ref_val : (T : Content) (s n : ℕ) → RefTo T s → val_of T n ≡ reference_of n
ref_val fnum s n h = absurd h
ref_val (falias s') s n h = refl
ref_val (fowned s') s n h = refl

module _ (St : Structs) where
  plain_stable : (H : Heap) (p u : ℕ) (k : Right) → Plain k → Part St H p u k → (f : ℕ) → Dead St H p f → Stable St H p f
  plain_stable H p u alias h c f d = c.1 f d
  plain_stable H p u owned h c f d = c.0 f (c.1 f d)
  plain_stable H p u pristine h c f d = absurd h

  -- a field that may still change is live, for one who holds no pristine reference
  cas_live : (H : Heap) (p f s u : ℕ) (k : Right) → Plain k → Conf St H (Reference p) (pt k s u) → (mode_at St H p f ≡ Val → ⊥) → (H.mem p f).mark ≡ false → (H.mem p f).dead ≡ false
  cas_live H p f s u k h c n m = off_true (H.mem p f).dead (λ d. elim (plain_stable H p u k h c.part f d) [ inl a ↦ n a | inr a ↦ not_both a m ])

  -- nobody holds it pristine then
  not_pris : (σ : Slots) (H : Heap) (x : Spot) (p s u : ℕ) (k : Right) (xs : List Claim) → Inv St σ H → Plain k → σ x ≡ here (Reference p) (pt k s u) xs → (t : Spot) → pris St σ t ≡ suc p → ⊥
  not_pris σ H x p s u k xs inv h ex t e =
      let i : at x ≡ at t = inv.sole t (at x) p e (ap name_e ex) in
      let j : pris_e (σ x) ≡ suc p = rw (at_inj i) e in
      let l : pris_e (σ x) ≡ 0 = ap pris_e ex ∙ pris_low (pt k s u) (suc p) (plain_rank k s u h) in omega arith

  -- x withholds one more field that is stable
  with_part : (H : Heap) (p f u u' : ℕ) (k : Right) → Plain k → Part St H p u k → Stable St H p f → With u f u' → Part St H p u' k
  with_part H p f u u' alias h c st w = (λ g j. elim (w.only g j) [ inl a ↦ c.0 g a | inr a ↦ rw a st ], c.1)
  with_part H p f u u' owned h c st w = (λ g j. elim (w.only g j) [ inl a ↦ c.0 g a | inr a ↦ rw a st ], λ g d. w.kept g (c.1 g d))
  with_part H p f u u' pristine h c st w = absurd h

  with_entry : (H : Heap) (p f s u u' : ℕ) (k : Right) (xs : List Claim) → Plain k → EntryOK St H (here (Reference p) (pt k s u) xs) → Stable St H p f → With u f u'
      → EntryOK St H (here (Reference p) (pt k s u') (pt k s u ∷ xs))
  with_entry H p f s u u' k xs h c st w = (record { low = c.0.low; struct = c.0.struct; part = with_part H p f u u' k h c.0.part st w }, (c.0, same k, c.1))
    where
      same : (k : Right) → rank (pt k s u) ≤ rank (pt k s u')
      same alias = omega arith
      same owned = omega arith
      same pristine = omega arith

  same_own : (k : Right) (s u s' u' n : ℕ) → own_ty (pt k s u) n ≡ own_ty (pt k s' u') n
  same_own alias s u s' u' n = refl
  same_own owned s u s' u' n = refl
  same_own pristine s u s' u' n = refl

  same_pris : (k : Right) (s u s' u' n : ℕ) → pris_ty (pt k s u) n ≡ pris_ty (pt k s' u') n
  same_pris alias s u s' u' n = refl
  same_pris owned s u s' u' n = refl
  same_pris pristine s u s' u' n = refl

  pub do_stable : (σ : Slots) (H : Heap) (x : Spot) (p f s u u' : ℕ) (k : Right) (xs : List Claim) → Inv St σ H → Plain k → σ x ≡ here (Reference p) (pt k s u) xs → Stable St H p f → With u f u'
      → Inv St (put σ x (here (Reference p) (pt k s u') (pt k s u ∷ xs))) H
  do_stable σ H x p f s u u' k xs inv h ex st w = retype St σ H x (here (Reference p) (pt k s u') (pt k s u ∷ xs)) inv
      (with_entry H p f s u u' k xs h (at_slot St σ H x (here (Reference p) (pt k s u) xs) inv ex) st w)
      (inr (same_own k s u' s u (suc p) ∙ ap own_e (sym ex))) (inr (same_pris k s u' s u (suc p) ∙ ap pris_e (sym ex))) (inr (ap name_e (sym ex)))

  pub do_fix : (σ : Slots) (H : Heap) (x : Spot) (p f s u u' : ℕ) (k : Right) (xs : List Claim) → Inv St σ H → Plain k → σ x ≡ here (Reference p) (pt k s u) xs → mode_at St H p f ≡ Spec → With u f u'
      → Sound St (put σ x (here (Reference p) (pt k s u') (pt k s u ∷ xs))) (poke (erase H) p f (H.mem p f).word true)
  do_fix σ H x p f s u u' k xs inv h ex md w =
      let seen : (t : Spot) → pris St σ t ≡ suc p → ⊥ = not_pris σ H x p s u k xs inv h ex in
      let H' : Heap = wr H p f (fixed (H.mem p f)) in
      let G : Grows St H (wr H p f (fixed (H.mem p f))) = fix_grows St σ H x (here (Reference p) (pt k s u') (pt k s u ∷ xs)) p f inv (inr md) seen in
      let dd : (o g : ℕ) → Dead St (wr H p f (fixed (H.mem p f))) o g → Dead St H o g = fix_dead St σ H x (here (Reference p) (pt k s u') (pt k s u ∷ xs)) p f inv (inr md) seen in
      let ok : EntryOK St (wr H p f (fixed (H.mem p f))) (here (Reference p) (pt k s u) xs) = entry_frame St H (wr H p f (fixed (H.mem p f))) G (here (Reference p) (pt k s u) xs) (at_slot St σ H x (here (Reference p) (pt k s u) xs) inv ex)
      (λ o e g d. inl (dd o g d)) (λ o e g d. dd o g d) (λ o e g d. absurd (no_pristine e)) in
      let st : Stable St (wr H p f (fixed (H.mem p f))) p f = inr (ap (λ (c : Cell). c.mark) (wr_at H p f (fixed (H.mem p f)))) in (
        wr H p f (fixed (H.mem p f)),
        fix St σ H x (here (Reference p) (pt k s u') (pt k s u ∷ xs)) p f inv (inr md) seen
            (with_entry (wr H p f (fixed (H.mem p f))) p f s u u' k xs h ok st w)
            (inr (same_own k s u' s u (suc p) ∙ ap own_e (sym ex))) (inr (same_pris k s u' s u (suc p) ∙ ap pris_e (sym ex))) (inr (ap name_e (sym ex))),
        erase_wr H (erase H) p f (fixed (H.mem p f)) (H.mem p f).word true (off H p f) refl refl,
      )
    where
      no_pristine : {o : ℕ} → pris_ty (pt k s u) (suc p) ≡ suc o → ⊥
      no_pristine {o} e = let l : pris_ty (pt k s u) (suc p) ≡ 0 = pris_low (pt k s u) (suc p) (plain_rank k s u h) in omega arith

  pub do_try : (σ : Slots) (H : Heap) (x y : Spot) (p f s u u' s' : ℕ) (k : Right) (v : Slot) (xs ys : List Claim) → Inv St σ H → ¬ (x ≡ y) → Plain k
      → σ x ≡ here (Reference p) (pt k s u) xs → σ y ≡ here v (pt pristine s' 0) ys → mode_at St H p f ≡ Once → field_at St H p f ≡ fowned s' → With u f u' → (H.mem p f).mark ≡ false
      → Sound St (put (put σ y (here Null (pt pristine s' 0) ys)) x (here (Reference p) (pt k s u') (pt k s u ∷ xs))) (poke (erase H) p f (word_of v) true)
  do_try σ H x y p f s u u' s' k v xs ys inv n h ex ey md e_t w m =
      let seen : (t : Spot) → pris St σ t ≡ suc p → ⊥ = not_pris σ H x p s u k xs inv h ex in
      let fl : Flows (pt pristine s' 0) (ty_of (field_at St H p f)) = rw e_t (refl, (refl, refl)) in
      let i : Inv St (put σ y (here (spent (field_at St H p f) v) (pt pristine s' 0) ys)) (wr H p f (stored v true)) =
      store St σ H y p f true v (pt pristine s' 0) ys inv ey fl (λ _. refl) (λ _. inl md) (λ _. refl) (λ _. seen) in
      let es : spent (field_at St H p f) v ≡ Null = ap (λ (T : Content). spent T v) e_t in
      let i' : Inv St (put σ y (here Null (pt pristine s' 0) ys)) (wr H p f (stored v true)) = subst (λ (a : Slot). Inv St (put σ y (here a (pt pristine s' 0) ys)) (wr H p f (stored v true))) es i in
      let st : Stable St (wr H p f (stored v true)) p f = inr (ap (λ (c : Cell). c.mark) (wr_at H p f (stored v true))) in (
        wr H p f (stored v true),
        do_stable (put σ y (here Null (pt pristine s' 0) ys)) (wr H p f (stored v true)) x p f s u u' k xs i' h (put_off σ y (here Null (pt pristine s' 0) ys) x n ∙ ex) st w,
        erase_wr H (erase H) p f (stored v true) (word_of v) true (off H p f) refl refl,
      )

  pub do_swap : (σ : Slots) (H : Heap) (x y w : Spot) (p f s u s' u' : ℕ) (k : Right) (v v' : Slot) (t : Claim) (xs ys ws : List Claim) → Inv St σ H → ¬ (w ≡ y) → Plain k
      → σ x ≡ here (Reference p) (pt k s u) xs → σ y ≡ here v (pt alias s' u') ys → σ w ≡ here v' t ws
      → mode_at St H p f ≡ Spec → RefTo (field_at St H p f) s' → Flows t (ty_of (field_at St H p f)) → (H.mem p f).mark ≡ false → (H.mem p f).word ≡ word_of v
      → Sound St (put (put σ y (here v (ty_of (field_at St H p f)) (pt alias s' u' ∷ ys))) w (here (spent (field_at St H p f) v') t ws)) (poke (erase H) p f (word_of v') false)
  do_swap σ H x y w p f s u s' u' k v v' t xs ys ws inv n h ex ey ew md rt fl m wd =
      let cx = at_slot St σ H x (here (Reference p) (pt k s u) xs) inv ex in
      let cy = at_slot St σ H y (here v (pt alias s' u') ys) inv ey in
      let live : (H.mem p f).dead ≡ false = cas_live H p f s u k h cx.0 (λ e. val_spec (mode_at St H p f) e md) m in
      let ev : val_of (field_at St H p f) (H.mem p f).word ≡ v = ref_val (field_at St H p f) s' (H.mem p f).word rt ∙ ap reference_of wd ∙ val_back v (conf_ref St H v alias s' u' cy.0) in
      let sv : Saved St H v (ty_of (field_at St H p f)) (pt alias s' u' ∷ ys) = (cy.0, omega arith, cy.1) in
      let i : Inv St (put σ y (here v (ty_of (field_at St H p f)) (pt alias s' u' ∷ ys))) (wr H p f zeroed) =
      subst (λ (a : Slot). Inv St (put σ y (here a (ty_of (field_at St H p f)) (pt alias s' u' ∷ ys))) (wr H p f zeroed)) ev
      (claim St σ H y p f (pt alias s' u' ∷ ys) inv live m (subst (λ (a : Slot). Saved St H a (ty_of (field_at St H p f)) (pt alias s' u' ∷ ys)) (sym ev) sv)) in
      let um : ((wr H p f zeroed).mem p f).mark ≡ false = ap (λ (c : Cell). c.mark) (wr_at H p f zeroed) in (
        wr (wr H p f zeroed) p f (stored v' false),
        store St (put σ y (here v (ty_of (field_at St H p f)) (pt alias s' u' ∷ ys))) (wr H p f zeroed) w p f false v' t ws i (put_off σ y (here v (ty_of (field_at St H p f)) (pt alias s' u' ∷ ys)) w n ∙ ew) fl
            (λ e. absurd (not_both e um)) (λ e. absurd (not_both e refl)) (λ e. absurd (spec_once (mode_at St H p f) md e)) (λ e. absurd (not_both e refl)),
        erase_wr (wr H p f zeroed) (erase H) p f (stored v' false) (word_of v') false (off_wr H (erase H) p f zeroed (off H p f)) refl refl,
      )

  without_part : (H : Heap) (p f u u' : ℕ) (k : Right) → Part St H p u k → (H.mem p f).dead ≡ false → Without u f u' → Part St H p u' k
  without_part H p f u u' alias c d w = (λ g j. c.0 g (w.within g j), c.1)
  without_part H p f u u' owned c d w = (λ g j. c.0 g (w.within g j), λ g e. elim (w.kept g (c.1 g e)) [ inl a ↦ a | inr a ↦ absurd (not_both e (rw a d)) ])
  without_part H p f u u' pristine c d w = (c.0, λ g e. elim (w.kept g (c.1 g e)) [ inl a ↦ a | inr a ↦ absurd (not_both e (rw a d)) ])

  writable_rank : (k : Right) (s u : ℕ) (m : Mode) → Writable k m → 1 ≤ rank (pt k s u)
  writable_rank alias s u m h = absurd h
  writable_rank owned s u m h = omega arith
  writable_rank pristine s u m h = omega arith

  writable_once : (k : Right) (m : Mode) → Writable k m → m ≡ Once → ⊥
  writable_once alias m h e = h
  writable_once owned m h e = var_once m h e
  writable_once pristine m h e = h e

  writable_unmarked : (σ : Slots) (H : Heap) (p f u : ℕ) (k : Right) → Inv St σ H → Writable k (mode_at St H p f) → Part St H p u k → (H.mem p f).mark ≡ false
  writable_unmarked σ H p f u alias inv h c = absurd h
  writable_unmarked σ H p f u owned inv h c = var_unmarked St σ H p f inv h
  writable_unmarked σ H p f u pristine inv h c = c.0 f

  same_rank : (k : Right) (s u u' : ℕ) → rank (pt k s u) ≡ rank (pt k s u')
  same_rank alias s u u' = refl
  same_rank owned s u u' = refl
  same_rank pristine s u u' = refl

  pub do_set : (σ : Slots) (H : Heap) (z x y : Spot) (p f : ℕ) (k : Right) (s w w' : ℕ) (v : Slot) (t : Claim) (xs ys : List Claim) → Inv St σ H → ¬ (x ≡ y) → ¬ (z ≡ x)
      → σ x ≡ here (Reference p) (pt k s w) xs → σ y ≡ here v t ys → Writable k (mode_at St H p f) → Flows t (ty_of (field_at St H p f)) → Without w f w'
      → Sound St (put (put (put σ y (here (spent (field_at St H p f) v) t ys)) x (here Null (pt k s w) xs)) z (here (Reference p) (pt k s w') [])) (poke (erase H) p f (word_of v) false)
  do_set σ H z x y p f k s w w' v t xs ys inv n nz ex ey wt fl wo =
      let cx = at_slot St σ H x (here (Reference p) (pt k s w) xs) inv ex in
      let um : (H.mem p f).mark ≡ false = writable_unmarked σ H p f w k inv wt cx.0.part in
      let i : Inv St (put σ y (here (spent (field_at St H p f) v) t ys)) (wr H p f (stored v false)) = store St σ H y p f false v t ys inv ey fl (λ e. absurd (not_both e um)) (λ e. absurd (not_both e refl)) (λ e. absurd (writable_once k (mode_at St H p f) wt e)) (λ e. absurd (not_both e refl)) in
      let ex' : put σ y (here (spent (field_at St H p f) v) t ys) x ≡ here (Reference p) (pt k s w) xs = put_off σ y (here (spent (field_at St H p f) v) t ys) x n ∙ ex in
      let c₁ = at_slot St (put σ y (here (spent (field_at St H p f) v) t ys)) (wr H p f (stored v false)) x (here (Reference p) (pt k s w) xs) i ex' in
      let c₂ : Conf St (wr H p f (stored v false)) (Reference p) (pt k s w') = record { low = c₁.0.low; struct = c₁.0.struct; part = without_part (wr H p f (stored v false)) p f w w' k c₁.0.part (ap (λ (c : Cell). c.dead) (wr_at H p f (stored v false))) wo } in
      let r = same_rank k s w w' in
      let r₁ = writable_rank k s w (mode_at St H p f) wt in (
        wr H p f (stored v false),
        move St (put σ y (here (spent (field_at St H p f) v) t ys)) (wr H p f (stored v false)) x z (Reference p) (pt k s w) (pt k s w') xs i nz ex' c₂ (omega arith) (omega arith),
        erase_wr H (erase H) p f (stored v false) (word_of v) false (off H p f) refl refl,
      )

  pub do_tentative : (σ : Slots) (H : Heap) (z x y : Spot) (p f s w w' s' u : ℕ) (v : Slot) (xs ys : List Claim) → Inv St σ H → ¬ (x ≡ y) → ¬ (z ≡ x) → ¬ (z ≡ y)
      → σ x ≡ here (Reference p) (pt pristine s w) xs → σ y ≡ here v (pt alias s' u) ys → (mode_at St H p f ≡ Var → ⊥) → (mode_at St H p f ≡ Once → ⊥) → field_at St H p f ≡ fowned s' → With w f w'
      → Sound St (put (put (put σ x (here Null (pt pristine s w) xs)) z (here (Reference p) (pt pristine s w') [])) y (here Null (pt alias s' u) ys)) (poke (erase H) p f (word_of v) false)
  do_tentative σ H z x y p f s w w' s' u v xs ys inv n nz ny ex ey nv nc e_t wi =
      let cx = at_slot St σ H x (here (Reference p) (pt pristine s w) xs) inv ex in
      let c₁ : Conf St H (Reference p) (pt pristine s w') = record { low = cx.0.low; struct = cx.0.struct; part = (cx.0.part.0, λ g d. wi.kept g (cx.0.part.1 g d)) } in
      let i : Inv St (put (put σ x (here Null (pt pristine s w) xs)) z (here (Reference p) (pt pristine s w') [])) H = move St σ H x z (Reference p) (pt pristine s w) (pt pristine s w') xs inv nz ex c₁ (omega arith) (omega arith) in
      let ey' : put (put σ x (here Null (pt pristine s w) xs)) z (here (Reference p) (pt pristine s w') []) y ≡ here v (pt alias s' u) ys =
      put_off (put σ x (here Null (pt pristine s w) xs)) z (here (Reference p) (pt pristine s w') []) y (λ e. ny (sym e)) ∙ put_off σ x (here Null (pt pristine s w) xs) y (λ e. n (sym e)) ∙ ey in
      let ez : put (put σ x (here Null (pt pristine s w) xs)) z (here (Reference p) (pt pristine s w') []) z ≡ here (Reference p) (pt pristine s w') [] = put_at (put σ x (here Null (pt pristine s w) xs)) z (here (Reference p) (pt pristine s w') []) in (
        wr H p f (tentative v),
        lend St (put (put σ x (here Null (pt pristine s w) xs)) z (here (Reference p) (pt pristine s w') [])) H y z p f s' s u w' v ys i ny ey' ez wi.has e_t nv nc,
        erase_wr H (erase H) p f (tentative v) (word_of v) false (off H p f) refl refl,
      )

  saved_rank : (H : Heap) (v : Slot) (t t' : Claim) (ts : List Claim) → rank t ≤ rank t' → Saved St H v t ts → Saved St H v t' ts
  saved_rank H v t t' [] h c = tt
  saved_rank H v t t' (u ∷ us) h c = (c.0, (let i = c.1 in omega arith), c.2)

  -- the block of a yes: y has what x.f owned, but for the field g, whose content x.f has now
  module _ (σ : Slots) (H : Heap) (t x y : Spot) (p f q g s u s' u' u'' : ℕ) (k : Right) (xs ys : List Claim) (inv : Inv St σ H) (et : σ t ≡ out) (h : Plain k)
      (ex : σ x ≡ here (Reference p) (pt k s u) xs) (ey : σ y ≡ here (Reference q) (pt alias s' u') ys) (md : mode_at St H p f ≡ Spec) (mg : (mode_at St H q g ≡ Val) ⊎ Has u' g)
      (al : Alone u'' g) (m : (H.mem p f).mark ≡ false) (wd : (H.mem p f).word ≡ suc q) where
    cx : EntryOK St H (here (Reference p) (pt k s u) xs)
    cx = at_slot St σ H x (here (Reference p) (pt k s u) xs) inv ex

    cy : EntryOK St H (here (Reference q) (pt alias s' u') ys)
    cy = at_slot St σ H y (here (Reference q) (pt alias s' u') ys) inv ey

    st : Stable St H q g
    st = elim mg [ inl a ↦ inl a | inr a ↦ cy.0.part.0 g a ]

    apart_t : ¬ (t ≡ y)
    apart_t e = let i : here (Reference q) (pt alias s' u') ys ≡ out = sym ey ∙ ap σ (sym e) ∙ et in let z : ◌≡◌ {A = ℕ} 0 1 = cc in omega arith

    -- x.f can change, and y.g cannot
    apart_c : ¬ (cell q g ≡ cell p f)
    apart_c e =
        let a : q ≡ p = cc in let b : g ≡ f = cc in
        let st' : Stable St H p f = subst (λ (i : ℕ). Stable St H i f) a (subst (λ (i : ℕ). Stable St H q i) b st) in
        elim st' [ inl j ↦ val_spec (mode_at St H p f) j md | inr j ↦ not_both j m ]

    pub do_unlink : field_at St H p f ≡ fowned s' → field_at St H q g ≡ fowned s' → Sound St (put σ y (here (Reference q) (pt owned s' u'') (pt alias s' u' ∷ ys))) (poke (erase H) p f (H.mem q g).word false)
    do_unlink e_t eg = (
      H₃,
      subst (λ (a : Slots). Inv St a H₃) chain inv₅,
      erase_wr H₂ (erase H) p f (stored (reference_of wg) false) (H.mem q g).word false off₂ (word_ref wg ∙ ap (λ (c : Cell). c.word) same_g) refl,
    )
      where
        live : (H.mem p f).dead ≡ false
        live = cas_live H p f s u k h cx.0 (λ e. val_spec (mode_at St H p f) e md) m

        ev : val_of (field_at St H p f) (H.mem p f).word ≡ Reference q
        ev = ap₂ (λ (T : Content) (n : ℕ). val_of T n) e_t wd

        H₁ : Heap
        H₁ = wr H p f zeroed

        e₁ : Entry
        e₁ = here (Reference q) (pt owned s' 0) (pt alias s' u' ∷ ys)

        σ₁ : Slots
        σ₁ = put σ y e₁

        inv₁ : Inv St σ₁ H₁
        inv₁ = subst₂ (λ (a : Slot) (T : Content). Inv St (put σ y (here a (ty_of T) (pt alias s' u' ∷ ys))) (wr H p f zeroed)) ev e_t
            (claim St σ H y p f (pt alias s' u' ∷ ys) inv live m
            (subst₂ (λ (a : Slot) (T : Content). Saved St H a (ty_of T) (pt alias s' u' ∷ ys)) (sym ev) (sym e_t) (cy.0, omega arith, cy.1)))

        c₁ : EntryOK St H₁ e₁
        c₁ = at_slot St σ₁ H₁ y e₁ inv₁ (put_at σ y e₁)

        G₁ : Grows St H (wr H p f zeroed)
        G₁ = wr_grows St H p f zeroed (λ e. absurd (not_both e m))

        st₁ : Stable St H₁ q g
        st₁ = G₁.stays q g cy.0.low st

        e₂ : Entry
        e₂ = here (Reference q) (pt owned s' u'') (pt alias s' u' ∷ ys)

        σ₂ : Slots
        σ₂ = put σ₁ y e₂

        c₂ : EntryOK St H₁ e₂
        c₂ = (record { low = c₁.0.low; struct = c₁.0.struct; part = (λ j i. rw (al.only j i) st₁, λ j d. absurd (has_none j (c₁.0.part.1 j d))) }, c₁.1)

        inv₂ : Inv St σ₂ H₁
        inv₂ = retype St σ₁ H₁ y e₂ inv₁ c₂ (inr (ap own_e (sym (put_at σ y e₁)))) (inl refl) (inr (ap name_e (sym (put_at σ y e₁))))

        wg : ℕ
        wg = (H₁.mem q g).word

        same_g : H₁.mem q g ≡ H.mem q g
        same_g = wr_off H p f zeroed q g apart_c

        live_g : (H₁.mem q g).dead ≡ false
        live_g = off_true (H₁.mem q g).dead (λ d. has_none g (c₁.0.part.1 g d))

        H₂ : Heap
        H₂ = wr H₁ q g (gone (H₁.mem q g))

        e₃ : Entry
        e₃ = here (reference_of wg) (pt owned s' 0) []

        σ₃ : Slots
        σ₃ = put σ₂ t e₃

        inv₃ : Inv St σ₃ H₂
        inv₃ = extract St σ₂ H₁ t y q g s' s' u'' (pt alias s' u') ys inv₂ (put_at σ₁ y e₂) refl al.has eg live_g st₁ apart_t

        H₃ : Heap
        H₃ = wr H₂ p f (stored (reference_of wg) false)

        um : (H₂.mem p f).mark ≡ false
        um = ap (λ (c : Cell). c.mark) (wr_off H₁ q g (gone (H₁.mem q g)) p f (λ e. apart_c (sym e)) ∙ wr_at H p f zeroed)

        fl : Flows (pt owned s' 0) (ty_of (field_at St H p f))
        fl = rw e_t (refl, refl)

        inv₄ : Inv St (put σ₃ t (here (spent (field_at St H p f) (reference_of wg)) (pt owned s' 0) [])) H₃
        inv₄ = store St σ₃ H₂ t p f false (reference_of wg) (pt owned s' 0) [] inv₃ (put_at σ₂ t e₃) fl (λ e. absurd (not_both e um)) (λ e. absurd (not_both e refl)) (λ e. absurd (spec_once (mode_at St H p f) md e)) (λ e. absurd (not_both e refl))

        e₄ : Entry
        e₄ = here (spent (field_at St H p f) (reference_of wg)) (pt owned s' 0) []

        inv₅ : Inv St (put (put σ₃ t e₄) t out) H₃
        inv₅ = retype St (put σ₃ t e₄) H₃ t out inv₄ tt (inl refl) (inl refl) (inl refl)

        chain : put (put (put σ₂ t e₃) t e₄) t out ≡ put σ y e₂
        chain = put_spare σ₂ t e₃ e₄ (put_off σ₁ y e₂ t apart_t ∙ put_off σ y e₁ t apart_t ∙ et) ∙ put_put σ y e₁ e₂

        off₂ : Off H₂ (erase H) p f
        off₂ = off_ghost H₁ (erase H) p f q g (gone (H₁.mem q g)) (off_wr H (erase H) p f zeroed (off H p f)) (ap (λ (c : Cell). c.word) same_g) (ap (λ (c : Cell). c.mark) same_g)

    pub do_unlink_alias : field_at St H p f ≡ falias s' → RefTo (field_at St H q g) s' → Sound St (put σ y (here (Reference q) (pt alias s' u'') (pt alias s' u' ∷ ys))) (poke (erase H) p f (H.mem q g).word false)
    do_unlink_alias e_t rg =
        (H₁, subst (λ (a : Slots). Inv St a H₁) chain inv₄, erase_wr H (erase H) p f (stored vg false) (H.mem q g).word false (off H p f) ew refl)
      where
        vg : Slot
        vg = val_of (field_at St H q g) (H.mem q g).word

        tg : (T : Content) → RefTo T s' → lent T ≡ pt alias s' 0
        tg fnum r = absurd r
        tg (falias i) r = ap (λ (j : ℕ). pt alias j 0) r
        tg (fowned i) r = ap (λ (j : ℕ). pt alias j 0) r

        ew : word_of vg ≡ (H.mem q g).word
        ew = ap word_of (ref_val (field_at St H q g) s' (H.mem q g).word rg) ∙ word_ref (H.mem q g).word

        e₂ : Entry
        e₂ = here (Reference q) (pt alias s' u'') (pt alias s' u' ∷ ys)

        σ₁ : Slots
        σ₁ = put σ y e₂

        inv₁ : Inv St σ₁ H
        inv₁ = retype St σ H y e₂ inv (record { low = cy.0.low; struct = cy.0.struct; part = (λ j i. rw (al.only j i) st, cy.0.part.1) }, (cy.0, omega arith, cy.1)) (inl refl) (inl refl) (inr (ap name_e (sym ey)))

        e₁ : Entry
        e₁ = here vg (lent (field_at St H q g)) []

        inv₂ : Inv St (put σ₁ t e₁) H
        inv₂ = do_get St σ₁ H t q g inv₁

        fl : Flows (lent (field_at St H q g)) (ty_of (field_at St H p f))
        fl = rw (e_t, tg (field_at St H q g) rg) (refl, λ j i. i)

        H₁ : Heap
        H₁ = wr H p f (stored vg false)

        e₃ : Entry
        e₃ = here (spent (field_at St H p f) vg) (lent (field_at St H q g)) []

        inv₃ : Inv St (put (put σ₁ t e₁) t e₃) H₁
        inv₃ = store St (put σ₁ t e₁) H t p f false vg (lent (field_at St H q g)) [] inv₂ (put_at σ₁ t e₁) fl (λ e. absurd (not_both e m)) (λ e. absurd (not_both e refl)) (λ e. absurd (spec_once (mode_at St H p f) md e)) (λ e. absurd (not_both e refl))

        inv₄ : Inv St (put (put (put σ₁ t e₁) t e₃) t out) H₁
        inv₄ = retype St (put (put σ₁ t e₁) t e₃) H₁ t out inv₃ tt (inl refl) (inl refl) (inl refl)

        chain : put (put (put σ₁ t e₁) t e₃) t out ≡ put σ y e₂
        chain = put_spare σ₁ t e₁ e₃ (put_off σ y e₂ t apart_t ∙ et)

  pub do_link : (σ : Slots) (H : Heap) (t x y : Spot) (p f q g s u s' u' : ℕ) (k : Right) (xs ys : List Claim) → Inv St σ H → σ t ≡ out → ¬ (x ≡ y) → Plain k
      → σ x ≡ here (Reference p) (pt k s u) xs → σ y ≡ here (Reference q) (pt pristine s' u') ys
      → mode_at St H p f ≡ Spec → mode_at St H q g ≡ Val → field_at St H p f ≡ fowned s' → field_at St H q g ≡ fowned s' → Alone u' g → (H.mem p f).mark ≡ false → (H.mem p f).word ≡ (H.mem q g).word
      → Sound St (put σ y (here Null (pt pristine s' u') ys)) (poke (erase H) p f (suc q) false)
  do_link σ H t x y p f q g s u s' u' k xs ys inv et n h ex ey md mg e_t eg al m wd =
      (H₃, subst (λ (a : Slots). Inv St a H₃) chain inv₆, erase_wr H₂ (erase H) p f (stored (Reference q) false) (suc q) false off₂ refl refl)
    where
      cx : EntryOK St H (here (Reference p) (pt k s u) xs)
      cx = at_slot St σ H x (here (Reference p) (pt k s u) xs) inv ex

      cy : EntryOK St H (here (Reference q) (pt pristine s' u') ys)
      cy = at_slot St σ H y (here (Reference q) (pt pristine s' u') ys) inv ey

      apart_t : ¬ (t ≡ y)
      apart_t e = let i : here (Reference q) (pt pristine s' u') ys ≡ out = sym ey ∙ ap σ (sym e) ∙ et in let z : ◌≡◌ {A = ℕ} 0 1 = cc in omega arith

      apart_y : ¬ (y ≡ t)
      apart_y e = apart_t (sym e)

      -- x names p and is not y, the only name of q
      apart_c : ¬ (cell q g ≡ cell p f)
      apart_c e = let a : q ≡ p = cc in n (at_inj (inv.sole y (at x) q (ap pris_e ey) (ap name_e ex ∙ ap suc (sym a))))

      live : (H.mem p f).dead ≡ false
      live = cas_live H p f s u k h cx.0 (λ e. val_spec (mode_at St H p f) e md) m

      -- what x.f owns goes to the spare slot
      H₁ : Heap
      H₁ = wr H p f zeroed

      wp : ℕ
      wp = (H.mem p f).word

      e₁ : Entry
      e₁ = here (reference_of wp) (pt owned s' 0) []

      σ₁ : Slots
      σ₁ = put σ t e₁

      inv₁ : Inv St σ₁ H₁
      inv₁ = subst (λ (T : Content). Inv St (put σ t (here (val_of T (H.mem p f).word) (ty_of T) [])) (wr H p f zeroed)) e_t (claim St σ H t p f [] inv live m tt)

      ey₁ : σ₁ y ≡ here (Reference q) (pt pristine s' u') ys
      ey₁ = put_off σ t e₁ y apart_y ∙ ey

      c₁ : EntryOK St H₁ (here (Reference q) (pt pristine s' u') ys)
      c₁ = at_slot St σ₁ H₁ y (here (Reference q) (pt pristine s' u') ys) inv₁ ey₁

      -- and from there to y.g, which holds it already
      fl₁ : Flows (pt owned s' 0) (ty_of (field_at St H q g))
      fl₁ = rw eg (refl, refl)

      H₂ : Heap
      H₂ = wr H₁ q g (stored (reference_of wp) false)

      e₂ : Entry
      e₂ = here (spent (field_at St H q g) (reference_of wp)) (pt owned s' 0) []

      inv₂ : Inv St (put σ₁ t e₂) H₂
      inv₂ = store St σ₁ H₁ t q g false (reference_of wp) (pt owned s' 0) [] inv₁ (put_at σ t e₁) fl₁ (λ e. absurd (not_both e (c₁.0.part.0 g))) (λ e. absurd (not_both e refl)) (λ e. absurd (val_once (mode_at St H q g) mg e)) (λ e. absurd (not_both e refl))

      inv₃ : Inv St (put (put σ₁ t e₂) t out) H₂
      inv₃ = retype St (put σ₁ t e₂) H₂ t out inv₂ tt (inl refl) (inl refl) (inl refl)

      back : put (put (put σ t e₁) t e₂) t out ≡ σ
      back = put_spare σ t e₁ e₂ et

      inv₄ : Inv St σ H₂
      inv₄ = subst (λ (a : Slots). Inv St a H₂) back inv₃

      -- now y withholds nothing
      c₂ : EntryOK St H₂ (here (Reference q) (pt pristine s' u') ys)
      c₂ = at_slot St σ H₂ y (here (Reference q) (pt pristine s' u') ys) inv₄ ey

      live_g : (H₂.mem q g).dead ≡ false
      live_g = ap (λ (c : Cell). c.dead) (wr_at H₁ q g (stored (reference_of wp) false))

      e₃ : Entry
      e₃ = here (Reference q) (pt pristine s' 0) ys

      c₃ : EntryOK St H₂ e₃
      c₃ = (record { low = c₂.0.low; struct = c₂.0.struct; part = (c₂.0.part.0, λ j d. absurd (not_both d (subst (λ (i : ℕ). (H₂.mem q i).dead ≡ false) (sym (al.only j (c₂.0.part.1 j d))) live_g))) }, saved_rank H₂ (Reference q) (pt pristine s' u') (pt pristine s' 0) ys (omega arith) c₂.1)

      σ₅ : Slots
      σ₅ = put σ y e₃

      inv₅ : Inv St σ₅ H₂
      inv₅ = retype St σ H₂ y e₃ inv₄ c₃ (inr (ap own_e (sym ey))) (inr (ap pris_e (sym ey))) (inr (ap name_e (sym ey)))

      -- and y goes to x.f
      fl : Flows (pt pristine s' 0) (ty_of (field_at St H p f))
      fl = rw e_t (refl, (refl, refl))

      H₃ : Heap
      H₃ = wr H₂ p f (stored (Reference q) false)

      um : (H₂.mem p f).mark ≡ false
      um = ap (λ (c : Cell). c.mark) (wr_off H₁ q g (stored (reference_of wp) false) p f (λ e. apart_c (sym e)) ∙ wr_at H p f zeroed)

      e₄ : Entry
      e₄ = here (spent (field_at St H p f) (Reference q)) (pt pristine s' 0) ys

      invₛ : Inv St (put σ₅ y e₄) H₃
      invₛ = store St σ₅ H₂ y p f false (Reference q) (pt pristine s' 0) ys inv₅ (put_at σ y e₃) fl (λ e. absurd (not_both e um)) (λ e. absurd (not_both e refl)) (λ e. absurd (spec_once (mode_at St H p f) md e)) (λ e. absurd (not_both e refl))

      e₅ : Entry
      e₅ = here Null (pt pristine s' u') ys

      inv₆ : Inv St (put (put σ₅ y e₄) y e₅) H₃
      inv₆ = retype St (put σ₅ y e₄) H₃ y e₅ invₛ (null_entry St H H₃ (Reference q) (pt pristine s' u') ys tt cy) (inl refl) (inl refl) (inl refl)

      chain : put (put (put σ y e₃) y e₄) y e₅ ≡ put σ y e₅
      chain = put_put (put σ y e₃) y e₄ e₅ ∙ put_put σ y e₃ e₅

      off₂ : Off H₂ (erase H) p f
      off₂ = off_ghost H₁ (erase H) p f q g (stored (reference_of wp) false) (off_wr H (erase H) p f zeroed (off H p f)) (word_ref wp ∙ wd) (sym (cy.0.part.0 g))
