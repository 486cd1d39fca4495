-- One cell and one slot change together, and all else goes on.
use Rattle.std.proofs.Common.{◌≡◌, ℕ, suc, Bool, true, false, ◌⊎◌, sym, refl, ap, ◌∙◌, subst, inl, inr, le_refl, arith}
use Rattle.safety.specs.Model.{Structs, Cell, Heap, Slots, Spot, Entry, Place, at, cell, spot?, place?, put, wr, name_e, own_e, pris_e, name_c, own_c, field_at, Stable, Dead, EntryOK, CellOK, Inv, name, own, pris}
use Rattle.safety.proofs.Update.{put_at, put_off, wr_at, wr_off, cell_inj, at_inj, not_both}
use Rattle.safety.proofs.Places.{Unique, Sole, Sub, unique_less, unique_swap, sole_gain}
use Rattle.safety.proofs.Frame.{Grows, KeepA, KeepO, KeepP, entry_frame, cell_frame}

not_at_cell : {s : Spot} {o f : ℕ} → at s ≡ cell o f → ⊥
not_at_cell e = let z : ◌≡◌ {A = ℕ} 0 1 = cc in omega arith

module _ (St : Structs) where
  -- the cell (p, f) becomes c: what the heap keeps
  pub wr_grows : (H : Heap) (p f : ℕ) (c : Cell) → ((H.mem p f).mark ≡ true → c.mark ≡ true) → Grows St H (wr H p f c)
  wr_grows H p f c keep = record {
    more = le_refl H.size;
    kinds = λ o l. refl;
    stays = λ o g l s. elim s [ inl x ↦ inl x | inr x ↦ inr (go o g x (place? (cell o g) (cell p f))) ];
  }
    where
      go : (o g : ℕ) → (H.mem o g).mark ≡ true → Dec (cell o g ≡ cell p f) → ((wr H p f c).mem o g).mark ≡ true
      go o g x (no n) = ap (λ (k : Cell). k.mark) (wr_off H p f c o g n) ∙ x
      go o g x (yes e) =
          let i = cell_inj e in
          let a : (H.mem p f).mark ≡ true = rw (← i.0, ← i.1) x in
          rw (i.0, i.1, wr_at H p f c) (keep a)

  -- a field of the new heap that is dead was so before, or is the one that was written
  pub wr_dead : (H : Heap) (p f : ℕ) (c : Cell) (o g : ℕ) → Dead St (wr H p f c) o g → Dead St H o g ⊎ ((o ≡ p) × (g ≡ f) × (c.dead ≡ true))
  wr_dead H p f c o g d = go (place? (cell o g) (cell p f))
    where
      go : Dec (cell o g ≡ cell p f) → Dead St H o g ⊎ ((o ≡ p) × (g ≡ f) × (c.dead ≡ true))
      go (no n) = inl (ap (λ (k : Cell). k.dead) (sym (wr_off H p f c o g n)) ∙ d)
      go (yes e) = let i = cell_inj e in
          let a : ((wr H p f c).mem p f).dead ≡ true = rw (i.0, i.1) at d in
          inr (i.0, i.1, ap (λ (k : Cell). k.dead) (sym (wr_at H p f c)) ∙ a)

  pub wr_mark : (H : Heap) (p f : ℕ) (c : Cell) (o g : ℕ) → (o ≡ p → c.mark ≡ true → (H.mem p f).mark ≡ true) → (H.mem o g).mark ≡ false → ((wr H p f c).mem o g).mark ≡ false
  wr_mark H p f c o g k d = go (place? (cell o g) (cell p f))
    where
      off : (b : Bool) → (b ≡ true → (H.mem p f).mark ≡ true) → (H.mem p f).mark ≡ false → b ≡ false
      off true j h = absurd (not_both (j refl) h)
      off false j h = refl

      go : Dec (cell o g ≡ cell p f) → ((wr H p f c).mem o g).mark ≡ false
      go (no n) = ap (λ (m : Cell). m.mark) (wr_off H p f c o g n) ∙ d
      go (yes e) = let i = cell_inj e in
          let a : (H.mem p f).mark ≡ false = rw (← i.0, ← i.1) d in
          rw (i.0, i.1, wr_at H p f c) (off c.mark (k i.0) a)

  -- the slot z gets the entry e, and the cell (p, f) becomes c; x is a slot whose entry is shown to be right by itself (often z again)
  pub record Written (σ : Slots) (H : Heap) (z x : Spot) (e : Entry) (p f : ℕ) (c : Cell) : Type 0 where
    pub keep : (H.mem p f).mark ≡ true → c.mark ≡ true
    pub need_a : (r : Place) → ¬ (r ≡ at z) → ¬ (r ≡ at x) → name St σ H r ≡ suc p → c.dead ≡ true → Dead St H p f ⊎ Stable St (wr H p f c) p f
    pub need_o : (r : Place) → ¬ (r ≡ at z) → ¬ (r ≡ at x) → ¬ (r ≡ cell p f) → own St σ H r ≡ suc p → c.dead ≡ true → Dead St H p f
    pub need_p : (s : Spot) → ¬ (s ≡ z) → ¬ (s ≡ x) → pris St σ s ≡ suc p → c.mark ≡ true → (H.mem p f).mark ≡ true
    pub entry : EntryOK St (wr H p f c) e
    pub beside : ¬ (x ≡ z) → EntryOK St (wr H p f c) (σ x)
    pub cellok : CellOK St (wr H p f c) p f
    pub owns : (Sub (own_e e) (own St σ H (cell p f)) × Sub (own_c (field_at St H p f) c) (own St σ H (at z))) ⊎ (Sub (own_e e) (own St σ H (at z)) × Sub (own_c (field_at St H p f) c) (own St σ H (cell p f)))
    pub giver : Place
    pub plain : (s : Spot) → giver ≡ at s → pris St (put σ z e) s ≡ 0
    pub prist : Sub (pris_e e) (pris St σ z)
    pub slot_name : Sub (name_e e) (name St σ H (at z)) ⊎ (name_e e ≡ name St σ H giver)
    pub cell_name : Sub (name_c (field_at St H p f) c) (name St σ H (cell p f)) ⊎ (name_c (field_at St H p f) c ≡ name St σ H giver)

  module _ (σ : Slots) (H : Heap) (z x : Spot) (e : Entry) (p f : ℕ) (c : Cell) (inv : Inv St σ H) (w : Written σ H z x e p f c) where
    σ' : Slots
    σ' = put σ z e

    H' : Heap
    H' = wr H p f c

    grows : Grows St H (wr H p f c)
    grows = wr_grows H p f c w.keep

    keep_a : (r : Place) → ¬ (r ≡ at z) → ¬ (r ≡ at x) → KeepA St H (wr H p f c) (name St σ H r)
    keep_a r n m o h g d = elim (wr_dead H p f c o g d) [
      | inl a ↦ inl a
      | inr a ↦
          (let h' : name St σ H r ≡ suc p = h ∙ ap suc a.0 in
          rw (a.0, a.1) (w.need_a r n m h' a.2))
    ]

    keep_o : (r : Place) → ¬ (r ≡ at z) → ¬ (r ≡ at x) → ¬ (r ≡ cell p f) → KeepO St H (wr H p f c) (own St σ H r)
    keep_o r n m l o h g d = elim (wr_dead H p f c o g d) [
      | inl a ↦ a
      | inr a ↦
          (let h' : own St σ H r ≡ suc p = h ∙ ap suc a.0 in
          rw (a.0, a.1) (w.need_o r n m l h' a.2))
    ]

    keep_p : (s : Spot) → ¬ (s ≡ z) → ¬ (s ≡ x) → KeepP St H (wr H p f c) (pris St σ s)
    keep_p s n m o h g = wr_mark H p f c o g (λ i k. let h' : pris St σ s ≡ suc p = h ∙ ap suc i in w.need_p s n m h' k)

    slots' : (s : Spot) → EntryOK St (wr H p f c) (put σ z e s)
    slots' s = go (spot? s z) (spot? s x)
      where
        go : Dec (s ≡ z) → Dec (s ≡ x) → EntryOK St (wr H p f c) (put σ z e s)
        go (yes i) d = subst (λ (t : Entry). EntryOK St (wr H p f c) t) (sym (put_at σ z e) ∙ ap (λ (t : Spot). put σ z e t) (sym i)) w.entry
        go (no n) (yes j) = subst (λ (t : Entry). EntryOK St (wr H p f c) t) (ap σ (sym j) ∙ sym (put_off σ z e s n)) (w.beside (λ k. n (j ∙ k)))
        go (no n) (no m) = subst (λ (t : Entry). EntryOK St (wr H p f c) t) (sym (put_off σ z e s n))
            (let n' : ¬ (at s ≡ at z) = λ k. n (at_inj k) in let m' : ¬ (at s ≡ at x) = λ k. m (at_inj k) in
            entry_frame St H (wr H p f c) grows (σ s) (inv.slots s) (keep_a (at s) n' m') (keep_o (at s) n' m' not_at_cell) (keep_p s n m))

    cells' : (o g : ℕ) → CellOK St (wr H p f c) o g
    cells' o g = go (place? (cell o g) (cell p f))
      where
        go : Dec (cell o g ≡ cell p f) → CellOK St (wr H p f c) o g
        go (yes e) = let i = cell_inj e in rw (i.0, i.1) w.cellok
        go (no n) =
            let n' : ¬ (cell o g ≡ at z) = λ k. not_at_cell (sym k) in let m' : ¬ (cell o g ≡ at x) = λ k. not_at_cell (sym k) in
            cell_frame St H (wr H p f c) grows o g refl (wr_off H p f c o g n) (inv.cells o g) (keep_a (cell o g) n' m') (keep_o (cell o g) n' m' n)

    own_at : own St (put σ z e) (wr H p f c) (at z) ≡ own_e e
    own_at = ap own_e (put_at σ z e)

    own_cell : own St (put σ z e) (wr H p f c) (cell p f) ≡ own_c (field_at St H p f) c
    own_cell = ap (λ (k : Cell). own_c (field_at St H p f) k) (wr_at H p f c)

    own_off : (r : Place) → ¬ (r ≡ at z) → ¬ (r ≡ cell p f) → own St (put σ z e) (wr H p f c) r ≡ own St σ H r
    own_off (at s) n m = ap own_e (put_off σ z e s (λ k. n (ap at k)))
    own_off (cell o g) n m = ap (λ (k : Cell). own_c (field_at St H o g) k) (wr_off H p f c o g m)

    name_at : name St (put σ z e) (wr H p f c) (at z) ≡ name_e e
    name_at = ap name_e (put_at σ z e)

    name_cell : name St (put σ z e) (wr H p f c) (cell p f) ≡ name_c (field_at St H p f) c
    name_cell = ap (λ (k : Cell). name_c (field_at St H p f) k) (wr_at H p f c)

    name_off : (r : Place) → ¬ (r ≡ at z) → ¬ (r ≡ cell p f) → name St (put σ z e) (wr H p f c) r ≡ name St σ H r
    name_off (at s) n m = ap name_e (put_off σ z e s (λ k. n (ap at k)))
    name_off (cell o g) n m = ap (λ (k : Cell). name_c (field_at St H o g) k) (wr_off H p f c o g m)

    unique' : Unique (own St (put σ z e) (wr H p f c))
    unique' = elim w.owns [
      | inl k ↦ unique_swap (own St σ H) (own St (put σ z e) (wr H p f c)) (at z) (cell p f) (rw own_at k.0) (rw own_cell k.1) (λ r n m. inr (own_off r n m)) inv.unique
      | inr k ↦ unique_less (own St σ H) (own St (put σ z e) (wr H p f c)) (λ r. less k r (place? r (at z)) (place? r (cell p f))) inv.unique
    ]
      where
        less : Sub (own_e e) (own St σ H (at z)) × Sub (own_c (field_at St H p f) c) (own St σ H (cell p f)) → (r : Place) → Dec (r ≡ at z) → Dec (r ≡ cell p f) → Sub (own St (put σ z e) (wr H p f c) r) (own St σ H r)
        less k r (yes i) d = rw i (rw own_at k.0)
        less k r (no n) (yes i) = rw i (rw own_cell k.1)
        less k r (no n) (no m) = inr (own_off r n m)

    sole' : Sole (pris St (put σ z e)) (name St (put σ z e) (wr H p f c))
    sole' = sole_gain (pris St σ) (pris St (put σ z e)) (name St σ H) (name St (put σ z e) (wr H p f c)) w.giver (λ s. pr s (spot? s z)) w.plain (λ r. n r (place? r (at z)) (place? r (cell p f))) inv.sole
      where
        pr : (s : Spot) → Dec (s ≡ z) → Sub (pris St (put σ z e) s) (pris St σ s)
        pr s (yes i) = rw (i, put_at σ z e) w.prist
        pr s (no n) = inr (ap pris_e (put_off σ z e s n))

        n : (r : Place) → Dec (r ≡ at z) → Dec (r ≡ cell p f) → Sub (name St (put σ z e) (wr H p f c) r) (name St σ H r) ⊎ (name St (put σ z e) (wr H p f c) r ≡ name St σ H w.giver)
        n r (yes i) d = rw i (rw name_at w.slot_name)
        n r (no k) (yes i) = rw i (rw name_cell w.cell_name)
        n r (no k) (no m) = inl (inr (name_off r k m))

    pub write : Inv St (put σ z e) (wr H p f c)
    write = record { slots = slots'; cells = cells'; unique = unique'; sole = sole' }
