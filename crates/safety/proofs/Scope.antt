-- Changes of slots alone: a binding, a move, the end of a scope, another type.
use Rattle.std.proofs.Common.{◌≡◌, ℕ, ◌≤◌, ◌⊎◌, List, [], sym, refl, ap, ◌∙◌, subst, inl, inr, arith}
use Rattle.machine.specs.declared.threads.Slot.{Slot}
use Rattle.machine.specs.declared.threads.Slot.TheVariants.{Null}
use Rattle.safety.specs.Model.{alias, owned, pristine, Claim, num, pt, Structs, Heap, Slots, Spot, Entry, here, Place, at, cell, spot?, put, name_of, rank, pris_ty, name_e, own_e, pris_e, Conf, EntryOK, Inv, name, own, pris}
use Rattle.safety.proofs.Update.{put_at, put_off}
use Rattle.safety.proofs.Places.{Sub, unique_less, unique_swap, sole_gain, sole_move}
use Rattle.safety.proofs.Flow.{own_zero, pris_zero, own_high, conf_high, null_entry}

pub put_ind : (P : Spot → Entry → Type 0) (σ : Slots) (z : Spot) (e : Entry) → P z e → ((s : Spot) → ¬ (s ≡ z) → P s (σ s)) → (s : Spot) → P s (put σ z e s)
put_ind P σ z e a b s = go (spot? s z)
  where
    go : Dec (s ≡ z) → P s (put σ z e s)
    go (yes i) = rw (i, put_at σ z e) a
    go (no n) = rw (put_off σ z e s n) (b s n)

module _ (St : Structs) where
  -- slots lose types, values, or go out of scope
  pub lessen : (σ σ' : Slots) (H : Heap) → Inv St σ H → ((s : Spot) → EntryOK St H (σ' s)) → ((s : Spot) → Sub (own_e (σ' s)) (own_e (σ s)))
      → ((s : Spot) → Sub (pris_e (σ' s)) (pris_e (σ s))) → ((s : Spot) → Sub (name_e (σ' s)) (name_e (σ s))) → Inv St σ' H
  lessen σ σ' H inv ok ow pr nm = record {
    slots = ok;
    cells = inv.cells;
    unique = unique_less (own St σ H) (own St σ' H) o inv.unique;
    sole = sole_gain (pris St σ) (pris St σ') (name St σ H) (name St σ' H) (cell 0 0) pr (λ s e. absurd (never s e)) (λ r. inl (n r)) inv.sole;
  }
    where
      never : (s : Spot) → cell 0 0 ≡ at s → ⊥
      never s e = let z : ◌≡◌ {A = ℕ} 0 1 = cc in omega arith

      o : (r : Place) → Sub (own St σ' H r) (own St σ H r)
      o (at s) = ow s
      o (cell p f) = inr refl

      n : (r : Place) → Sub (name St σ' H r) (name St σ H r)
      n (at s) = nm s
      n (cell p f) = inr refl

  -- one slot loses: another type for it, a saved type popped, the end of its scope
  pub retype : (σ : Slots) (H : Heap) (z : Spot) (e : Entry) → Inv St σ H → EntryOK St H e → Sub (own_e e) (own_e (σ z)) → Sub (pris_e e) (pris_e (σ z)) → Sub (name_e e) (name_e (σ z)) → Inv St (put σ z e) H
  retype σ H z e inv ok ow pr nm = lessen σ (put σ z e) H inv
      (put_ind (λ s x. EntryOK St H x) σ z e ok (λ s n. inv.slots s))
      (put_ind (λ s x. Sub (own_e x) (own_e (σ s))) σ z e ow (λ s n. inr refl))
      (put_ind (λ s x. Sub (pris_e x) (pris_e (σ s))) σ z e pr (λ s n. inr refl))
      (put_ind (λ s x. Sub (name_e x) (name_e (σ s))) σ z e nm (λ s n. inr refl))

  -- a slot gets a value that owns nothing: a number, null, or a copy of what a place names that is not pristine
  pub bind : (σ : Slots) (H : Heap) (z : Spot) (e : Entry) (q : Place) → Inv St σ H → EntryOK St H e → own_e e ≡ 0 → pris_e e ≡ 0
      → ((s : Spot) → q ≡ at s → pris St σ s ≡ 0) → Sub (name_e e) (name St σ H q) → Inv St (put σ z e) H
  bind σ H z e q inv ok ow pr plain nm = record {
    slots = put_ind (λ s x. EntryOK St H x) σ z e ok (λ s n. inv.slots s);
    cells = inv.cells;
    unique = unique_less (own St σ H) (own St (put σ z e) H) o inv.unique;
    sole = sole_gain (pris St σ) (pris St (put σ z e)) (name St σ H) (name St (put σ z e) H) q pr'
        (λ s i. put_ind (λ s x. q ≡ at s → pris_e x ≡ 0) σ z e (λ _. pr) (λ s n. plain s) s i) n inv.sole;
  }
    where
      pr' : (s : Spot) → Sub (pris_e (put σ z e s)) (pris_e (σ s))
      pr' = put_ind (λ s x. Sub (pris_e x) (pris_e (σ s))) σ z e (inl pr) (λ s n. inr refl)

      o : (r : Place) → Sub (own St (put σ z e) H r) (own St σ H r)
      o (at s) = put_ind (λ s x. Sub (own_e x) (own_e (σ s))) σ z e (inl ow) (λ s n. inr refl) s
      o (cell p f) = inr refl

      gain : Sub (name_e e) (name St σ H q) → Sub (name_e e) (name_e (σ z)) ⊎ (name_e e ≡ name St σ H q)
      gain (inl x) = inl (inl x)
      gain (inr x) = inr x

      n : (r : Place) → Sub (name St (put σ z e) H r) (name St σ H r) ⊎ (name St (put σ z e) H r ≡ name St σ H q)
      n (at s) = put_ind (λ s x. Sub (name_e x) (name_e (σ s)) ⊎ (name_e x ≡ name St σ H q)) σ z e (gain nm) (λ s n. inl (inr refl)) s
      n (cell p f) = inl (inr refl)

  -- an owner's value goes to another slot, and leaves null
  pub move : (σ : Slots) (H : Heap) (x z : Spot) (v : Slot) (t t' : Claim) (ts : List Claim) → Inv St σ H → ¬ (z ≡ x) → σ x ≡ here v t ts → Conf St H v t' → 1 ≤ rank t' → rank t' ≤ rank t
      → Inv St (put (put σ x (here Null t ts)) z (here v t' [])) H
  move σ H x z v t t' ts inv nx ex c lo hi = record {
    slots = ind₂ (λ s y. EntryOK St H y) (c, tt)
        (null_entry St H H v t ts (conf_high St H v t' lo c) (subst (λ (y : Entry). EntryOK St H y) ex (inv.slots x))) (λ s n m. inv.slots s);
    cells = inv.cells;
    unique = unique_swap (own St σ H) (own St σ' H) (at x) (at z)
        (inl (ap own_e at_x ∙ own_zero t))
        (inr (ap own_e at_z ∙ own_high t' (name_of v) lo ∙ sym (own_high t (name_of v) (omega arith)) ∙ ap own_e (sym ex))) o inv.unique;
    sole = sole_move (pris St σ) (pris St σ') (name St σ H) (name St σ' H) x z (ap name_e at_x) (ap pris_e at_x ∙ pris_zero t)
        (pz (pris_ty_sub t' t (name_of v) hi)) (inr (ap name_e at_z ∙ ap name_e (sym ex)))
        (λ s n m. inr (ap pris_e (off s n m))) nm inv.sole;
  }
    where
      σ' : Slots
      σ' = put (put σ x (here Null t ts)) z (here v t' [])

      ind₂ : (P : Spot → Entry → Type 0) → P z (here v t' []) → P x (here Null t ts) → ((s : Spot) → ¬ (s ≡ x) → ¬ (s ≡ z) → P s (σ s)) → (s : Spot) → P s (σ' s)
      ind₂ P a b k = put_ind P (put σ x (here Null t ts)) z (here v t' []) a
          (λ s n. put_ind (λ s y. ¬ (s ≡ z) → P s y) σ x (here Null t ts) (λ _. b) (λ s m l. k s m l) s n)

      at_z : σ' z ≡ here v t' []
      at_z = put_at (put σ x (here Null t ts)) z (here v t' [])

      at_x : σ' x ≡ here Null t ts
      at_x = put_off (put σ x (here Null t ts)) z (here v t' []) x (λ e. nx (sym e)) ∙ put_at σ x (here Null t ts)

      off : (s : Spot) → ¬ (s ≡ x) → ¬ (s ≡ z) → σ' s ≡ σ s
      off s n m = put_off (put σ x (here Null t ts)) z (here v t' []) s m ∙ put_off σ x (here Null t ts) s n

      o : (r : Place) → ¬ (r ≡ at x) → ¬ (r ≡ at z) → Sub (own St σ' H r) (own St σ H r)
      o (at s) n m = inr (ap own_e (off s (λ e. n (ap at e)) (λ e. m (ap at e))))
      o (cell p f) n m = inr refl

      nm : (r : Place) → ¬ (r ≡ at x) → ¬ (r ≡ at z) → Sub (name St σ' H r) (name St σ H r)
      nm (at s) n m = inr (ap name_e (off s (λ e. n (ap at e)) (λ e. m (ap at e))))
      nm (cell p f) n m = inr refl

      pris_ty_sub : (a b : Claim) (n : ℕ) → rank a ≤ rank b → Sub (pris_ty a n) (pris_ty b n)
      pris_ty_sub num b n h = inl refl
      pris_ty_sub (pt alias s w) b n h = inl refl
      pris_ty_sub (pt owned s w) b n h = inl refl
      pris_ty_sub (pt pristine s w) num n h = let z : ⊥ = omega arith in absurd z
      pris_ty_sub (pt pristine s w) (pt alias s' w') n h = let z : ⊥ = omega arith in absurd z
      pris_ty_sub (pt pristine s w) (pt owned s' w') n h = let z : ⊥ = omega arith in absurd z
      pris_ty_sub (pt pristine s w) (pt pristine s' w') n h = inr refl

      pz : Sub (pris_ty t' (name_of v)) (pris_ty t (name_of v)) → Sub (pris_e (σ' z)) (pris_e (σ x))
      pz (inl e) = inl (ap pris_e at_z ∙ e)
      pz (inr e) = inr (ap pris_e at_z ∙ e ∙ ap pris_e (sym ex))
