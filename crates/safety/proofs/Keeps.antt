-- Every step keeps the invariant, so every run does.
use Rattle.std.proofs.Common.{◌≡◌, ℕ, suc, false, sym, refl, ap, ◌∙◌, subst, inr, arith}
use Rattle.machine.specs.declared.threads.Slot.{Slot}
use Rattle.machine.specs.declared.threads.Slot.TheVariants.{Empty, Null, Number, Reference}
use Rattle.safety.specs.Model.{Claim, num, pt, Content, fnum, falias, fowned, Structs, Cell, Heap, Slots, Spot, out, here, Place, at, cell, own_e, pris_e, name_c, Conf, Inv}
use Rattle.safety.specs.Fields.{zeroed, grow}
use Rattle.safety.specs.Step.{Mem, erase, shared, Sound, Step, do_int, do_null, do_new, do_share, do_get, do_give, do_lend, do_fall, do_take, do_set, do_tentative, do_swap, do_unlink, do_unlink_alias, do_link, do_try, do_fix, do_stable}
use Rattle.safety.specs.Kept.{blank, void, Fits, Kept}
use Rattle.safety.proofs.Update.{at_inj}
use Rattle.safety.proofs.New.{new, zero_cell, own_zeroed}
use Rattle.safety.proofs.Erase.{erase_grow}
use Rattle.safety.proofs.Cells.{not_cell_at}
use Rattle.safety.proofs.Ops as O
use Rattle.safety.proofs.Hand as D

module _ (St : Structs) where
  -- one step, from the memory under a ghost heap
  keeps_at : (σ : Slots) (H : Heap) (t : Spot) → σ t ≡ out → Inv St σ H → (σ' : Slots) (R' : Mem) → Step St σ (erase H) σ' R' → Sound St σ' R'
  keeps_at σ H t et inv σ' R' (do_int z n) = (H, O.do_int St σ H z n inv, refl)
  keeps_at σ H t et inv σ' R' (do_null z s) = (H, O.do_null St σ H z s inv, refl)
  keeps_at σ H t et inv σ' R' (do_new z s) = (grow H s, new St σ H z s inv, erase_grow H s)
  keeps_at σ H t et inv σ' R' (do_share z x v a ts ex r) = (H, O.do_lend St σ H z x v a (shared a) ts inv ex (O.share_flow St a r) (O.shared_rank a), refl)
  keeps_at σ H t et inv σ' R' (do_get z x p f a ts ex) = (H, O.do_get St σ H z p f inv, refl)
  keeps_at σ H t et inv σ' R' (do_give z x v a b ts n ex fl r) = (H, O.do_give St σ H z x v a b ts inv n ex fl r, refl)
  keeps_at σ H t et inv σ' R' (do_lend z x v a b ts ex fl r) = (H, O.do_lend St σ H z x v a b ts inv ex fl r, refl)
  keeps_at σ H t et inv σ' R' (do_fall τ k) = (H, O.do_fall St σ τ H inv k, refl)
  keeps_at σ H t et inv σ' R' (do_take z x p f a ts ex m) = O.do_take St σ H z p f inv m
  keeps_at σ H t et inv σ' R' (do_set z x y p f k s w w' v a xs ys n nz ex ey wt fl wo) = D.do_set St σ H z x y p f k s w w' v a xs ys inv n nz ex ey wt fl wo
  keeps_at σ H t et inv σ' R' (do_tentative z x y p f s w w' s' u v xs ys n nz ny ex ey nv nc e_t wi) = D.do_tentative St σ H z x y p f s w w' s' u v xs ys inv n nz ny ex ey nv nc e_t wi
  keeps_at σ H t et inv σ' R' (do_swap x y w p f k s u s' u' v v' a xs ys ws n h ex ey ew md rt fl m wd) = D.do_swap St σ H x y w p f s u s' u' k v v' a xs ys ws inv n h ex ey ew md rt fl m wd
  keeps_at σ H t et inv σ' R' (do_unlink x y p f q g k s u s' u' u'' xs ys h ex ey md mg e_t eg al m wd) = D.do_unlink St σ H t x y p f q g s u s' u' u'' k xs ys inv et h ex ey md mg al m wd e_t eg
  keeps_at σ H t et inv σ' R' (do_unlink_alias x y p f q g k s u s' u' u'' xs ys h ex ey md mg e_t eg al m wd) = D.do_unlink_alias St σ H t x y p f q g s u s' u' u'' k xs ys inv et h ex ey md mg al m wd e_t eg
  keeps_at σ H t et inv σ' R' (do_link x y p f q g k s u s' u' xs ys n h ex ey md mg e_t eg al m wd) = D.do_link St σ H t x y p f q g s u s' u' k xs ys inv et n h ex ey md mg e_t eg al m wd
  keeps_at σ H t et inv σ' R' (do_try x y p f k s u u' s' v xs ys n h ex ey md e_t w m) = D.do_try St σ H x y p f s u u' s' k v xs ys inv n h ex ey md e_t w m
  keeps_at σ H t et inv σ' R' (do_fix x p f k s u u' xs h ex md w) = D.do_fix St σ H x p f s u u' k xs inv h ex md w
  keeps_at σ H t et inv σ' R' (do_stable x p f k s u u' xs h ex m w) = (H, D.do_stable St σ H x p f s u u' k xs inv h ex (inr m) w, refl)

  pub keeps : (σ σ' : Slots) (R R' : Mem) (t : Spot) → σ t ≡ out → Step St σ R σ' R' → Sound St σ R → Sound St σ' R'
  keeps σ σ' R R' t et st (H, inv, e) = keeps_at σ H t et inv σ' R' (subst (λ (a : Mem). Step St σ a σ' R') (sym e) st)

  pub start_sound : Sound St blank void
  start_sound = (G, record { slots = λ s. tt; cells = λ o f. zero_cell St G o f refl; unique = un; sole = λ s p o h. let z : ⊥ = omega arith in absurd z }, refl)
    where
      G : Heap
      G = record { size = 0; kind = λ o. 0; mem = λ o f. zeroed }

      un : (p q : Place) (o : ℕ) → Rattle.safety.specs.Model.own St blank G p ≡ suc o → Rattle.safety.specs.Model.own St blank G q ≡ suc o → p ≡ q
      un (at s) q o h j = let z : ⊥ = omega arith in absurd z
      un (cell p f) q o h j = let i = own_zeroed (St.field 0 f) in let z : ⊥ = omega arith in absurd z

fits : (St : Structs) (H : Heap) (v : Slot) (t : Claim) → Conf St H v t → Fits (erase H) v t
fits St H Empty t c = c
fits St H Null num c = c
fits St H Null (pt k s w) c = tt
fits St H (Number n) num c = tt
fits St H (Number n) (pt k s w) c = c
fits St H (Reference o) num c = c
fits St H (Reference o) (pt k s w) c = (c.low, c.struct)

name_word : (T : Content) (c d : Cell) → c.word ≡ d.word → name_c T c ≡ name_c T d
name_word fnum c d e = refl
name_word (falias s) c d e = e
name_word (fowned s) c d e = e

kept : (St : Structs) (σ : Slots) (H : Heap) → Inv St σ H → Kept St σ (erase H)
kept St σ H inv = record {
  no_clash = clash;
  only_name = λ x y o s w ts ex h. at_inj (inv.sole x (at y) o (ap pris_e ex) h);
  no_field = λ x o s w ts ex p f h. not_cell_at (inv.sole x (cell p f) o (ap pris_e ex) (name_word (St.field (H.kind p) f) (H.mem p f) (record { word = (H.mem p f).word; mark = false; dead = false }) refl ∙ h));
  named = λ p f o h. ((inv.cells p f).points o (name_word (St.field (H.kind p) f) (H.mem p f) (record { word = (H.mem p f).word; mark = false; dead = false }) refl ∙ h)).0;
  fits = λ x v t ts ex. fits St H v t (O.at_slot St σ H x (here v t ts) inv ex).0;
}
  where
    clash : (x y : Spot) (o : ℕ) → own_e (σ x) ≡ suc o → own_e (σ y) ≡ suc o → x ≡ y
    clash x y o h j = at_inj (inv.unique (at x) (at y) o h j)

pub kept_sound : (St : Structs) (σ : Slots) (R : Mem) → Sound St σ R → Kept St σ R
kept_sound St σ R s = subst (λ (a : Mem). Kept St σ a) s.2 (kept St σ s.0 s.1)
