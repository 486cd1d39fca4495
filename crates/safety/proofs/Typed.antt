-- Every record that the rules allow keeps the invariant, on threads of frames.
use Rattle.std.proofs.Common.{◌≡◌, ℕ, zero, suc, ◌<◌, ◌≤◌, true, false, List, [], ◌∷◌, length, get_or, set, replicate, sym, refl, ap, ◌∙◌, subst, ap₂, inl, inr, arith}
use Rattle.table.specs.declared.types.Mode.{Mode}
use Rattle.machine.specs.declared.threads.Slot.{Slot}
use Rattle.machine.specs.declared.threads.Slot.TheVariants.{Empty, Null, Number, Reference}
use Rattle.machine.specs.Values.{word_of}
use Rattle.machine.specs.declared.threads.Frame.{Frame}
use Rattle.safety.specs.Model.{Right, alias, owned, pristine, Claim, num, pt, Content, Structs, Spot, spot, Slots, Entry, out, here, put}
use Rattle.safety.specs.Fields.{Flows, ty_of, lent, val_of, spent}
use Rattle.safety.specs.Step.{Mem, poke, added, shared, Writable, RefTo, Sound, Step, Falls, ends, stays, mode_of, field_of, do_int, do_null, do_new, do_share, do_get, do_give, do_take, do_set, do_tentative, do_swap, do_unlink, do_unlink_alias, do_link, do_try, do_fix, do_stable}
use Rattle.safety.specs.Frames.{Later, AllReady}
use Rattle.safety.specs.Threads.{Scopes, entry_at, frame_at, flat}
use Rattle.safety.specs.Calls.{args_to, IsFrame}
use Rattle.safety.specs.Kept.{blank, void}
use Rattle.safety.specs.Typed.{NotIn, AllGiven, scope, fresh, slots_at, Slotted, Active, Typed, started, t_stay, t_number, t_null, t_new, t_share, t_own, t_get, t_take, t_set, t_tentative, t_swap, t_unlink, t_unlink_alias, t_link, t_try, t_fix, t_stable, t_call, t_return, t_end, t_again}
use Rattle.safety.proofs.Update.{put_at, put_off}
use Rattle.safety.proofs.Frames.{put_same}
use Rattle.safety.proofs.Keeps.{keeps, start_sound}
use Rattle.safety.proofs.Threads.{put_of₂, put_of₃}
use Rattle.safety.proofs.Lift.{sound_falls}
use Rattle.safety.proofs.Calls.{entry_nil, frame?, slot_frame, call_threads, return_threads, again_threads, gone_frame, at_frame}
use Rattle.safety.proofs.Shapes.{entry_at_is, refers, stay, binds, gives, sets, pushes, trades, spends}

in_list : (sc : List (List Claim)) (x : ℕ) (t : Claim) (ts : List Claim) → get_or sc x [] ≡ t ∷ ts → x < length sc
in_list [] x t ts e = let z : ◌≡◌ {A = ℕ} 0 1 = cc in omega arith
in_list (us ∷ sc) zero t ts e = omega arith
in_list (us ∷ sc) (suc x) t ts e = let h = in_list sc x t ts e in omega arith

entry_past : (vs : List Slot) (sc : List (List Claim)) (k : ℕ) → length vs ≤ k → entry_at vs sc k ≡ out
entry_past [] sc k h = refl
entry_past (v ∷ vs) [] k h = refl
entry_past (v ∷ vs) (us ∷ sc) zero h = let z : ⊥ = omega arith in absurd z
entry_past (v ∷ vs) (us ∷ sc) (suc k) h = entry_past vs sc k (omega arith)

other : {i j x y : ℕ} → ¬ (x ≡ y) → ¬ (spot i j x ≡ spot i j y)
other n e = n (slot_frame e).1

module _ (St : Structs) (S : Scopes) (M : List (List Frame)) (R : Mem) (i j : ℕ) (act : Active St S M i j) (sound : Sound St (flat S M) R) where
  σ : Slots
  σ = flat S M

  pub in_scope : (x : ℕ) (v : Slot) (t : Claim) (ts : List Claim) → Slotted St S M i j x v t ts → flat S M (spot i j x) ≡ here v t ts
  in_scope x v t ts h = entry_at_is (slots_at St S M i j) (scope St S M i j) x t ts (let l = in_list (scope St S M i j) x t ts h.types in let a = act.few in let b = act.slots in omega arith) h.types ∙ ap (λ (w : Slot). here w t ts) h.value

  not_fresh : (x : ℕ) (v : Slot) (t : Claim) (ts : List Claim) → Slotted St S M i j x v t ts → ¬ (x ≡ fresh St S M i j)
  not_fresh x v t ts h e = let l = in_list (scope St S M i j) x t ts h.types in omega arith

  room : fresh St S M i j < 16 → fresh St S M i j < length (slots_at St S M i j)
  room h = let b = act.slots in omega arith

  one : (σ' : Slots) (R' : Mem) → Step St (flat S M) R σ' R' → Sound St σ' R'
  one σ' R' st = keeps St (flat S M) σ' R R' (spot i j 16) (entry_past (slots_at St S M i j) (scope St S M i j) 16 (let b = act.slots in omega arith)) st sound

  kind_is : (x p : ℕ) (k : Right) (s w : ℕ) (ts : List Claim) → Slotted St S M i j x (Reference p) (pt k s w) ts → R.kind p ≡ s
  kind_is x p k s w ts h = (refers St (flat S M) R (spot i j x) p s w k ts sound (in_scope x (Reference p) (pt k s w) ts h)).1

  field_is : (p s f : ℕ) → R.kind p ≡ s → field_of St R p f ≡ St.field s f
  field_is p s f e = ap (λ (k : ℕ). St.field k f) e

  mode_is : (p s f : ℕ) → R.kind p ≡ s → mode_of St R p f ≡ St.mode s f
  mode_is p s f e = ap (λ (k : ℕ). St.mode k f) e

  all_ready : (i' j' k : ℕ) (l : List (ℕ × Claim)) → ¬ (IsFrame i j i' j') → AllGiven (scope St S M i j) l → AllReady (flat S M) (args_to i j i' j' k l)
  all_ready i' j' k [] n g = tt
  all_ready i' j' k (a ∷ l) n g = (
    record {
      value = get_or (slots_at St S M i j) a.0 Empty;
      typed = g.0.typed;
      saved = g.0.saved;
      is = in_scope a.0 (get_or (slots_at St S M i j) a.0 Empty) g.0.typed g.0.saved (record { types = g.0.is; value = refl });
      flows = g.0.flows;
      apart = λ e. n (sym (slot_frame e).0.0, sym (slot_frame e).0.1);
    },
    later (suc k) l g.1,
    all_ready i' j' (suc k) l n g.2,
  )
    where
      later : (m : ℕ) (l : List (ℕ × Claim)) → NotIn a.0 l → Later (record { source = spot i j a.0; target = spot i' j' k; type = a.1 }) (args_to i j i' j' m l)
      later m [] h = tt
      later m (b ∷ l) h = ((λ e. h.0 (slot_frame e).1), (λ e. n (slot_frame e).0), later (suc m) l h.1)

  pub typed_keeps : (M' : List (List Frame)) (R' : Mem) → Typed St S M R i j M' R' → Sound St (flat S M') R'
  typed_keeps M' R' (t_stay index' h) = stay St S M R i j index' act.thread act.newest 0 h (subst (λ (a : Slots). Sound St a R) (sym (put_same (flat S M) (spot i j 0) (flat S M (spot i j 0)) refl)) sound)
  typed_keeps M' R' (t_number index' n r h) = binds St S M R i j index' act.thread act.newest (Number n) num (room r) h
      (one (put (flat S M) (spot i j (fresh St S M i j)) (here (Number n) num [])) R (do_int (spot i j (fresh St S M i j)) n))
  typed_keeps M' R' (t_null index' s r h) = binds St S M R i j index' act.thread act.newest Null (pt pristine s 0) (room r) h
      (one (put (flat S M) (spot i j (fresh St S M i j)) (here Null (pt pristine s 0) [])) R (do_null (spot i j (fresh St S M i j)) s))
  typed_keeps M' R' (t_new index' s r h) = binds St S M (added R s) i j index' act.thread act.newest (Reference R.size) (pt pristine s 0) (room r) h
      (one (put (flat S M) (spot i j (fresh St S M i j)) (here (Reference R.size) (pt pristine s 0) [])) (added R s) (do_new (spot i j (fresh St S M i j)) s))
  typed_keeps M' R' (t_share index' x v t ts r ex rk h) = binds St S M R i j index' act.thread act.newest v (shared t) (room r) h
      (one (put (flat S M) (spot i j (fresh St S M i j)) (here v (shared t) [])) R (do_share (spot i j (fresh St S M i j)) (spot i j x) v t ts (in_scope x v t ts ex) rk))
  typed_keeps M' R' (t_own index' x s v ts r ex h) = gives St S M R i j index' act.thread act.newest x v v Null (pt pristine s 0) (pt owned s 0) ts (room r) (not_fresh x v (pt pristine s 0) ts ex) (in_scope x v (pt pristine s 0) ts ex) h
      (one (put (put (flat S M) (spot i j x) (here Null (pt pristine s 0) ts)) (spot i j (fresh St S M i j)) (here v (pt owned s 0) [])) R
      (do_give (spot i j (fresh St S M i j)) (spot i j x) v (pt pristine s 0) (pt owned s 0) ts (other (λ e. not_fresh x v (pt pristine s 0) ts ex (sym e))) (in_scope x v (pt pristine s 0) ts ex) (refl, (refl, refl)) (omega arith)))
  typed_keeps M' R' (t_get index' x p f k s w ts r ex h) = binds St S M R i j index' act.thread act.newest (val_of (St.field s f) (R.word p f)) (lent (St.field s f)) (room r) h
      (subst (λ (T : Content). Sound St (put (flat S M) (spot i j (fresh St S M i j)) (here (val_of T (R.word p f)) (lent T) [])) R) (field_is p s f (kind_is x p k s w ts ex))
      (one (put (flat S M) (spot i j (fresh St S M i j)) (here (val_of (field_of St R p f) (R.word p f)) (lent (field_of St R p f)) [])) R
      (do_get (spot i j (fresh St S M i j)) (spot i j x) p f (pt k s w) ts (in_scope x (Reference p) (pt k s w) ts ex))))
  typed_keeps M' R' (t_take index' x p f k s w ts r ex m h) = binds St S M (poke R p f 0 false) i j index' act.thread act.newest (val_of (St.field s f) (R.word p f)) (ty_of (St.field s f)) (room r) h
      (subst (λ (T : Content). Sound St (put (flat S M) (spot i j (fresh St S M i j)) (here (val_of T (R.word p f)) (ty_of T) [])) (poke R p f 0 false)) (field_is p s f (kind_is x p k s w ts ex))
      (one (put (flat S M) (spot i j (fresh St S M i j)) (here (val_of (field_of St R p f) (R.word p f)) (ty_of (field_of St R p f)) [])) (poke R p f 0 false)
      (do_take (spot i j (fresh St S M i j)) (spot i j x) p f (pt k s w) ts (in_scope x (Reference p) (pt k s w) ts ex) (mode_is p s f (kind_is x p k s w ts ex) ∙ m))))
  typed_keeps M' R' (t_set index' x y p f k s w w' v t xs ys r n ex ey wt fl wo h) =
      let e = kind_is x p k s w xs ex in
      let z : Spot = spot i j (fresh St S M i j) in
      sets St S M (poke R p f (word_of v) false) i j index' act.thread act.newest y x (Reference p) v (spent (St.field s f) v) (Reference p) Null t (pt k s w) (pt k s w') ys xs (room r)
      (λ q. n (sym q)) (not_fresh y v t ys ey) (not_fresh x (Reference p) (pt k s w) xs ex) (in_scope y v t ys ey) (in_scope x (Reference p) (pt k s w) xs ex) h
      (subst (λ (T : Content). Sound St (put (put (put (flat S M) (spot i j y) (here (spent T v) t ys)) (spot i j x) (here Null (pt k s w) xs)) (spot i j (fresh St S M i j)) (here (Reference p) (pt k s w') [])) (poke R p f (word_of v) false)) (field_is p s f e)
      (one (put (put (put (flat S M) (spot i j y) (here (spent (field_of St R p f) v) t ys)) (spot i j x) (here Null (pt k s w) xs)) (spot i j (fresh St S M i j)) (here (Reference p) (pt k s w') [])) (poke R p f (word_of v) false)
      (do_set (spot i j (fresh St S M i j)) (spot i j x) (spot i j y) p f k s w w' v t xs ys (other n) (other (λ q. not_fresh x (Reference p) (pt k s w) xs ex (sym q))) (in_scope x (Reference p) (pt k s w) xs ex) (in_scope y v t ys ey)
      (subst (λ (m : Mode). Writable k m) (sym (mode_is p s f e)) wt) (subst (λ (T : Content). Flows t (ty_of T)) (sym (field_is p s f e)) fl) wo)))
  typed_keeps M' R' (t_tentative index' x y p f s w w' s' u v xs ys r n ex ey nv nc e_t wi h) =
      let e = kind_is x p pristine s w xs ex in
      let nx = not_fresh x (Reference p) (pt pristine s w) xs ex in
      let ny = not_fresh y v (pt alias s' u) ys ey in
      let z : ℕ = fresh St S M i j in
      let a : Entry = here Null (pt pristine s w) xs in
      let b : Entry = here (Reference p) (pt pristine s w') [] in
      let c : Entry = here Null (pt alias s' u) ys in
      let τ : Slots = put (put (put (flat S M) (spot i j x) a) (spot i j z) b) (spot i j y) c in
      let turned : put (put (put (flat S M) (spot i j y) c) (spot i j x) a) (spot i j z) b ≡ τ =
      put_of₃ (flat S M) τ (spot i j y) (spot i j x) (spot i j z) c a b (other (λ q. n (sym q))) (other ny) (other nx)
      (put_at (put (put (flat S M) (spot i j x) a) (spot i j z) b) (spot i j y) c)
      (put_off (put (put (flat S M) (spot i j x) a) (spot i j z) b) (spot i j y) c (spot i j x) (other n) ∙ put_off (put (flat S M) (spot i j x) a) (spot i j z) b (spot i j x) (other nx) ∙ put_at (flat S M) (spot i j x) a)
      (put_off (put (put (flat S M) (spot i j x) a) (spot i j z) b) (spot i j y) c (spot i j z) (other (λ q. ny (sym q))) ∙ put_at (put (flat S M) (spot i j x) a) (spot i j z) b)
      (λ q my mx mz. put_off (put (put (flat S M) (spot i j x) a) (spot i j z) b) (spot i j y) c q my ∙ put_off (put (flat S M) (spot i j x) a) (spot i j z) b q mz ∙ put_off (flat S M) (spot i j x) a q mx) in
      sets St S M (poke R p f (word_of v) false) i j index' act.thread act.newest y x (Reference p) v Null (Reference p) Null (pt alias s' u) (pt pristine s w) (pt pristine s w') ys xs (room r)
      (λ q. n (sym q)) ny nx (in_scope y v (pt alias s' u) ys ey) (in_scope x (Reference p) (pt pristine s w) xs ex) h
      (subst (λ (q : Slots). Sound St q (poke R p f (word_of v) false)) (sym turned)
      (one τ (poke R p f (word_of v) false)
      (do_tentative (spot i j z) (spot i j x) (spot i j y) p f s w w' s' u v xs ys (other n) (other (λ q. nx (sym q))) (other (λ q. ny (sym q))) (in_scope x (Reference p) (pt pristine s w) xs ex) (in_scope y v (pt alias s' u) ys ey)
      (λ m. nv (sym (mode_is p s f e) ∙ m)) (λ m. nc (sym (mode_is p s f e) ∙ m)) (field_is p s f e ∙ e_t) wi)))
  typed_keeps M' R' (t_swap index' x y w p f k s u s' u' v v' t xs ys ws n pl ex ey ew md rt fl m wd h) =
      let e = kind_is x p k s u xs ex in
      trades St S M (poke R p f (word_of v') false) i j index' act.thread act.newest y w v v' (spent (St.field s f) v') (pt alias s' u') (ty_of (St.field s f)) t ys ws n (in_scope y v (pt alias s' u') ys ey) (in_scope w v' t ws ew) h
      (subst (λ (T : Content). Sound St (put (put (flat S M) (spot i j y) (here v (ty_of T) (pt alias s' u' ∷ ys))) (spot i j w) (here (spent T v') t ws)) (poke R p f (word_of v') false)) (field_is p s f e)
      (one (put (put (flat S M) (spot i j y) (here v (ty_of (field_of St R p f)) (pt alias s' u' ∷ ys))) (spot i j w) (here (spent (field_of St R p f) v') t ws)) (poke R p f (word_of v') false)
      (do_swap (spot i j x) (spot i j y) (spot i j w) p f k s u s' u' v v' t xs ys ws (other n) pl (in_scope x (Reference p) (pt k s u) xs ex) (in_scope y v (pt alias s' u') ys ey) (in_scope w v' t ws ew)
      (mode_is p s f e ∙ md) (subst (λ (T : Content). RefTo T s') (sym (field_is p s f e)) rt) (subst (λ (T : Content). Flows t (ty_of T)) (sym (field_is p s f e)) fl) m wd)))
  typed_keeps M' R' (t_unlink index' x y p f q g k s u s' u' u'' xs ys pl ex ey md mg e_t eg al m wd h) =
      let e = kind_is x p k s u xs ex in let e' = kind_is y q alias s' u' ys ey in
      pushes St S M (poke R p f (R.word q g) false) i j index' act.thread act.newest y (Reference q) (pt alias s' u') (pt owned s' u'') ys (in_scope y (Reference q) (pt alias s' u') ys ey) h
      (one (put (flat S M) (spot i j y) (here (Reference q) (pt owned s' u'') (pt alias s' u' ∷ ys))) (poke R p f (R.word q g) false)
      (do_unlink (spot i j x) (spot i j y) p f q g k s u s' u' u'' xs ys pl (in_scope x (Reference p) (pt k s u) xs ex) (in_scope y (Reference q) (pt alias s' u') ys ey) (mode_is p s f e ∙ md)
      (elim mg [ inl a ↦ inl (mode_is q s' g e' ∙ a) | inr a ↦ inr a ]) (field_is p s f e ∙ e_t) (field_is q s' g e' ∙ eg) al m wd))
  typed_keeps M' R' (t_unlink_alias index' x y p f q g k s u s' u' u'' xs ys pl ex ey md mg e_t eg al m wd h) =
      let e = kind_is x p k s u xs ex in let e' = kind_is y q alias s' u' ys ey in
      pushes St S M (poke R p f (R.word q g) false) i j index' act.thread act.newest y (Reference q) (pt alias s' u') (pt alias s' u'') ys (in_scope y (Reference q) (pt alias s' u') ys ey) h
      (one (put (flat S M) (spot i j y) (here (Reference q) (pt alias s' u'') (pt alias s' u' ∷ ys))) (poke R p f (R.word q g) false)
      (do_unlink_alias (spot i j x) (spot i j y) p f q g k s u s' u' u'' xs ys pl (in_scope x (Reference p) (pt k s u) xs ex) (in_scope y (Reference q) (pt alias s' u') ys ey) (mode_is p s f e ∙ md)
      (elim mg [ inl a ↦ inl (mode_is q s' g e' ∙ a) | inr a ↦ inr a ]) (field_is p s f e ∙ e_t) (subst (λ (T : Content). RefTo T s') (sym (field_is q s' g e')) eg) al m wd))
  typed_keeps M' R' (t_link index' x y p f q g k s u s' u' xs ys n pl ex ey md mg e_t eg al m wd h) =
      let e = kind_is x p k s u xs ex in let e' = kind_is y q pristine s' u' ys ey in
      spends St S M (poke R p f (suc q) false) i j index' act.thread act.newest y (Reference q) Null (pt pristine s' u') ys (in_scope y (Reference q) (pt pristine s' u') ys ey) h
      (one (put (flat S M) (spot i j y) (here Null (pt pristine s' u') ys)) (poke R p f (suc q) false)
      (do_link (spot i j x) (spot i j y) p f q g k s u s' u' xs ys (other n) pl (in_scope x (Reference p) (pt k s u) xs ex) (in_scope y (Reference q) (pt pristine s' u') ys ey) (mode_is p s f e ∙ md) (mode_is q s' g e' ∙ mg)
      (field_is p s f e ∙ e_t) (field_is q s' g e' ∙ eg) al m wd))
  typed_keeps M' R' (t_try index' x y p f k s u u' s' v xs ys n pl ex ey md e_t w m h) =
      let e = kind_is x p k s u xs ex in
      let a : Entry = here Null (pt pristine s' 0) ys in
      let b : Entry = here (Reference p) (pt k s u') (pt k s u ∷ xs) in
      let τ : Slots = put (put (flat S M) (spot i j y) a) (spot i j x) b in
      let turned : put (put (flat S M) (spot i j x) b) (spot i j y) a ≡ τ =
      put_of₂ (flat S M) τ (spot i j x) (spot i j y) b a (other n) (put_at (put (flat S M) (spot i j y) a) (spot i j x) b)
      (put_off (put (flat S M) (spot i j y) a) (spot i j x) b (spot i j y) (other (λ q. n (sym q))) ∙ put_at (flat S M) (spot i j y) a)
      (λ q mx my. put_off (put (flat S M) (spot i j y) a) (spot i j x) b q mx ∙ put_off (flat S M) (spot i j y) a q my) in
      trades St S M (poke R p f (word_of v) true) i j index' act.thread act.newest x y (Reference p) v Null (pt k s u) (pt k s u') (pt pristine s' 0) xs ys (λ q. n (sym q)) (in_scope x (Reference p) (pt k s u) xs ex) (in_scope y v (pt pristine s' 0) ys ey) h
      (subst (λ (q : Slots). Sound St q (poke R p f (word_of v) true)) (sym turned)
      (one τ (poke R p f (word_of v) true)
      (do_try (spot i j x) (spot i j y) p f k s u u' s' v xs ys (other n) pl (in_scope x (Reference p) (pt k s u) xs ex) (in_scope y v (pt pristine s' 0) ys ey) (mode_is p s f e ∙ md) (field_is p s f e ∙ e_t) w m)))
  typed_keeps M' R' (t_fix index' x p f k s u u' xs pl ex md w h) =
      pushes St S M (poke R p f (R.word p f) true) i j index' act.thread act.newest x (Reference p) (pt k s u) (pt k s u') xs (in_scope x (Reference p) (pt k s u) xs ex) h
      (one (put (flat S M) (spot i j x) (here (Reference p) (pt k s u') (pt k s u ∷ xs))) (poke R p f (R.word p f) true)
      (do_fix (spot i j x) p f k s u u' xs pl (in_scope x (Reference p) (pt k s u) xs ex) (mode_is p s f (kind_is x p k s u xs ex) ∙ md) w))
  typed_keeps M' R' (t_stable index' x p f k s u u' xs pl ex m w h) =
      pushes St S M R i j index' act.thread act.newest x (Reference p) (pt k s u) (pt k s u') xs (in_scope x (Reference p) (pt k s u) xs ex) h
      (one (put (flat S M) (spot i j x) (here (Reference p) (pt k s u') (pt k s u ∷ xs))) R (do_stable (spot i j x) p f k s u u' xs pl (in_scope x (Reference p) (pt k s u) xs ex) m w))
  typed_keeps M' R' (t_call M'' i' j' n index' l rest ap' clear here' h there params others g) = call_threads St S M M'' R i j i' j' n index' l rest ap' clear here' h there params others (all_ready i' j' 0 l ap' g) sound
  typed_keeps M' R' (t_return M'' i' j' x index' v t t₀ ts ap' rm ex fl here' h ended others) =
      return_threads St S M M'' R i' j' i j x index' t ap' rm
      (subst (λ (w : Slot). frame_at M'' i' j' ≡ record { function = (frame_at M i' j').function; index = index'; slots = set (slots_at St S M i' j') (fresh St S M i' j') w }) (sym ex.value) here') h ended others
      (record { value = v; typed = t₀; saved = ts; is = in_scope x v t₀ ts ex; flows = fl; apart = λ q. ap' (slot_frame q).0 }) sound
  typed_keeps M' R' (t_end M'' ended others) = sound_falls St (flat S M) (flat S M'') R all sound
    where
      all : (s : Spot) → Falls (flat S M s) (flat S M'' s)
      all (spot a b k) = go (frame? a b i j)
        where
          go : Dec (IsFrame a b i j) → Falls (flat S M (spot a b k)) (flat S M'' (spot a b k))
          go (yes q) = subst (λ (y : Entry). Falls (flat S M (spot a b k)) y) (sym (gone_frame St S M M'' R M'' a b k (ap₂ (λ (x y : ℕ). (frame_at M'' x y).slots) q.0 q.1 ∙ ended))) ends
          go (no n) = stays (sym (at_frame St S M M'' R a b k (frame_at M a b) (others a b n)))
  typed_keeps M' R' (t_again M'' i' j' l rest ap' clear here' params others g) = again_threads St S M M'' R i j i' j' l rest ap' clear here' params others (all_ready i' j' 0 l ap' g) sound

module _ (St : Structs) (S : Scopes) where
  pub started_sound : S 0 0 ≡ [] → Sound St (flat S (started St S)) void
  started_sound e = sound_falls St blank (flat S (started St S)) void (λ s. stays (sym (all s))) (start_sound St)
    where
      all : (s : Spot) → flat S (started St S) s ≡ out
      all (spot zero zero k) = ap (λ (q : List (List Claim)). entry_at (replicate 16 Empty) q k) e ∙ entry_nil (replicate 16 Empty) k
      all (spot zero (suc b) k) = refl
      all (spot (suc a) b k) = refl
