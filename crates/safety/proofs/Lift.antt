-- A change of a few slots of one frame, and the end of blocks with it: from the flat configuration to threads of frames.
use Rattle.std.proofs.Common.{◌≡◌, ℕ, zero, suc, ◌<◌, false, ◌⊎◌, List, [], ◌∷◌, length, get_or, set, sym, refl, ap, ◌∙◌, subst, ap₂, inl, inr}
use native.Mathlib.Decide.{ℕ_discrete}
use Rattle.table.specs.declared.types.Mode.TheVariants.{Spec}
use Rattle.machine.specs.declared.threads.Slot.{Slot}
use Rattle.machine.specs.declared.threads.Slot.TheVariants.{Reference}
use Rattle.machine.specs.Values.{word_of}
use Rattle.machine.specs.declared.threads.Frame.{Frame}
use Rattle.safety.specs.Model.{Right, alias, Claim, pt, Content, Structs, Spot, spot, Slots, Entry, out, here, put}
use Rattle.safety.specs.Fields.{Flows, ty_of, spent}
use Rattle.safety.specs.Step.{Mem, poke, Sound, Falls, ends, stays, pops, RefTo, Plain, mode_of, field_of, do_swap}
use Rattle.safety.specs.Threads.{Scopes, typed, entry_at, frame_at, put_frame, flat, Suffix, FallsSc}
use Rattle.safety.proofs.Scope.{put_ind}
use Rattle.safety.proofs.Ops as O
use Rattle.safety.proofs.Keeps.{keeps}
use Rattle.safety.proofs.Threads.{entry_val, entry_val_off, entry_push, entry_push_off, flat_same, flat_off}

falls_typed : (v : Slot) (ts us : List Claim) → Suffix ts us → Falls (typed v ts) (typed v us)
falls_typed v [] us e = stays (ap (typed v) e)
falls_typed v (t ∷ ts) us (inl e) = stays (ap (typed v) e)
falls_typed v (t ∷ []) us (inr k) = subst (λ (u : List Claim). Falls (here v t []) (typed v u)) k ends
falls_typed v (t ∷ (u ∷ ts)) us (inr k) = pops (falls_typed v (u ∷ ts) us k)

-- the entries of a scope fall as the scope does
pub entry_falls : (vs : List Slot) (res sc : List (List Claim)) → FallsSc res sc → (k : ℕ) → Falls (entry_at vs res k) (entry_at vs sc k)
entry_falls [] res sc h k = stays refl
entry_falls (v ∷ vs) res [] h k = ends
entry_falls (v ∷ vs) [] (us ∷ sc) h k = absurd h
entry_falls (v ∷ vs) (ts ∷ res) (us ∷ sc) h zero = falls_typed v ts us h.0
entry_falls (v ∷ vs) (ts ∷ res) (us ∷ sc) h (suc k) = entry_falls vs res sc h.1 k

pub sound_falls : (St : Structs) (σ σ' : Slots) (R : Mem) → ((s : Spot) → Falls (σ s) (σ' s)) → Sound St σ R → Sound St σ' R
sound_falls St σ σ' R k (H, inv, e) = (H, O.do_fall St σ σ' H inv k, e)

module _ (St : Structs) (S : Scopes) (M : List (List Frame)) (R : Mem) (i j : ℕ) (F : Frame) (hi : i < length M) (hj : j < length (get_or M i [])) where
  -- what the frame has in the end
  abbrev last : ℕ → Entry
  last k = entry_at F.slots (S F.function F.index) k

  -- slots of the frame other than these keep what they had, or fall
  rest : (P : ℕ → Type 0) → ((k : ℕ) → P k → Falls (flat S M (spot i j k)) (entry_at F.slots (S F.function F.index) k)) → (s : Spot) → ((k : ℕ) → s ≡ spot i j k → P k) → Falls (flat S M s) (flat S (put_frame M i j F) s)
  rest P h (spot a b k) p = go (ℕ_discrete a i) (ℕ_discrete b j)
    where
      same : (¬ (a ≡ i)) ⊎ (¬ (b ≡ j)) → Falls (flat S M (spot a b k)) (flat S (put_frame M i j F) (spot a b k))
      same n = stays (sym (flat_off S M i j F hi hj (λ s. (l : ℕ) → ¬ (s ≡ spot i j l)) (λ l q. absurd (q l refl)) (spot a b k) (λ l e. apart n l e)))
        where
          apart : (¬ (a ≡ i)) ⊎ (¬ (b ≡ j)) → (l : ℕ) → ¬ (spot a b k ≡ spot i j l)
          apart (inl n) l e = n (cc)
          apart (inr n) l e = n (cc)

      go : Dec (a ≡ i) → Dec (b ≡ j) → Falls (flat S M (spot a b k)) (flat S (put_frame M i j F) (spot a b k))
      go (no n) d = same (inl n)
      go (yes e) (no n) = same (inr n)
      go (yes e) (yes e') =
          let q : spot a b k ≡ spot i j k = ap₂ (λ (x y : ℕ). spot x y k) e e' in
          subst (λ (s : Spot). Falls (flat S M s) (flat S (put_frame M i j F) s)) (sym q) (subst (λ (x : Entry). Falls (flat S M (spot i j k)) x) (sym (flat_same S M i j F hi hj k)) (h k (p k q)))

  at_last : (x : ℕ) (a : Entry) → Falls a (entry_at F.slots (S F.function F.index) x) → Falls a (flat S (put_frame M i j F) (spot i j x))
  at_last x a h = subst (λ (y : Entry). Falls a y) (sym (flat_same S M i j F hi hj x)) h

  pub lift₁ : (x : ℕ) (a : Entry) → Falls a (entry_at F.slots (S F.function F.index) x)
      → ((k : ℕ) → ¬ (k ≡ x) → Falls (flat S M (spot i j k)) (entry_at F.slots (S F.function F.index) k))
      → Sound St (put (flat S M) (spot i j x) a) R → Sound St (flat S (put_frame M i j F)) R
  lift₁ x a fa k s = sound_falls St (put (flat S M) (spot i j x) a) (flat S (put_frame M i j F)) R
      (put_ind (λ s e. Falls e (flat S (put_frame M i j F) s)) (flat S M) (spot i j x) a (at_last x a fa)
      (λ s n. rest (λ l. ¬ (l ≡ x)) k s (λ l e q. n (e ∙ ap (λ (y : ℕ). spot i j y) q)))) s

  pub lift₂ : (x y : ℕ) (a b : Entry) → Falls a (entry_at F.slots (S F.function F.index) x) → Falls b (entry_at F.slots (S F.function F.index) y)
      → ((k : ℕ) → ¬ (k ≡ x) → ¬ (k ≡ y) → Falls (flat S M (spot i j k)) (entry_at F.slots (S F.function F.index) k))
      → Sound St (put (put (flat S M) (spot i j x) a) (spot i j y) b) R → Sound St (flat S (put_frame M i j F)) R
  lift₂ x y a b fa fb k s = sound_falls St (put (put (flat S M) (spot i j x) a) (spot i j y) b) (flat S (put_frame M i j F)) R
      (put_ind (λ s e. Falls e (flat S (put_frame M i j F) s)) (put (flat S M) (spot i j x) a) (spot i j y) b (at_last y b fb)
      (λ s n. put_ind (λ s e. ¬ (s ≡ spot i j y) → Falls e (flat S (put_frame M i j F) s)) (flat S M) (spot i j x) a (λ _. at_last x a fa)
      (λ s m n. rest (λ l. ¬ (l ≡ x) × ¬ (l ≡ y)) (λ l q. k l q.0 q.1) s (λ l e. (λ q. m (e ∙ ap (λ (y : ℕ). spot i j y) q), λ q. n (e ∙ ap (λ (y : ℕ). spot i j y) q)))) s n)) s

  pub lift₃ : (x y z : ℕ) (a b c : Entry) → Falls a (entry_at F.slots (S F.function F.index) x) → Falls b (entry_at F.slots (S F.function F.index) y) → Falls c (entry_at F.slots (S F.function F.index) z)
      → ((k : ℕ) → ¬ (k ≡ x) → ¬ (k ≡ y) → ¬ (k ≡ z) → Falls (flat S M (spot i j k)) (entry_at F.slots (S F.function F.index) k))
      → Sound St (put (put (put (flat S M) (spot i j x) a) (spot i j y) b) (spot i j z) c) R → Sound St (flat S (put_frame M i j F)) R
  lift₃ x y z a b c fa fb fc k s = sound_falls St (put (put (put (flat S M) (spot i j x) a) (spot i j y) b) (spot i j z) c) (flat S (put_frame M i j F)) R
      (put_ind (λ s e. Falls e (flat S (put_frame M i j F) s)) (put (put (flat S M) (spot i j x) a) (spot i j y) b) (spot i j z) c (at_last z c fc)
      (λ s o. put_ind (λ s e. ¬ (s ≡ spot i j z) → Falls e (flat S (put_frame M i j F) s)) (put (flat S M) (spot i j x) a) (spot i j y) b (λ _. at_last y b fb)
      (λ s n o. put_ind (λ s e. ¬ (s ≡ spot i j y) → ¬ (s ≡ spot i j z) → Falls e (flat S (put_frame M i j F) s)) (flat S M) (spot i j x) a (λ _ _. at_last x a fa)
      (λ s m n o. rest (λ l. ¬ (l ≡ x) × ¬ (l ≡ y) × ¬ (l ≡ z)) (λ l q. k l q.0 q.1 q.2) s
      (λ l e. (λ q. m (e ∙ ap (λ (y : ℕ). spot i j y) q), λ q. n (e ∙ ap (λ (y : ℕ). spot i j y) q), λ q. o (e ∙ ap (λ (y : ℕ). spot i j y) q)))) s n o) s o)) s

-- an example: the yes of swap, on threads of frames. The scope of the next record is that of this one, with T_f pushed on y, or falls from it
pub swap_threads : (St : Structs) (S : Scopes) (M : List (List Frame)) (R : Mem) (i j x y w p f : ℕ) (k : Right) (s u s' u' : ℕ) (v v' : Slot) (t : Claim) (xs ys ws : List Claim) (index' : ℕ)
    → i < length M → j < length (get_or M i []) → ¬ (w ≡ y) → Plain k
    → flat S M (spot i j x) ≡ here (Reference p) (pt k s u) xs → flat S M (spot i j y) ≡ here v (pt alias s' u') ys → flat S M (spot i j w) ≡ here v' t ws
    → mode_of St R p f ≡ Spec → RefTo (field_of St R p f) s' → Flows t (ty_of (field_of St R p f)) → R.mark p f ≡ false → R.word p f ≡ word_of v
    → FallsSc (set (S (frame_at M i j).function (frame_at M i j).index) y (ty_of (field_of St R p f) ∷ get_or (S (frame_at M i j).function (frame_at M i j).index) y [])) (S (frame_at M i j).function index')
    → (spare : Spot) → flat S M spare ≡ out
    → Sound St (flat S M) R
    → Sound St (flat S (put_frame M i j (record { function = (frame_at M i j).function; index = index'; slots = set (frame_at M i j).slots w (spent (field_of St R p f) v') }))) (poke R p f (word_of v') false)
swap_threads St S M R i j x y w p f k s u s' u' v v' t xs ys ws index' hi hj n h ex ey ew md rt fl m wd next spare es sound =
    lift₂ St S M (poke R p f (word_of v') false) i j F hi hj y w a b fa fb others
    (keeps St (flat S M) (put (put (flat S M) (spot i j y) a) (spot i j w) b) R (poke R p f (word_of v') false) spare es
    (do_swap (spot i j x) (spot i j y) (spot i j w) p f k s u s' u' v v' t xs ys ws (λ e. n (cc)) h ex ey ew md rt fl m wd) sound)
  where
    vs : List Slot
    vs = (frame_at M i j).slots

    sc : List (List Claim)
    sc = S (frame_at M i j).function (frame_at M i j).index

    T : Content
    T = field_of St R p f

    F : Frame
    F = record { function = (frame_at M i j).function; index = index'; slots = set vs w (spent T v') }

    a : Entry
    a = here v (ty_of T) (pt alias s' u' ∷ ys)

    b : Entry
    b = here (spent T v') t ws

    res : List (List Claim)
    res = set sc y (ty_of T ∷ get_or sc y [])

    at_res : (k : ℕ) (e : Entry) → entry_at (set vs w (spent T v')) res k ≡ e → Falls e (entry_at (set vs w (spent T v')) (S (frame_at M i j).function index') k)
    at_res k e q = subst (λ (z : Entry). Falls z (entry_at (set vs w (spent T v')) (S (frame_at M i j).function index') k)) q (entry_falls (set vs w (spent T v')) res (S (frame_at M i j).function index') next k)

    fa : Falls a (entry_at (set vs w (spent T v')) (S (frame_at M i j).function index') y)
    fa = at_res y a (entry_val_off vs res w (spent T v') y (λ e. n (sym e)) ∙ entry_push vs sc y v (pt alias s' u') (ty_of T) ys ey)

    fb : Falls b (entry_at (set vs w (spent T v')) (S (frame_at M i j).function index') w)
    fb = at_res w b (entry_val vs res w v' (spent T v') t ws (entry_push_off vs sc y (ty_of T ∷ get_or sc y []) w n ∙ ew))

    others : (k : ℕ) → ¬ (k ≡ y) → ¬ (k ≡ w) → Falls (entry_at vs sc k) (entry_at (set vs w (spent T v')) (S (frame_at M i j).function index') k)
    others k ny nw = at_res k (entry_at vs sc k) (entry_val_off vs res w (spent T v') k nw ∙ entry_push_off vs sc y (ty_of T ∷ get_or sc y []) k ny)
