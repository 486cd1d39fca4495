-- The shapes that a record's effect on its frame has: each from the flat configuration to threads of frames.
use Rattle.std.proofs.Common.{◌≡◌, ℕ, zero, suc, ◌<◌, List, [], ◌∷◌, ◌++◌, length, get_or, set, sym, refl, ap, ◌∙◌, subst, arith}
use Rattle.std.proofs.lemmas.List.{length-set}
use Rattle.machine.specs.declared.threads.Slot.{Slot}
use Rattle.machine.specs.declared.threads.Slot.TheVariants.{Empty, Reference}
use Rattle.machine.specs.declared.threads.Frame.{Frame}
use Rattle.safety.specs.Model.{Right, Claim, pt, Structs, Spot, spot, Slots, Entry, here, put}
use Rattle.safety.specs.Step.{Mem, Sound, Falls}
use Rattle.safety.specs.Threads.{Scopes, typed, entry_at, frame_at, flat, FallsSc, advance}
use Rattle.safety.proofs.Threads.{entry_bind, entry_bind_off, entry_val, entry_val_off, entry_push, entry_push_off}
use Rattle.safety.proofs.Lift.{entry_falls, lift₁, lift₂, lift₃}
use Rattle.safety.proofs.Ops.{at_slot}

-- A record is one step of the flat machine (Keeps) and one of these.

-- an entry in scope, from the types and the values
pub entry_at_is : (vs : List Slot) (sc : List (List Claim)) (x : ℕ) (t : Claim) (ts : List Claim) → x < length vs → get_or sc x [] ≡ t ∷ ts → entry_at vs sc x ≡ here (get_or vs x Empty) t ts
entry_at_is [] sc x t ts l e = let z : ⊥ = omega arith in absurd z
entry_at_is (v ∷ vs) [] x t ts l e = let z : ◌≡◌ {A = ℕ} 0 1 = cc in let y : ⊥ = omega arith in absurd y
entry_at_is (v ∷ vs) (us ∷ sc) zero t ts l e = ap (typed v) e
entry_at_is (v ∷ vs) (us ∷ sc) (suc x) t ts l e = entry_at_is vs sc x t ts (omega arith) e

-- what a slot in scope refers to is there, and has the struct of its type
pub refers : (St : Structs) (σ : Slots) (R : Mem) (x : Spot) (p s w : ℕ) (k : Right) (ts : List Claim) → Sound St σ R → σ x ≡ here (Reference p) (pt k s w) ts → (p < R.size) × (R.kind p ≡ s)
refers St σ R x p s w k ts (H, inv, e) ex =
    let c = at_slot St σ H x (here (Reference p) (pt k s w) ts) inv ex in
    subst (λ (Q : Mem). (p < Q.size) × (Q.kind p ≡ s)) e (c.0.low, c.0.struct)

module _ (St : Structs) (S : Scopes) (M : List (List Frame)) (R : Mem) (i j index' : ℕ) (hi : i < length M) (hj : j < length (get_or M i [])) where
  vs : List Slot
  vs = (frame_at M i j).slots

  sc : List (List Claim)
  sc = S (frame_at M i j).function (frame_at M i j).index

  -- the entries of a result's scope, on the way to the next record's
  to_next : (vals : List Slot) (res : List (List Claim)) → FallsSc res (S (frame_at M i j).function index') → (k : ℕ) (e : Entry) → entry_at vals res k ≡ e → Falls e (entry_at vals (S (frame_at M i j).function index') k)
  to_next vals res h k e q = subst (λ (y : Entry). Falls y (entry_at vals (S (frame_at M i j).function index') k)) q (entry_falls vals res (S (frame_at M i j).function index') h k)

  frame : List Slot → Frame
  frame vals = record { function = (frame_at M i j).function; index = index'; slots = vals }

  -- no slot changes: a test, emit, join
  pub stay : (x : ℕ) → FallsSc (S (frame_at M i j).function (frame_at M i j).index) (S (frame_at M i j).function index') → Sound St (put (flat S M) (spot i j x) (flat S M (spot i j x))) R → Sound St (flat S (advance M i j index' (frame_at M i j).slots)) R
  unfolding vs sc frame
  stay x h s = lift₁ St S M R i j (frame vs) hi hj x (flat S M (spot i j x)) (to_next vs sc h x (flat S M (spot i j x)) refl) (λ k n. to_next vs sc h k (flat S M (spot i j k)) refl) s

  -- z is bound: int, null, new, share, get, take, add
  pub binds : (v : Slot) (t : Claim) → length (S (frame_at M i j).function (frame_at M i j).index) < length (frame_at M i j).slots
      → FallsSc (S (frame_at M i j).function (frame_at M i j).index ++ ((t ∷ []) ∷ [])) (S (frame_at M i j).function index')
      → Sound St (put (flat S M) (spot i j (length (S (frame_at M i j).function (frame_at M i j).index))) (here v t [])) R
      → Sound St (flat S (advance M i j index' (set (frame_at M i j).slots (length (S (frame_at M i j).function (frame_at M i j).index)) v))) R
  unfolding vs sc frame
  binds v t room h s = lift₁ St S M R i j (frame (set vs (length sc) v)) hi hj (length sc) (here v t [])
      (to_next (set vs (length sc) v) (sc ++ ((t ∷ []) ∷ [])) h (length sc) (here v t []) (entry_bind vs sc v t room))
      (λ k n. to_next (set vs (length sc) v) (sc ++ ((t ∷ []) ∷ [])) h k (entry_at vs sc k) (entry_bind_off vs sc v t k n)) s

  -- x gives its value, and z is bound: own
  pub gives : (x : ℕ) (v v₀ v₁ : Slot) (t₀ t : Claim) (ts : List Claim) → length (S (frame_at M i j).function (frame_at M i j).index) < length (frame_at M i j).slots → ¬ (x ≡ length (S (frame_at M i j).function (frame_at M i j).index))
      → flat S M (spot i j x) ≡ here v₀ t₀ ts
      → FallsSc (S (frame_at M i j).function (frame_at M i j).index ++ ((t ∷ []) ∷ [])) (S (frame_at M i j).function index')
      → Sound St (put (put (flat S M) (spot i j x) (here v₁ t₀ ts)) (spot i j (length (S (frame_at M i j).function (frame_at M i j).index))) (here v t [])) R
      → Sound St (flat S (advance M i j index' (set (set (frame_at M i j).slots x v₁) (length (S (frame_at M i j).function (frame_at M i j).index)) v))) R
  unfolding vs sc frame
  gives x v v₀ v₁ t₀ t ts room n ex h s =
      let ws : List Slot = set vs x v₁ in
      let room' : length sc < length (set vs x v₁) = rw (length-set vs x v₁) room in
      lift₂ St S M R i j (frame (set (set vs x v₁) (length sc) v)) hi hj x (length sc) (here v₁ t₀ ts) (here v t [])
      (to_next (set (set vs x v₁) (length sc) v) (sc ++ ((t ∷ []) ∷ [])) h x (here v₁ t₀ ts) (entry_bind_off (set vs x v₁) sc v t x n ∙ entry_val vs sc x v₀ v₁ t₀ ts ex))
      (to_next (set (set vs x v₁) (length sc) v) (sc ++ ((t ∷ []) ∷ [])) h (length sc) (here v t []) (entry_bind (set vs x v₁) sc v t room'))
      (λ k m l. to_next (set (set vs x v₁) (length sc) v) (sc ++ ((t ∷ []) ∷ [])) h k (entry_at vs sc k) (entry_bind_off (set vs x v₁) sc v t k l ∙ entry_val_off vs sc x v₁ k m)) s

  -- y and x change their values, and z is bound: both forms of set (the tentative one puts z before y: `put_of₃` of Threads turns the order)
  pub sets : (y x : ℕ) (v v₀ v₁ u₀ u₁ : Slot) (t₀ t₁ t : Claim) (ys xs : List Claim) → length (S (frame_at M i j).function (frame_at M i j).index) < length (frame_at M i j).slots
      → ¬ (y ≡ x) → ¬ (y ≡ length (S (frame_at M i j).function (frame_at M i j).index)) → ¬ (x ≡ length (S (frame_at M i j).function (frame_at M i j).index))
      → flat S M (spot i j y) ≡ here v₀ t₀ ys → flat S M (spot i j x) ≡ here u₀ t₁ xs
      → FallsSc (S (frame_at M i j).function (frame_at M i j).index ++ ((t ∷ []) ∷ [])) (S (frame_at M i j).function index')
      → Sound St (put (put (put (flat S M) (spot i j y) (here v₁ t₀ ys)) (spot i j x) (here u₁ t₁ xs)) (spot i j (length (S (frame_at M i j).function (frame_at M i j).index))) (here v t [])) R
      → Sound St (flat S (advance M i j index' (set (set (set (frame_at M i j).slots y v₁) x u₁) (length (S (frame_at M i j).function (frame_at M i j).index)) v))) R
  unfolding vs sc frame
  sets y x v v₀ v₁ u₀ u₁ t₀ t₁ t ys xs room nyx ny nx ey ex h s =
      let room' : length sc < length (set (set vs y v₁) x u₁) = rw (length-set (set vs y v₁) x u₁, length-set vs y v₁) room in
      lift₃ St S M R i j (frame (set (set (set vs y v₁) x u₁) (length sc) v)) hi hj y x (length sc) (here v₁ t₀ ys) (here u₁ t₁ xs) (here v t [])
      (to_next (set (set (set vs y v₁) x u₁) (length sc) v) (sc ++ ((t ∷ []) ∷ [])) h y (here v₁ t₀ ys) (entry_bind_off (set (set vs y v₁) x u₁) sc v t y ny ∙ entry_val_off (set vs y v₁) sc x u₁ y nyx ∙ entry_val vs sc y v₀ v₁ t₀ ys ey))
      (to_next (set (set (set vs y v₁) x u₁) (length sc) v) (sc ++ ((t ∷ []) ∷ [])) h x (here u₁ t₁ xs) (entry_bind_off (set (set vs y v₁) x u₁) sc v t x nx ∙ entry_val (set vs y v₁) sc x u₀ u₁ t₁ xs (entry_val_off vs sc y v₁ x (λ e. nyx (sym e)) ∙ ex)))
      (to_next (set (set (set vs y v₁) x u₁) (length sc) v) (sc ++ ((t ∷ []) ∷ [])) h (length sc) (here v t []) (entry_bind (set (set vs y v₁) x u₁) sc v t room'))
      (λ k a b c. to_next (set (set (set vs y v₁) x u₁) (length sc) v) (sc ++ ((t ∷ []) ∷ [])) h k (entry_at vs sc k) (entry_bind_off (set (set vs y v₁) x u₁) sc v t k c ∙ entry_val_off (set vs y v₁) sc x u₁ k b ∙ entry_val_off vs sc y v₁ k a)) s

  -- a yes that gives y another type for its block: unlink, and x in fix and stable
  pub pushes : (y : ℕ) (v : Slot) (t₀ t : Claim) (ys : List Claim) → flat S M (spot i j y) ≡ here v t₀ ys
      → FallsSc (set (S (frame_at M i j).function (frame_at M i j).index) y (t ∷ get_or (S (frame_at M i j).function (frame_at M i j).index) y [])) (S (frame_at M i j).function index')
      → Sound St (put (flat S M) (spot i j y) (here v t (t₀ ∷ ys))) R → Sound St (flat S (advance M i j index' (frame_at M i j).slots)) R
  unfolding vs sc frame
  pushes y v t₀ t ys ey h s = lift₁ St S M R i j (frame vs) hi hj y (here v t (t₀ ∷ ys))
      (to_next vs (set sc y (t ∷ get_or sc y [])) h y (here v t (t₀ ∷ ys)) (entry_push vs sc y v t₀ t ys ey))
      (λ k n. to_next vs (set sc y (t ∷ get_or sc y [])) h k (entry_at vs sc k) (entry_push_off vs sc y (t ∷ get_or sc y []) k n)) s

  -- and one whose w gives its value: swap, and try (with x for y, and y for w)
  pub trades : (y w : ℕ) (v v₀ v₁ : Slot) (t₀ t t₁ : Claim) (ys ws : List Claim) → ¬ (w ≡ y) → flat S M (spot i j y) ≡ here v t₀ ys → flat S M (spot i j w) ≡ here v₀ t₁ ws
      → FallsSc (set (S (frame_at M i j).function (frame_at M i j).index) y (t ∷ get_or (S (frame_at M i j).function (frame_at M i j).index) y [])) (S (frame_at M i j).function index')
      → Sound St (put (put (flat S M) (spot i j y) (here v t (t₀ ∷ ys))) (spot i j w) (here v₁ t₁ ws)) R → Sound St (flat S (advance M i j index' (set (frame_at M i j).slots w v₁))) R
  unfolding vs sc frame
  trades y w v v₀ v₁ t₀ t t₁ ys ws n ey ew h s = lift₂ St S M R i j (frame (set vs w v₁)) hi hj y w (here v t (t₀ ∷ ys)) (here v₁ t₁ ws)
      (to_next (set vs w v₁) (set sc y (t ∷ get_or sc y [])) h y (here v t (t₀ ∷ ys)) (entry_val_off vs (set sc y (t ∷ get_or sc y [])) w v₁ y (λ e. n (sym e)) ∙ entry_push vs sc y v t₀ t ys ey))
      (to_next (set vs w v₁) (set sc y (t ∷ get_or sc y [])) h w (here v₁ t₁ ws) (entry_val vs (set sc y (t ∷ get_or sc y [])) w v₀ v₁ t₁ ws (entry_push_off vs sc y (t ∷ get_or sc y []) w n ∙ ew)))
      (λ k a b. to_next (set vs w v₁) (set sc y (t ∷ get_or sc y [])) h k (entry_at vs sc k) (entry_val_off vs (set sc y (t ∷ get_or sc y [])) w v₁ k b ∙ entry_push_off vs sc y (t ∷ get_or sc y []) k a)) s

  -- a yes that only takes y's value: link
  pub spends : (y : ℕ) (v₀ v₁ : Slot) (t : Claim) (ys : List Claim) → flat S M (spot i j y) ≡ here v₀ t ys
      → FallsSc (S (frame_at M i j).function (frame_at M i j).index) (S (frame_at M i j).function index')
      → Sound St (put (flat S M) (spot i j y) (here v₁ t ys)) R → Sound St (flat S (advance M i j index' (set (frame_at M i j).slots y v₁))) R
  unfolding vs sc frame
  spends y v₀ v₁ t ys ey h s = lift₁ St S M R i j (frame (set vs y v₁)) hi hj y (here v₁ t ys)
      (to_next (set vs y v₁) sc h y (here v₁ t ys) (entry_val vs sc y v₀ v₁ t ys ey))
      (λ k n. to_next (set vs y v₁) sc h k (entry_at vs sc k) (entry_val_off vs sc y v₁ k n)) s
