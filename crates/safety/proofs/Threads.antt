-- From threads of frames to the flat configuration: one frame's change is a change of a few slots.
use Rattle.std.proofs.Common.{◌≡◌, ℕ, zero, suc, ◌<◌, ◌≤◌, List, [], ◌∷◌, ◌++◌, length, get_or, set, sym, refl, ap, ◌∙◌, subst, arith}
use mathlib.Core.Path.{fun_ext}
use native.Mathlib.Decide.{ℕ_discrete}
use Rattle.std.proofs.lemmas.List.{get_or-set_same, get_or-set_other}
use Rattle.machine.specs.declared.threads.Slot.{Slot}
use Rattle.machine.specs.declared.threads.Frame.{Frame}
use Rattle.machine.specs.World.{no_frame}
use Rattle.safety.specs.Model.{Claim, Structs, Spot, spot, Slots, Entry, out, here, put, rank}
use Rattle.safety.specs.Step.{Mem, shared, Sound, do_share}
use Rattle.safety.specs.Threads.{Scopes, entry_at, frame_at, put_frame, flat}
use Rattle.safety.proofs.Scope.{put_ind}
use Rattle.safety.proofs.Keeps.{keeps}

-- slots that differ at one slot, or at two or three, differ by that many changes
pub put_of : (σ σ' : Slots) (x : Spot) (a : Entry) → σ' x ≡ a → ((s : Spot) → ¬ (s ≡ x) → σ' s ≡ σ s) → put σ x a ≡ σ'
put_of σ σ' x a ex k = fun_ext (put_ind (λ s e. e ≡ σ' s) σ x a (sym ex) (λ s n. sym (k s n)))

pub put_of₂ : (σ σ' : Slots) (x y : Spot) (a b : Entry) → ¬ (x ≡ y) → σ' x ≡ a → σ' y ≡ b → ((s : Spot) → ¬ (s ≡ x) → ¬ (s ≡ y) → σ' s ≡ σ s) → put (put σ x a) y b ≡ σ'
put_of₂ σ σ' x y a b n ex ey k = put_of (put σ x a) σ' y b ey (λ s m. put_ind (λ t e. ¬ (t ≡ y) → σ' t ≡ e) σ x a (λ _. ex) (λ t l i. k t l i) s m)

pub put_of₃ : (σ σ' : Slots) (x y z : Spot) (a b c : Entry) → ¬ (x ≡ y) → ¬ (x ≡ z) → ¬ (y ≡ z) → σ' x ≡ a → σ' y ≡ b → σ' z ≡ c → ((s : Spot) → ¬ (s ≡ x) → ¬ (s ≡ y) → ¬ (s ≡ z) → σ' s ≡ σ s)
    → put (put (put σ x a) y b) z c ≡ σ'
put_of₃ σ σ' x y z a b c nxy nxz nyz ex ey ez k = put_of (put (put σ x a) y b) σ' z c ez
    (λ s m. put_ind (λ t e. ¬ (t ≡ z) → σ' t ≡ e) (put σ x a) y b (λ _. ey) (λ t l. put_ind (λ t e. ¬ (t ≡ y) → ¬ (t ≡ z) → σ' t ≡ e) σ x a (λ _ _. ex) (λ t i j h. k t i j h) t l) s m)

-- an entry of a frame, after one more binding, another value, another type
pub entry_bind : (vs : List Slot) (sc : List (List Claim)) (v : Slot) (t : Claim) → length sc < length vs → entry_at (set vs (length sc) v) (sc ++ ((t ∷ []) ∷ [])) (length sc) ≡ here v t []
entry_bind [] sc v t h = let z : ⊥ = omega arith in absurd z
entry_bind (x ∷ vs) [] v t h = refl
entry_bind (x ∷ vs) (ts ∷ sc) v t h = entry_bind vs sc v t (omega arith)

pub entry_bind_off : (vs : List Slot) (sc : List (List Claim)) (v : Slot) (t : Claim) (k : ℕ) → ¬ (k ≡ length sc) → entry_at (set vs (length sc) v) (sc ++ ((t ∷ []) ∷ [])) k ≡ entry_at vs sc k
entry_bind_off [] sc v t k n = refl
entry_bind_off (x ∷ vs) [] v t zero n = absurd (n refl)
entry_bind_off (x ∷ []) [] v t (suc k) n = refl
entry_bind_off (x ∷ (y ∷ vs)) [] v t (suc k) n = refl
entry_bind_off (x ∷ vs) (ts ∷ sc) v t zero n = refl
entry_bind_off (x ∷ vs) (ts ∷ sc) v t (suc k) n = entry_bind_off vs sc v t k (λ e. n (ap suc e))

pub entry_val : (vs : List Slot) (sc : List (List Claim)) (x : ℕ) (v v' : Slot) (t : Claim) (ts : List Claim) → entry_at vs sc x ≡ here v t ts → entry_at (set vs x v') sc x ≡ here v' t ts
entry_val [] sc x v v' t ts e = let z : ◌≡◌ {A = ℕ} 0 1 = cc in let y : ⊥ = omega arith in absurd y
entry_val (w ∷ vs) [] x v v' t ts e = let z : ◌≡◌ {A = ℕ} 0 1 = cc in let y : ⊥ = omega arith in absurd y
entry_val (w ∷ vs) ([] ∷ sc) zero v v' t ts e = let z : ◌≡◌ {A = ℕ} 0 1 = cc in let y : ⊥ = omega arith in absurd y
entry_val (w ∷ vs) ((u ∷ us) ∷ sc) zero v v' t ts e = let a : u ≡ t = cc in let b : us ≡ ts = cc in cc
entry_val (w ∷ vs) (us ∷ sc) (suc x) v v' t ts e = entry_val vs sc x v v' t ts e

pub entry_val_off : (vs : List Slot) (sc : List (List Claim)) (x : ℕ) (v : Slot) (k : ℕ) → ¬ (k ≡ x) → entry_at (set vs x v) sc k ≡ entry_at vs sc k
entry_val_off [] sc x v k n = refl
entry_val_off (w ∷ vs) [] zero v k n = refl
entry_val_off (w ∷ vs) [] (suc x) v k n = refl
entry_val_off (w ∷ vs) (us ∷ sc) zero v zero n = absurd (n refl)
entry_val_off (w ∷ vs) (us ∷ sc) zero v (suc k) n = refl
entry_val_off (w ∷ vs) (us ∷ sc) (suc x) v zero n = refl
entry_val_off (w ∷ vs) (us ∷ sc) (suc x) v (suc k) n = entry_val_off vs sc x v k (λ e. n (ap suc e))

pub entry_push : (vs : List Slot) (sc : List (List Claim)) (x : ℕ) (v : Slot) (t t' : Claim) (ts : List Claim) → entry_at vs sc x ≡ here v t ts → entry_at vs (set sc x (t' ∷ get_or sc x [])) x ≡ here v t' (t ∷ ts)
entry_push [] sc x v t t' ts e = let z : ◌≡◌ {A = ℕ} 0 1 = cc in let y : ⊥ = omega arith in absurd y
entry_push (w ∷ vs) [] x v t t' ts e = let z : ◌≡◌ {A = ℕ} 0 1 = cc in let y : ⊥ = omega arith in absurd y
entry_push (w ∷ vs) ([] ∷ sc) zero v t t' ts e = let z : ◌≡◌ {A = ℕ} 0 1 = cc in let y : ⊥ = omega arith in absurd y
entry_push (w ∷ vs) ((u ∷ us) ∷ sc) zero v t t' ts e = let a : w ≡ v = cc in let b : u ≡ t = cc in let c : us ≡ ts = cc in cc
entry_push (w ∷ vs) (us ∷ sc) (suc x) v t t' ts e = entry_push vs sc x v t t' ts e

pub entry_push_off : (vs : List Slot) (sc : List (List Claim)) (x : ℕ) (us : List Claim) (k : ℕ) → ¬ (k ≡ x) → entry_at vs (set sc x us) k ≡ entry_at vs sc k
entry_push_off [] sc x us k n = refl
entry_push_off (w ∷ vs) [] x us k n = refl
entry_push_off (w ∷ vs) (ts ∷ sc) zero us zero n = absurd (n refl)
entry_push_off (w ∷ vs) (ts ∷ sc) zero us (suc k) n = refl
entry_push_off (w ∷ vs) (ts ∷ sc) (suc x) us zero n = refl
entry_push_off (w ∷ vs) (ts ∷ sc) (suc x) us (suc k) n = entry_push_off vs sc x us k (λ e. n (ap suc e))

-- one frame changed
module _ (S : Scopes) (M : List (List Frame)) (i j : ℕ) (F : Frame) (hi : i < length M) (hj : j < length (get_or M i [])) where
  frame_same : frame_at (put_frame M i j F) i j ≡ F
  frame_same = ap (λ (l : List Frame). get_or l j no_frame) (get_or-set_same M i (set (get_or M i []) j F) [] hi) ∙ get_or-set_same (get_or M i []) j F no_frame hj

  frame_thread : (a b : ℕ) → ¬ (a ≡ i) → frame_at (put_frame M i j F) a b ≡ frame_at M a b
  frame_thread a b n = ap (λ (l : List Frame). get_or l b no_frame) (get_or-set_other M i a (set (get_or M i []) j F) [] n)

  frame_frame : (b : ℕ) → ¬ (b ≡ j) → frame_at (put_frame M i j F) i b ≡ frame_at M i b
  frame_frame b n = ap (λ (l : List Frame). get_or l b no_frame) (get_or-set_same M i (set (get_or M i []) j F) [] hi) ∙ get_or-set_other (get_or M i []) j b F no_frame n

  pub flat_same : (k : ℕ) → flat S (put_frame M i j F) (spot i j k) ≡ entry_at F.slots (S F.function F.index) k
  flat_same k = ap (λ (G : Frame). entry_at G.slots (S G.function G.index) k) frame_same

  -- all slots but those of the frame that differ
  pub flat_off : (P : Spot → Type 0) → ((k : ℕ) → P (spot i j k) → entry_at F.slots (S F.function F.index) k ≡ flat S M (spot i j k)) → (s : Spot) → P s → flat S (put_frame M i j F) s ≡ flat S M s
  flat_off P h (spot a b k) p = go (ℕ_discrete a i) (ℕ_discrete b j)
    where
      go : Dec (a ≡ i) → Dec (b ≡ j) → flat S (put_frame M i j F) (spot a b k) ≡ flat S M (spot a b k)
      go (no n) d = ap (λ (G : Frame). entry_at G.slots (S G.function G.index) k) (frame_thread a b n)
      go (yes e) (no n) = subst (λ (a : ℕ). flat S (put_frame M i j F) (spot a b k) ≡ flat S M (spot a b k)) (sym e) (ap (λ (G : Frame). entry_at G.slots (S G.function G.index) k) (frame_frame b n))
      go (yes e) (yes e') =
          let p' : P (spot i j k) = subst (λ (a : ℕ). P (spot a j k)) e (subst (λ (b : ℕ). P (spot a b k)) e' p) in
          subst (λ (a : ℕ). flat S (put_frame M i j F) (spot a b k) ≡ flat S M (spot a b k)) (sym e)
          (subst (λ (b : ℕ). flat S (put_frame M i j F) (spot i b k) ≡ flat S M (spot i b k)) (sym e') (flat_same k ∙ h k p'))

-- what a binding of a frame is in the flat configuration
pub flat_bind : (S : Scopes) (M : List (List Frame)) (i j index' : ℕ) (v : Slot) (t : Claim) → i < length M → j < length (get_or M i [])
    → length (S (frame_at M i j).function (frame_at M i j).index) < length (frame_at M i j).slots
    → S (frame_at M i j).function index' ≡ S (frame_at M i j).function (frame_at M i j).index ++ ((t ∷ []) ∷ [])
    → put (flat S M) (spot i j (length (S (frame_at M i j).function (frame_at M i j).index))) (here v t [])
    ≡ flat S (put_frame M i j (record { function = (frame_at M i j).function; index = index'; slots = set (frame_at M i j).slots (length (S (frame_at M i j).function (frame_at M i j).index)) v }))
flat_bind S M i j index' v t hi hj room next = put_of (flat S M) (flat S (put_frame M i j F)) (spot i j z) (here v t [])
    (flat_same S M i j F hi hj z ∙ ap (λ (q : List (List Claim)). entry_at (set vs z v) q z) next ∙ entry_bind vs sc v t room)
    (flat_off S M i j F hi hj (λ s. ¬ (s ≡ spot i j z)) (λ k n. ap (λ (q : List (List Claim)). entry_at (set vs z v) q k) next ∙ entry_bind_off vs sc v t k (λ e. n (ap (λ (a : ℕ). spot i j a) e))))
  where
    vs : List Slot
    vs = (frame_at M i j).slots

    sc : List (List Claim)
    sc = S (frame_at M i j).function (frame_at M i j).index

    z : ℕ
    z = length sc

    F : Frame
    F = record { function = (frame_at M i j).function; index = index'; slots = set vs z v }

-- an example: share, on threads of frames
pub share_threads : (St : Structs) (S : Scopes) (M : List (List Frame)) (R : Mem) (i j index' x : ℕ) (v : Slot) (t : Claim) (ts : List Claim) → i < length M → j < length (get_or M i [])
    → length (S (frame_at M i j).function (frame_at M i j).index) < length (frame_at M i j).slots
    → flat S M (spot i j x) ≡ here v t ts → rank t ≤ 1
    → S (frame_at M i j).function index' ≡ S (frame_at M i j).function (frame_at M i j).index ++ ((shared t ∷ []) ∷ [])
    → (spare : Spot) → flat S M spare ≡ out
    → Sound St (flat S M) R → Sound St (flat S (put_frame M i j (record { function = (frame_at M i j).function; index = index'; slots = set (frame_at M i j).slots (length (S (frame_at M i j).function (frame_at M i j).index)) v }))) R
share_threads St S M R i j index' x v t ts hi hj room ex r next spare es sound =
    subst (λ (a : Slots). Sound St a R) (flat_bind S M i j index' v (shared t) hi hj room next)
    (keeps St (flat S M) (put (flat S M) (spot i j (length (S (frame_at M i j).function (frame_at M i j).index))) (here v (shared t) [])) R R spare es
    (do_share (spot i j (length (S (frame_at M i j).function (frame_at M i j).index))) (spot i j x) v t ts ex r) sound)
