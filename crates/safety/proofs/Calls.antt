-- Calls, forks, returns and again, on threads of frames.
use Rattle.std.proofs.Common.{◌≡◌, ℕ, zero, suc, ◌+◌, ◌<◌, ◌≤◌, ◌⊎◌, List, [], ◌∷◌, ◌++◌, length, get_or, set, sym, refl, ap, ◌∙◌, subst, ap₂, inl, inr, zero-add, arith}
use native.Mathlib.Decide.{ℕ_discrete}
use Rattle.machine.specs.declared.threads.Slot.{Slot}
use Rattle.machine.specs.declared.threads.Slot.TheVariants.{Empty}
use Rattle.machine.specs.declared.threads.Frame.{Frame}
use Rattle.safety.specs.Model.{Claim, Structs, Spot, spot, Slots, Entry, out, here, put}
use Rattle.safety.specs.Step.{Mem, Sound, Falls, ends, stays}
use Rattle.safety.specs.Frames.{Arg, kept, leave, arrive, passed, passed_all, Ready, Later, AllReady}
use Rattle.safety.specs.Threads.{Scopes, entry_at, frame_at, flat, FallsSc}
use Rattle.safety.specs.Calls.{args_to, spend_vals, given_vals, param_scope, IsFrame}
use Rattle.safety.proofs.Update.{put_at, put_off}
use Rattle.safety.proofs.Frames.{pass, pass_all, later_ready, rename}
use Rattle.safety.proofs.Threads.{entry_bind, entry_bind_off, entry_val, entry_val_off}
use Rattle.safety.proofs.Lift.{entry_falls, sound_falls}

pub entry_nil : (vs : List Slot) (k : ℕ) → entry_at vs [] k ≡ out
entry_nil [] k = refl
entry_nil (v ∷ vs) k = refl

pub entry_get : (vs : List Slot) (sc : List (List Claim)) (x : ℕ) (v : Slot) (t : Claim) (ts : List Claim) → entry_at vs sc x ≡ here v t ts → get_or vs x Empty ≡ v
entry_get [] sc x v t ts e = let z : ◌≡◌ {A = ℕ} 0 1 = cc in let y : ⊥ = omega arith in absurd y
entry_get (w ∷ vs) [] x v t ts e = let z : ◌≡◌ {A = ℕ} 0 1 = cc in let y : ⊥ = omega arith in absurd y
entry_get (w ∷ vs) ([] ∷ sc) zero v t ts e = let z : ◌≡◌ {A = ℕ} 0 1 = cc in let y : ⊥ = omega arith in absurd y
entry_get (w ∷ vs) ((u ∷ us) ∷ sc) zero v t ts e = cc
entry_get (w ∷ vs) (us ∷ sc) (suc x) v t ts e = entry_get vs sc x v t ts e

pub frame? : (a b i j : ℕ) → Dec (IsFrame a b i j)
frame? a b i j = go (ℕ_discrete a i) (ℕ_discrete b j)
  where
    go : Dec (a ≡ i) → Dec (b ≡ j) → Dec (IsFrame a b i j)
    go (yes e) (yes f) = yes (e, f)
    go (yes e) (no n) = no (λ h. n h.1)
    go (no n) d = no (λ h. n h.0)

pub slot_frame : {a b k i j l : ℕ} → spot a b k ≡ spot i j l → IsFrame a b i j × (k ≡ l)
slot_frame e = ((cc, cc), cc)

module _ (i j i' j' : ℕ) (apart : ¬ (IsFrame i j i' j')) where
  -- the slots that the arguments come from
  pass_source : (σ : Slots) (vs : List Slot) (sc : List (List Claim)) (k : ℕ) (l : List (ℕ × Claim)) → ((x : ℕ) → σ (spot i j x) ≡ entry_at vs sc x) → AllReady σ (args_to i j i' j' k l)
      → (x : ℕ) → passed_all σ (args_to i j i' j' k l) (spot i j x) ≡ entry_at (spend_vals vs l) sc x
  pass_source σ vs sc k [] h r x = h x
  pass_source σ vs sc k (a ∷ l) h r x =
      pass_source (passed σ A) (set vs a.0 (kept a.1 (get_or vs a.0 Empty))) sc (suc k) l (λ y. step y (ℕ_discrete y a.0)) (later_ready σ A (args_to i j i' j' (suc k) l) r.1 r.2) x
    where
      A : Arg
      A = record { source = spot i j a.0; target = spot i' j' k; type = a.1 }

      e₁ : Entry
      e₁ = leave a.1 (σ (spot i j a.0))

      e₂ : Entry
      e₂ = arrive a.1 (σ (spot i j a.0))

      at_a : entry_at vs sc a.0 ≡ here r.0.value r.0.typed r.0.saved
      at_a = sym (h a.0) ∙ r.0.is

      got : get_or vs a.0 Empty ≡ r.0.value
      got = entry_get vs sc a.0 r.0.value r.0.typed r.0.saved at_a

      off : (y : ℕ) → passed σ A (spot i j y) ≡ put σ (spot i j a.0) e₁ (spot i j y)
      off y = put_off (put σ (spot i j a.0) e₁) (spot i' j' k) e₂ (spot i j y) (λ e. apart (slot_frame e).0)

      step : (y : ℕ) → Dec (y ≡ a.0) → passed σ A (spot i j y) ≡ entry_at (set vs a.0 (kept a.1 (get_or vs a.0 Empty))) sc y
      step y (no n) = off y ∙ put_off σ (spot i j a.0) e₁ (spot i j y) (λ e. n (slot_frame e).1) ∙ h y ∙ sym (entry_val_off vs sc a.0 (kept a.1 (get_or vs a.0 Empty)) y n)
      step y (yes e) = subst (λ (y : ℕ). passed σ A (spot i j y) ≡ entry_at (set vs a.0 (kept a.1 (get_or vs a.0 Empty))) sc y) (sym e)
          (off a.0 ∙ put_at σ (spot i j a.0) e₁ ∙ ap (leave a.1) r.0.is ∙ ap (λ (w : Slot). here (kept a.1 w) r.0.typed r.0.saved) (sym got)
          ∙ sym (entry_val vs sc a.0 r.0.value (kept a.1 (get_or vs a.0 Empty)) r.0.typed r.0.saved at_a))

  -- slots of no frame of the two, and parameters that are there already
  pass_off : (σ : Slots) (k : ℕ) (l : List (ℕ × Claim)) (s : Spot) → ((x : ℕ) → ¬ (s ≡ spot i j x)) → ((m : ℕ) → k ≤ m → ¬ (s ≡ spot i' j' m)) → passed_all σ (args_to i j i' j' k l) s ≡ σ s
  pass_off σ k [] s n m = refl
  pass_off σ k (a ∷ l) s n m =
      pass_off (passed σ (record { source = spot i j a.0; target = spot i' j' k; type = a.1 })) (suc k) l s n (λ x h. m x (omega arith))
      ∙ put_off (put σ (spot i j a.0) (leave a.1 (σ (spot i j a.0)))) (spot i' j' k) (arrive a.1 (σ (spot i j a.0))) s (m k (omega arith))
      ∙ put_off σ (spot i j a.0) (leave a.1 (σ (spot i j a.0))) s (n a.0)

  -- the sources still hold what the frame's values say
  abbrev Reads : Slots → List Slot → List (ℕ × Claim) → Type 0
  Reads σ vs [] = Unit {0}
  Reads σ vs (a ∷ l) = ((e : Entry) → σ (spot i j a.0) ≡ e → arrive a.1 e ≡ here (get_or vs a.0 Empty) a.1 []) × Reads σ vs l

  reads_later : (σ : Slots) (vs : List Slot) (k m : ℕ) (a : ℕ × Claim) (l : List (ℕ × Claim)) → Later (record { source = spot i j a.0; target = spot i' j' k; type = a.1 }) (args_to i j i' j' m l) → Reads σ vs l
      → Reads (passed σ (record { source = spot i j a.0; target = spot i' j' k; type = a.1 })) vs l
  reads_later σ vs k m a [] h r = tt
  reads_later σ vs k m a (b ∷ l) h r = (λ e q. r.0 e (sym same ∙ q), reads_later σ vs k (suc m) a l h.2 r.1)
    where
      same : passed σ (record { source = spot i j a.0; target = spot i' j' k; type = a.1 }) (spot i j b.0) ≡ σ (spot i j b.0)
      same = put_off (put σ (spot i j a.0) (leave a.1 (σ (spot i j a.0)))) (spot i' j' k) (arrive a.1 (σ (spot i j a.0))) (spot i j b.0) h.1
          ∙ put_off σ (spot i j a.0) (leave a.1 (σ (spot i j a.0))) (spot i j b.0) h.0

  -- the parameters
  pass_target : (σ : Slots) (vs rest : List Slot) (k : ℕ) (l : List (ℕ × Claim)) → Reads σ vs l → AllReady σ (args_to i j i' j' k l) → ((m : ℕ) → σ (spot i' j' m) ≡ out ⊎ (m < k))
      → (m : ℕ) → passed_all σ (args_to i j i' j' k l) (spot i' j' (k + m)) ≡ entry_at (given_vals vs l rest) (param_scope l) m
  pass_target σ vs rest k [] q r o m = (elim (o (k + m)) [ inl e ↦ e | inr h ↦ (let z : ⊥ = omega arith in absurd z) ]) ∙ sym (entry_nil rest m)
  pass_target σ vs rest k (a ∷ l) q r o zero =
      pass_off (passed σ A) (suc k) l (spot i' j' (k + 0)) (λ x e. apart (sym (slot_frame e).0.0, sym (slot_frame e).0.1)) (λ m h e. let i = (slot_frame e).1 in omega arith)
      ∙ ap (λ (n : ℕ). passed σ A (spot i' j' n)) (let e : k + 0 ≡ k = omega arith in e)
      ∙ put_at (put σ (spot i j a.0) (leave a.1 (σ (spot i j a.0)))) (spot i' j' k) (arrive a.1 (σ (spot i j a.0)))
      ∙ q.0 (σ (spot i j a.0)) refl
    where
      A : Arg
      A = record { source = spot i j a.0; target = spot i' j' k; type = a.1 }
  pass_target σ vs rest k (a ∷ l) q r o (suc m) =
      ap (λ (n : ℕ). passed_all (passed σ A) (args_to i j i' j' (suc k) l) (spot i' j' n)) (let e : k + suc m ≡ suc k + m = omega arith in e)
      ∙ pass_target (passed σ A) vs rest (suc k) l (reads_later σ vs k (suc k) a l r.1 q.1) (later_ready σ A (args_to i j i' j' (suc k) l) r.1 r.2) o' m
    where
      A : Arg
      A = record { source = spot i j a.0; target = spot i' j' k; type = a.1 }

      o' : (n : ℕ) → passed σ A (spot i' j' n) ≡ out ⊎ (n < suc k)
      o' n = go (ℕ_discrete n k) (o n)
        where
          go : Dec (n ≡ k) → σ (spot i' j' n) ≡ out ⊎ (n < k) → passed σ A (spot i' j' n) ≡ out ⊎ (n < suc k)
          go (yes e) d = inr (omega arith)
          go (no x) (inr h) = inr (omega arith)
          go (no x) (inl e) = inl (put_off (put σ (spot i j a.0) (leave a.1 (σ (spot i j a.0)))) (spot i' j' k) (arrive a.1 (σ (spot i j a.0))) (spot i' j' n) (λ h. x (slot_frame h).1)
              ∙ put_off σ (spot i j a.0) (leave a.1 (σ (spot i j a.0))) (spot i' j' n) (λ h. apart (sym (slot_frame h).0.0, sym (slot_frame h).0.1)) ∙ e)

  all_reads : (σ : Slots) (vs : List Slot) (sc : List (List Claim)) (k : ℕ) (l : List (ℕ × Claim)) → ((x : ℕ) → σ (spot i j x) ≡ entry_at vs sc x) → AllReady σ (args_to i j i' j' k l) → Reads σ vs l
  all_reads σ vs sc k [] h r = tt
  all_reads σ vs sc k (a ∷ l) h r = (λ e q. ap (arrive a.1) (sym q ∙ r.0.is) ∙ ap (λ (w : Slot). here w a.1 []) (sym (entry_get vs sc a.0 r.0.value r.0.typed r.0.saved (sym (h a.0) ∙ r.0.is))), all_reads σ vs sc (suc k) l h r.2)

module _ (St : Structs) (S : Scopes) (M M' : List (List Frame)) (R : Mem) where
  pub at_frame : (a b k : ℕ) (F : Frame) → frame_at M' a b ≡ F → flat S M' (spot a b k) ≡ entry_at F.slots (S F.function F.index) k
  at_frame a b k F e = ap (λ (G : Frame). entry_at G.slots (S G.function G.index) k) e

  pub gone_frame : (N : List (List Frame)) (a b k : ℕ) → (frame_at N a b).slots ≡ [] → flat S N (spot a b k) ≡ out
  gone_frame N a b k e = ap (λ (v : List Slot). entry_at v (S (frame_at N a b).function (frame_at N a b).index) k) e

  -- a call, with (i', j') the next frame of the thread, or a fork, with the first frame of a new one
  pub call_threads : (i j i' j' n index' : ℕ) (l : List (ℕ × Claim)) (rest : List Slot) → ¬ (IsFrame i j i' j') → (frame_at M i' j').slots ≡ []
      → frame_at M' i j ≡ record { function = (frame_at M i j).function; index = index'; slots = spend_vals (frame_at M i j).slots l } → FallsSc (S (frame_at M i j).function (frame_at M i j).index) (S (frame_at M i j).function index')
      → frame_at M' i' j' ≡ record { function = n; index = 0; slots = given_vals (frame_at M i j).slots l rest } → S n 0 ≡ param_scope l
      → ((a b : ℕ) → ¬ (IsFrame a b i j) → ¬ (IsFrame a b i' j') → frame_at M' a b ≡ frame_at M a b)
      → AllReady (flat S M) (args_to i j i' j' 0 l) → Sound St (flat S M) R → Sound St (flat S M') R
  call_threads i j i' j' n index' l rest apart clear here' falls there params others ready (H, inv, e) =
      sound_falls St σ₁ (flat S M') R falls' (H, pass_all St (flat S M) H (args_to i j i' j' 0 l) inv ready, e)
    where
      vs : List Slot
      vs = (frame_at M i j).slots

      sc : List (List Claim)
      sc = S (frame_at M i j).function (frame_at M i j).index

      σ₁ : Slots
      σ₁ = passed_all (flat S M) (args_to i j i' j' 0 l)

      falls' : (s : Spot) → Falls (σ₁ s) (flat S M' s)
      falls' (spot a b k) = go (frame? a b i j) (frame? a b i' j')
        where
          src : Falls (σ₁ (spot i j k)) (flat S M' (spot i j k))
          src = subst (λ (y : Entry). Falls y (flat S M' (spot i j k))) (sym (pass_source i j i' j' apart (flat S M) vs sc 0 l (λ x. refl) ready k))
              (subst (λ (y : Entry). Falls (entry_at (spend_vals vs l) sc k) y) (sym (at_frame i j k (record { function = (frame_at M i j).function; index = index'; slots = spend_vals vs l }) here'))
              (entry_falls (spend_vals vs l) sc (S (frame_at M i j).function index') falls k))

          tgt : Falls (σ₁ (spot i' j' k)) (flat S M' (spot i' j' k))
          tgt = stays (ap (λ (m : ℕ). σ₁ (spot i' j' m)) (sym (zero-add k))
              ∙ pass_target i j i' j' apart (flat S M) vs rest 0 l (all_reads i j i' j' apart (flat S M) vs sc 0 l (λ x. refl) ready) ready (λ m. inl (gone_frame M i' j' m clear)) k
              ∙ ap (λ (q : List (List Claim)). entry_at (given_vals vs l rest) q k) (sym params)
              ∙ sym (at_frame i' j' k (record { function = n; index = 0; slots = given_vals vs l rest }) there))

          go : Dec (IsFrame a b i j) → Dec (IsFrame a b i' j') → Falls (σ₁ (spot a b k)) (flat S M' (spot a b k))
          go (yes q) d = subst (λ (s : Spot). Falls (σ₁ s) (flat S M' s)) (ap₂ (λ (x y : ℕ). spot x y k) (sym q.0) (sym q.1)) src
          go (no m) (yes q) = subst (λ (s : Spot). Falls (σ₁ s) (flat S M' s)) (ap₂ (λ (x y : ℕ). spot x y k) (sym q.0) (sym q.1)) tgt
          go (no m) (no o) = stays (pass_off i j i' j' apart (flat S M) 0 l (spot a b k) (λ x q. m (slot_frame q).0) (λ x h q. o (slot_frame q).0) ∙ sym (at_frame a b k (frame_at M a b) (others a b m o)))

  -- a return from (i', j') to (i, j), which waits at a call and binds the result
  pub return_threads : (i j i' j' x index' : ℕ) (t : Claim) → ¬ (IsFrame i j i' j')
      → length (S (frame_at M i j).function (frame_at M i j).index) < length (frame_at M i j).slots
      → frame_at M' i j ≡ record { function = (frame_at M i j).function; index = index'; slots = set (frame_at M i j).slots (length (S (frame_at M i j).function (frame_at M i j).index)) (get_or (frame_at M i' j').slots x Empty) }
      → FallsSc (S (frame_at M i j).function (frame_at M i j).index ++ ((t ∷ []) ∷ [])) (S (frame_at M i j).function index')
      → (frame_at M' i' j').slots ≡ []
      → ((a b : ℕ) → ¬ (IsFrame a b i j) → ¬ (IsFrame a b i' j') → frame_at M' a b ≡ frame_at M a b)
      → Ready (flat S M) (record { source = spot i' j' x; target = spot i j (length (S (frame_at M i j).function (frame_at M i j).index)); type = t }) → Sound St (flat S M) R → Sound St (flat S M') R
  return_threads i j i' j' x index' t apart room here' falls ended others ready (H, inv, e) =
      sound_falls St σ₁ (flat S M') R falls' (H, pass St (flat S M) H A inv ready, e)
    where
      vs : List Slot
      vs = (frame_at M i j).slots

      sc : List (List Claim)
      sc = S (frame_at M i j).function (frame_at M i j).index

      z : ℕ
      z = length sc

      v : Slot
      v = get_or (frame_at M i' j').slots x Empty

      A : Arg
      A = record { source = spot i' j' x; target = spot i j z; type = t }

      σ₁ : Slots
      σ₁ = passed (flat S M) A

      e₁ : Entry
      e₁ = leave t (flat S M (spot i' j' x))

      e₂ : Entry
      e₂ = arrive t (flat S M (spot i' j' x))

      got : e₂ ≡ here v t []
      got = ap (arrive t) ready.is ∙ ap (λ (w : Slot). here w t []) (sym (entry_get (frame_at M i' j').slots (S (frame_at M i' j').function (frame_at M i' j').index) x ready.value ready.typed ready.saved ready.is))

      falls' : (s : Spot) → Falls (σ₁ s) (flat S M' s)
      falls' (spot a b k) = go (frame? a b i j) (frame? a b i' j')
        where
          bound : (y : Entry) → entry_at (set vs z v) (sc ++ ((t ∷ []) ∷ [])) k ≡ y → Falls y (flat S M' (spot i j k))
          bound y q = subst (λ (y : Entry). Falls y (flat S M' (spot i j k))) q
              (subst (λ (w : Entry). Falls (entry_at (set vs z v) (sc ++ ((t ∷ []) ∷ [])) k) w) (sym (at_frame i j k (record { function = (frame_at M i j).function; index = index'; slots = set vs z v }) here'))
              (entry_falls (set vs z v) (sc ++ ((t ∷ []) ∷ [])) (S (frame_at M i j).function index') falls k))

          src : Dec (k ≡ z) → Falls (σ₁ (spot i j k)) (flat S M' (spot i j k))
          src (yes q) = bound (σ₁ (spot i j k)) (ap (λ (m : ℕ). entry_at (set vs z v) (sc ++ ((t ∷ []) ∷ [])) m) q ∙ entry_bind vs sc v t room ∙ sym got ∙ sym (put_at (put (flat S M) (spot i' j' x) e₁) (spot i j z) e₂) ∙ ap (λ (m : ℕ). σ₁ (spot i j m)) (sym q))
          src (no n) = bound (σ₁ (spot i j k)) (entry_bind_off vs sc v t k n ∙ sym (put_off (put (flat S M) (spot i' j' x) e₁) (spot i j z) e₂ (spot i j k) (λ q. n (slot_frame q).1) ∙ put_off (flat S M) (spot i' j' x) e₁ (spot i j k) (λ q. apart (slot_frame q).0)))

          go : Dec (IsFrame a b i j) → Dec (IsFrame a b i' j') → Falls (σ₁ (spot a b k)) (flat S M' (spot a b k))
          go (yes q) d = subst (λ (s : Spot). Falls (σ₁ s) (flat S M' s)) (ap₂ (λ (x y : ℕ). spot x y k) (sym q.0) (sym q.1)) (src (ℕ_discrete k z))
          go (no m) (yes q) = subst (λ (y : Entry). Falls (σ₁ (spot a b k)) y) (sym (gone_frame M' a b k (ap₂ (λ (x y : ℕ). (frame_at M' x y).slots) q.0 q.1 ∙ ended))) ends
          go (no m) (no o) = stays (put_off (put (flat S M) (spot i' j' x) e₁) (spot i j z) e₂ (spot a b k) (λ q. m (slot_frame q).0) ∙ put_off (flat S M) (spot i' j' x) e₁ (spot a b k) (λ q. o (slot_frame q).0) ∙ sym (at_frame a b k (frame_at M a b) (others a b m o)))

  -- again: the frame (i, j) starts anew; (i', j') is any frame that is not there
  pub again_threads : (i j i' j' : ℕ) (l : List (ℕ × Claim)) (rest : List Slot) → ¬ (IsFrame i j i' j') → (frame_at M i' j').slots ≡ []
      → frame_at M' i j ≡ record { function = (frame_at M i j).function; index = 0; slots = given_vals (frame_at M i j).slots l rest } → S (frame_at M i j).function 0 ≡ param_scope l
      → ((a b : ℕ) → ¬ (IsFrame a b i j) → frame_at M' a b ≡ frame_at M a b)
      → AllReady (flat S M) (args_to i j i' j' 0 l) → Sound St (flat S M) R → Sound St (flat S M') R
  again_threads i j i' j' l rest apart clear here' params others ready (H, inv, e) =
      sound_falls St (λ s. σ₁ (ρ s)) (flat S M') R falls' (H, rename St σ₁ H ρ inj (pass_all St (flat S M) H (args_to i j i' j' 0 l) inv ready), e)
    where
      vs : List Slot
      vs = (frame_at M i j).slots

      sc : List (List Claim)
      sc = S (frame_at M i j).function (frame_at M i j).index

      σ₁ : Slots
      σ₁ = passed_all (flat S M) (args_to i j i' j' 0 l)

      -- the two frames change places
      turn : (a b k : ℕ) → Dec (IsFrame a b i j) → Dec (IsFrame a b i' j') → Spot
      turn a b k (yes q) d = spot i' j' k
      turn a b k (no m) (yes q) = spot i j k
      turn a b k (no m) (no o) = spot a b k

      ρ : Spot → Spot
      ρ (spot a b k) = turn a b k (frame? a b i j) (frame? a b i' j')

      same : {a b c d k l : ℕ} → a ≡ c → b ≡ d → k ≡ l → spot a b k ≡ spot c d l
      same p q r = cc

      turn_inj : (a b k c d l : ℕ) (p : Dec (IsFrame a b i j)) (q : Dec (IsFrame a b i' j')) (p' : Dec (IsFrame c d i j)) (q' : Dec (IsFrame c d i' j')) → turn a b k p q ≡ turn c d l p' q' → spot a b k ≡ spot c d l
      turn_inj a b k c d l (yes p) q (yes p') q' h = same (p.0 ∙ sym p'.0) (p.1 ∙ sym p'.1) (slot_frame h).1
      turn_inj a b k c d l (yes p) q (no m') (yes q') h = absurd (apart (sym (slot_frame h).0.0, sym (slot_frame h).0.1))
      turn_inj a b k c d l (yes p) q (no m') (no o') h = absurd (o' (sym (slot_frame h).0.0, sym (slot_frame h).0.1))
      turn_inj a b k c d l (no m) (yes q) (yes p') q' h = absurd (apart (slot_frame h).0)
      turn_inj a b k c d l (no m) (yes q) (no m') (yes q') h = same (q.0 ∙ sym q'.0) (q.1 ∙ sym q'.1) (slot_frame h).1
      turn_inj a b k c d l (no m) (yes q) (no m') (no o') h = absurd (m' (sym (slot_frame h).0.0, sym (slot_frame h).0.1))
      turn_inj a b k c d l (no m) (no o) (yes p') q' h = absurd (o (slot_frame h).0)
      turn_inj a b k c d l (no m) (no o) (no m') (yes q') h = absurd (m (slot_frame h).0)
      turn_inj a b k c d l (no m) (no o) (no m') (no o') h = h

      inj : (s t : Spot) → ρ s ≡ ρ t → s ≡ t
      inj (spot a b k) (spot c d l) h = turn_inj a b k c d l (frame? a b i j) (frame? a b i' j') (frame? c d i j) (frame? c d i' j') h

      falls' : (s : Spot) → Falls (σ₁ (ρ s)) (flat S M' s)
      falls' (spot a b k) = go (frame? a b i j) (frame? a b i' j')
        where
          go : (p : Dec (IsFrame a b i j)) (q : Dec (IsFrame a b i' j')) → Falls (σ₁ (turn a b k p q)) (flat S M' (spot a b k))
          go (yes p) q = stays (ap (λ (m : ℕ). σ₁ (spot i' j' m)) (sym (zero-add k))
              ∙ pass_target i j i' j' apart (flat S M) vs rest 0 l (all_reads i j i' j' apart (flat S M) vs sc 0 l (λ x. refl) ready) ready (λ m. inl (gone_frame M i' j' m clear)) k
              ∙ ap (λ (q : List (List Claim)). entry_at (given_vals vs l rest) q k) (sym params)
              ∙ sym (at_frame a b k (record { function = (frame_at M i j).function; index = 0; slots = given_vals vs l rest }) (ap₂ (λ (x y : ℕ). frame_at M' x y) p.0 p.1 ∙ here')))
          go (no m) (yes q) = subst (λ (y : Entry). Falls (σ₁ (spot i j k)) y) (sym (gone_frame M' a b k (ap (λ (F : Frame). F.slots) (others a b m) ∙ ap₂ (λ (x y : ℕ). (frame_at M x y).slots) q.0 q.1 ∙ clear))) ends
          go (no m) (no o) = stays (pass_off i j i' j' apart (flat S M) 0 l (spot a b k) (λ x q. m (slot_frame q).0) (λ x h q. o (slot_frame q).0) ∙ sym (at_frame a b k (frame_at M a b) (others a b m)))
