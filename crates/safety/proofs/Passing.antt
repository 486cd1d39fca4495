-- Arguments that go to parameters, and the frames of threads after a call, a fork and a return: lists alone.
use Rattle.std.proofs.Common.{◌≡◌, ℕ, zero, suc, ◌-◌, ◌<◌, ◌≤◌, true, List, [], ◌∷◌, ◌++◌, length, get_or, take, set, replicate, sym, refl, ap, ◌∙◌, inl, arith}
use native.Mathlib.Decide.{ℕ_discrete}
use Rattle.std.proofs.lemmas.List.{length-set, length-replicate, get_or-set_same, get_or-set_other, get_or_push, get_or_past}
use Rattle.std.proofs.lemmas.Bool.{eqb-false, and_parts, not-true}
use Rattle.table.specs.declared.types.Ty.{Ty}
use Rattle.rules.specs.Rules.{lacks}
use Rattle.machine.specs.declared.threads.Slot.{Slot}
use Rattle.machine.specs.declared.threads.Slot.TheVariants as V
use Rattle.machine.specs.declared.threads.Frame.{Frame}
use Rattle.machine.specs.World.{no_frame}
use Rattle.machine.specs.Values.{left, leaving, passing}
use Rattle.safety.specs.Model as C
use Rattle.safety.specs.Threads.{frame_at, Suffix, FallsSc}
use Rattle.safety.specs.Calls.{spend_vals, given_vals, param_scope, IsFrame}
use Rattle.safety.specs.Typed.{NotIn}
use Rattle.safety.specs.Checked.{core, stacks, entered}
use Rattle.safety.proofs.Images.{push_off}
use Rattle.safety.proofs.Meaning.{kept_core}

-- the arguments with the types of the parameters
abbrev pub pairs : List ℕ → List Ty → List (ℕ × C.Claim)
pairs xs [] = []
pairs [] (t ∷ ts) = []
pairs (x ∷ xs) (t ∷ ts) = (x, core t) ∷ pairs xs ts

abbrev pub rest_of : List ℕ → List Ty → ℕ → List Slot
rest_of xs [] n = replicate n V.Empty
rest_of [] (t ∷ ts) n = replicate n V.Empty
rest_of (x ∷ xs) (t ∷ ts) n = rest_of xs ts (n - 1)

pub leaving_is : (vs : List Slot) (xs : List ℕ) (ts : List Ty) → leaving vs xs ts ≡ spend_vals vs (pairs xs ts)
leaving_is vs xs [] = refl
leaving_is vs [] (t ∷ ts) = refl
leaving_is vs (x ∷ xs) (t ∷ ts) =
    leaving_is (set vs x (left t (get_or vs x V.Empty))) xs ts ∙ ap (λ (v : Slot). spend_vals (set vs x v) (pairs xs ts)) (kept_core t (get_or vs x V.Empty))

pub leaving_length : (vs : List Slot) (xs : List ℕ) (ts : List Ty) → length (leaving vs xs ts) ≡ length vs
leaving_length vs xs [] = refl
leaving_length vs [] (t ∷ ts) = refl
leaving_length vs (x ∷ xs) (t ∷ ts) = leaving_length (set vs x (left t (get_or vs x V.Empty))) xs ts ∙ length-set vs x (left t (get_or vs x V.Empty))

pub passing_is : (vs : List Slot) (xs : List ℕ) (ts : List Ty) (n : ℕ) → passing vs xs ts n ≡ given_vals vs (pairs xs ts) (rest_of xs ts n)
passing_is vs xs [] n = refl
passing_is vs [] (t ∷ ts) n = refl
passing_is vs (x ∷ xs) (t ∷ ts) n = ap (λ (l : List Slot). get_or vs x V.Empty ∷ l) (passing_is vs xs ts (n - 1))

pub passing_length : (vs : List Slot) (xs : List ℕ) (ts : List Ty) (n : ℕ) → length ts ≤ n → length (passing vs xs ts n) ≡ n
passing_length vs xs [] n h = length-replicate n V.Empty
passing_length vs [] (t ∷ ts) n h = length-replicate n V.Empty
passing_length vs (x ∷ xs) (t ∷ ts) n h = let e = passing_length vs xs ts (n - 1) (omega arith) in omega arith

pub param_scope_is : (xs : List ℕ) (ts : List Ty) → length ts ≤ length xs → stacks (entered ts) ≡ param_scope (pairs xs ts)
param_scope_is xs [] h = refl
param_scope_is [] (t ∷ ts) h = absurd (omega arith)
param_scope_is (x ∷ xs) (t ∷ ts) h = ap (λ (l : List (List C.Claim)). (core t ∷ []) ∷ l) (param_scope_is xs ts (omega arith))

pub entered_length : (ts : List Ty) → length (entered ts) ≡ length ts
entered_length [] = refl
entered_length (t ∷ ts) = ap suc (entered_length ts)

pub lacks_not : (x : ℕ) (xs : List ℕ) (ts : List Ty) → lacks x (take (length ts) xs) ≡ true → NotIn x (pairs xs ts)
lacks_not x xs [] h = tt
lacks_not x [] (t ∷ ts) h = tt
lacks_not x (y ∷ xs) (t ∷ ts) h = let a = and_parts _ _ h in ((λ e. eqb-false x y (not-true _ a.0) (sym e)), lacks_not x xs ts a.1)

suffix_refl : (ts : List C.Claim) → Suffix ts ts
suffix_refl [] = refl
suffix_refl (t ∷ ts) = inl refl

pub falls_refl : (sc : List (List C.Claim)) → FallsSc sc sc
falls_refl [] = tt
falls_refl (ts ∷ sc) = (suffix_refl ts, falls_refl sc)

-- one thread's frames changed
module _ (Ms : List (List Frame)) (i : ℕ) (gs : List Frame) (hi : i < length Ms) where
  pub at_set : (b : ℕ) → frame_at (set Ms i gs) i b ≡ get_or gs b no_frame
  at_set b = ap (λ (l : List Frame). get_or l b no_frame) (get_or-set_same Ms i gs [] hi)

  pub off_set : (a b : ℕ) → ¬ (a ≡ i) → frame_at (set Ms i gs) a b ≡ frame_at Ms a b
  off_set a b n = ap (λ (l : List Frame). get_or l b no_frame) (get_or-set_other Ms i a gs [] n)

  -- and all frames of it but some
  pub others_set : (P : ℕ → Type 0) → ((b : ℕ) → P b → get_or gs b no_frame ≡ frame_at Ms i b) → (a b : ℕ) → (a ≡ i → P b) → frame_at (set Ms i gs) a b ≡ frame_at Ms a b
  others_set P h a b k = go (ℕ_discrete a i)
    where
      go : Dec (a ≡ i) → frame_at (set Ms i gs) a b ≡ frame_at Ms a b
      go (no n) = off_set a b n
      go (yes e) = ap (λ (c : ℕ). frame_at (set Ms i gs) c b) e ∙ at_set b ∙ h b (k e) ∙ ap (λ (c : ℕ). frame_at Ms c b) (sym e)

  -- and a new thread behind
  module _ (G : Frame) where
    pub at_fork : (b : ℕ) → frame_at (set Ms i gs ++ ((G ∷ []) ∷ [])) i b ≡ get_or gs b no_frame
    at_fork b = ap (λ (l : List Frame). get_or l b no_frame) (push_off (set Ms i gs) (G ∷ []) [] i (λ e. let k = length-set Ms i gs in omega arith)) ∙ at_set b

    pub at_forked : frame_at (set Ms i gs ++ ((G ∷ []) ∷ [])) (length Ms) 0 ≡ G
    at_forked = ap (λ (l : List Frame). get_or l 0 no_frame) (get_or_push (set Ms i gs) (G ∷ []) [] (length Ms) (length-set Ms i gs))

    pub others_fork : (P : ℕ → Type 0) → ((b : ℕ) → P b → get_or gs b no_frame ≡ frame_at Ms i b) → (a b : ℕ) → (a ≡ i → P b) → ¬ (IsFrame a b (length Ms) 0) → frame_at (set Ms i gs ++ ((G ∷ []) ∷ [])) a b ≡ frame_at Ms a b
    others_fork P h a b k n = go (ℕ_discrete a (length Ms)) b n k
      where
        go : Dec (a ≡ length Ms) → (b : ℕ) → ¬ (IsFrame a b (length Ms) 0) → (a ≡ i → P b) → frame_at (set Ms i gs ++ ((G ∷ []) ∷ [])) a b ≡ frame_at Ms a b
        go (no d) b n k = ap (λ (l : List Frame). get_or l b no_frame) (push_off (set Ms i gs) (G ∷ []) [] a (λ e. d (e ∙ length-set Ms i gs))) ∙ others_set P h a b k
        go (yes e) zero n k = absurd (n (e, refl))
        go (yes e) (suc b) n k =
            ap (λ (c : ℕ). frame_at (set Ms i gs ++ ((G ∷ []) ∷ [])) c (suc b)) e ∙ ap (λ (l : List Frame). get_or l (suc b) no_frame) (get_or_push (set Ms i gs) (G ∷ []) [] (length Ms) (length-set Ms i gs))
            ∙ ap (λ (l : List Frame). get_or l (suc b) no_frame) (sym (get_or_past Ms (length Ms) [] (omega arith))) ∙ ap (λ (c : ℕ). frame_at Ms c (suc b)) (sym e)
