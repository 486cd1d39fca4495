-- The frames of a thread: each stands before a record of the table, and each but the newest waits at a call of the next.
use Rattle.std.proofs.Common.{◌≡◌, ℕ, zero, suc, ◌<◌, true, List, [], ◌∷◌, ◌++◌, length, get_or, take, set, Some, sym, subst, arith}
use Rattle.std.proofs.lemmas.Bool.{lt-ltb, and_from, cond-true}
use Rattle.table.specs.Program.{Program}
use Rattle.table.specs.Records.{Call}
use Rattle.rules.specs.Rules.{callee, record_at}
use Rattle.machine.specs.declared.threads.Frame.{Frame}
use Rattle.machine.specs.World.{no_frame, in_table, op_at}

-- a property of every entry of a list, also past its end
pub set_all : {X : Type 0} (P : X → Type 0) (xs : List X) (i : ℕ) (x d : X) → P x → ((a : ℕ) → P (get_or xs a d)) → (a : ℕ) → P (get_or (set xs i x) a d)
set_all P [] i x d h k a = k a
set_all P (y ∷ ys) zero x d h k zero = h
set_all P (y ∷ ys) zero x d h k (suc a) = k (suc a)
set_all P (y ∷ ys) (suc i) x d h k zero = k zero
set_all P (y ∷ ys) (suc i) x d h k (suc a) = set_all P ys i x d h (λ b. k (suc b)) a

pub push_all : {X : Type 0} (P : X → Type 0) (xs : List X) (x d : X) → P x → ((a : ℕ) → P (get_or xs a d)) → (a : ℕ) → P (get_or (xs ++ (x ∷ [])) a d)
push_all P [] x d h k zero = h
push_all P [] x d h k (suc a) = k (suc a)
push_all P (y ∷ ys) x d h k zero = k zero
push_all P (y ∷ ys) x d h k (suc a) = push_all P ys x d h (λ b. k (suc b)) a

module _ (p : Program) where
  pub record Placed (F : Frame) : Type 0 where
    pub there : F.function < length p.functions
    pub index : F.index < length (callee p F.function).records
    pub slots : length F.slots ≡ 16

  pub record Waits (F : Frame) (n : ℕ) : Type 0 where
    pub slot : ℕ
    pub args : List ℕ
    pub is : op_at p F ≡ Some (Call slot n args)

  pub placed_in : (F : Frame) → Placed F → in_table p F ≡ true
  placed_in F h = and_from _ _ (lt-ltb _ _ h.there) (lt-ltb _ _ h.index)

  pub op_there : (F : Frame) → Placed F → op_at p F ≡ record_at (callee p F.function) F.index
  op_there F h = cond-true _ _ _ (placed_in F h)

  abbrev pub Chain : List Frame → Type 0
  Chain [] = Unit {0}
  Chain (F ∷ []) = Placed F
  Chain (F ∷ (G ∷ Gs)) = Placed F × Waits F G.function × Chain (G ∷ Gs)

  pub chain_at : (fs : List Frame) → Chain fs → (j : ℕ) → j < length fs → Placed (get_or fs j no_frame)
  chain_at [] c j h = absurd (omega arith)
  chain_at (F ∷ []) c zero h = c
  chain_at (F ∷ []) c (suc j) h = absurd (omega arith)
  chain_at (F ∷ (G ∷ Gs)) c zero h = c.0
  chain_at (F ∷ (G ∷ Gs)) c (suc j) h = chain_at (G ∷ Gs) c.2 j (omega arith)

  pub chain_waits : (fs : List Frame) → Chain fs → (j : ℕ) → suc j < length fs → Waits (get_or fs j no_frame) (get_or fs (suc j) no_frame).function
  chain_waits [] c j h = absurd (omega arith)
  chain_waits (F ∷ []) c j h = absurd (omega arith)
  chain_waits (F ∷ (G ∷ Gs)) c zero h = c.1
  chain_waits (F ∷ (G ∷ Gs)) c (suc j) h = chain_waits (G ∷ Gs) c.2 j (omega arith)

  -- the newest frame goes on
  pub chain_moved : (fs : List Frame) (n : ℕ) (F' : Frame) → Chain fs → length fs ≡ suc n → F'.function ≡ (get_or fs n no_frame).function → Placed F' → Chain (set fs n F')
  chain_moved [] n F' c l e q = absurd (omega arith)
  chain_moved (F ∷ []) zero F' c l e q = q
  chain_moved (F ∷ []) (suc n) F' c l e q = absurd (omega arith)
  chain_moved (F ∷ (G ∷ Gs)) zero F' c l e q = absurd (omega arith)
  chain_moved (F ∷ (G ∷ [])) (suc zero) F' c l e q = (c.0, subst (λ n. Waits F n) (sym e) c.1, q)
  chain_moved (F ∷ (G ∷ [])) (suc (suc n)) F' c l e q = absurd (omega arith)
  chain_moved (F ∷ (G ∷ (H ∷ Hs))) (suc zero) F' c l e q = absurd (omega arith)
  chain_moved (F ∷ (G ∷ (H ∷ Hs))) (suc (suc n)) F' c l e q = (c.0, c.1, chain_moved (G ∷ (H ∷ Hs)) (suc n) F' c.2 (omega arith) e q)

  -- one frame more, and one less
  pub chain_push : (fs : List Frame) (n : ℕ) (G : Frame) → Chain fs → length fs ≡ suc n → Waits (get_or fs n no_frame) G.function → Placed G → Chain (fs ++ (G ∷ []))
  chain_push [] n G c l w q = absurd (omega arith)
  chain_push (F ∷ []) zero G c l w q = (c, w, q)
  chain_push (F ∷ []) (suc n) G c l w q = absurd (omega arith)
  chain_push (F ∷ (H ∷ Hs)) zero G c l w q = absurd (omega arith)
  chain_push (F ∷ (H ∷ Hs)) (suc n) G c l w q = (c.0, c.1, chain_push (H ∷ Hs) n G c.2 (omega arith) w q)

  pub chain_take : (fs : List Frame) (n : ℕ) → Chain fs → Chain (take n fs)
  chain_take [] zero c = tt
  chain_take [] (suc n) c = tt
  chain_take (F ∷ fs) zero c = tt
  chain_take (F ∷ []) (suc zero) c = c
  chain_take (F ∷ []) (suc (suc n)) c = c
  chain_take (F ∷ (G ∷ Gs)) (suc zero) c = c.0
  chain_take (F ∷ (G ∷ Gs)) (suc (suc n)) c = (c.0, c.1, chain_take (G ∷ Gs) (suc n) c.2)
