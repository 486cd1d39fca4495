-- A record that the rules allow, taken by the newest frame of a thread: the step of the machine, with what the rules know before it.
use Rattle.std.specs.Prelude.{◌≡◌, ℕ, suc, ◌<◌, ◌≤◌, true, false, ◌⊎◌, List, [], ◌∷◌, ◌++◌, length, get_or, replicate, ◌≢◌, slice_index_or, slice_set}
use Rattle.table.specs.declared.types.Mode.TheVariants.{Var, Val, Once, Spec}
use Rattle.machine.specs.declared.threads.Slot.{Slot}
use Rattle.machine.specs.declared.threads.Slot.TheVariants.{Empty, Null, Number, Reference}
use Rattle.machine.specs.Values.{word_of}
use Rattle.machine.specs.declared.threads.Frame.{Frame}
use Rattle.safety.specs.Model.{Right, alias, owned, pristine, Claim, num, pt, falias, fowned, Structs, Has, rank}
use Rattle.safety.specs.Fields.{With, Without, Alone, Flows, ty_of, lent, val_of, spent}
use Rattle.safety.specs.Step.{Mem, poke, added, shared, Writable, RefTo, Plain}
use Rattle.safety.specs.Threads.{Scopes, frame_at, FallsSc, advance}
use Rattle.safety.specs.Calls.{spend_vals, given_vals, param_scope, IsFrame}

-- the arguments of a call: each in scope with a type that flows to the parameter's, no slot twice
abbrev pub NotIn : ℕ → List (ℕ × Claim) → Type 0
NotIn x [] = Unit {0}
NotIn x (a ∷ l) = ¬ (a.0 ≡ x) × NotIn x l

pub record Given (sc : List (List Claim)) (a : ℕ × Claim) : Type 0 where
  pub typed : Claim
  pub saved : List Claim
  pub is : get_or sc a.0 [] ≡ typed ∷ saved
  pub flows : Flows typed a.1

abbrev pub AllGiven : List (List Claim) → List (ℕ × Claim) → Type 0
AllGiven sc [] = Unit {0}
AllGiven sc (a ∷ l) = Given sc a × NotIn a.0 l × AllGiven sc l

module _ (St : Structs) (S : Scopes) where
  -- what is in scope before the frame's record
  abbrev pub scope : List (List Frame) → ℕ → ℕ → List (List Claim)
  scope M i j = S (frame_at M i j).function (frame_at M i j).index

  abbrev pub fresh : List (List Frame) → ℕ → ℕ → ℕ
  fresh M i j = length (scope M i j)

  abbrev pub slots_at : List (List Frame) → ℕ → ℕ → List Slot
  slots_at M i j = (frame_at M i j).slots

  -- x is in scope, with this type and value
  pub record Slotted (M : List (List Frame)) (i j x : ℕ) (v : Slot) (t : Claim) (ts : List Claim) : Type 0 where
    pub types : get_or (scope M i j) x [] ≡ t ∷ ts
    pub value : get_or (slots_at M i j) x Empty ≡ v

  -- the scope of a record that follows
  abbrev pub Next : List (List Frame) → ℕ → ℕ → ℕ → List (List Claim) → Type 0
  Next M i j index' res = FallsSc res (S (frame_at M i j).function index')

  abbrev pub Bound : List (List Frame) → ℕ → ℕ → ℕ → Claim → Type 0
  Bound M i j index' t = FallsSc (scope M i j ++ ((t ∷ []) ∷ [])) (S (frame_at M i j).function index')

  abbrev pub Pushed : List (List Frame) → ℕ → ℕ → ℕ → ℕ → Claim → Type 0
  Pushed M i j index' y t = FallsSc (slice_set (scope M i j) y (t ∷ slice_index_or (scope M i j) y [])) (S (frame_at M i j).function index')

  -- the frame steps: it is there, and has 16 slots
  pub record Active (M : List (List Frame)) (i j : ℕ) : Type 0 where
    pub thread : i < length M
    pub newest : j < length (slice_index_or M i [])
    pub slots : length (slots_at M i j) ≡ 16
    pub few : length (scope M i j) ≤ 16

  pub data Typed (M : List (List Frame)) (R : Mem) (i j : ℕ) : List (List Frame) → Mem → Type 0 where
    -- a test that changes no type, and the no of any test; emit; join
    t_stay : (index' : ℕ) → Next M i j index' (scope M i j) → Typed M R i j (advance M i j index' (slots_at M i j)) R
    -- int, add
    t_number : (index' n : ℕ) → fresh M i j < 16 → Bound M i j index' num → Typed M R i j (advance M i j index' (slice_set (slots_at M i j) (fresh M i j) (Number n))) R
    t_null : (index' s : ℕ) → fresh M i j < 16 → Bound M i j index' (pt pristine s 0) → Typed M R i j (advance M i j index' (slice_set (slots_at M i j) (fresh M i j) Null)) R
    t_new : (index' s : ℕ) → fresh M i j < 16 → Bound M i j index' (pt pristine s 0) → Typed M R i j (advance M i j index' (slice_set (slots_at M i j) (fresh M i j) (Reference R.size))) (added R s)
    t_share : (index' x : ℕ) (v : Slot) (t : Claim) (ts : List Claim) → fresh M i j < 16 → Slotted M i j x v t ts → rank t ≤ 1 → Bound M i j index' (shared t)
        → Typed M R i j (advance M i j index' (slice_set (slots_at M i j) (fresh M i j) v)) R
    t_own : (index' x s : ℕ) (v : Slot) (ts : List Claim) → fresh M i j < 16 → Slotted M i j x v (pt pristine s 0) ts → Bound M i j index' (pt owned s 0)
        → Typed M R i j (advance M i j index' (slice_set (slice_set (slots_at M i j) x Null) (fresh M i j) v)) R
    t_get : (index' x p f : ℕ) (k : Right) (s w : ℕ) (ts : List Claim) → fresh M i j < 16 → Slotted M i j x (Reference p) (pt k s w) ts → Bound M i j index' (lent (St.field s f))
        → Typed M R i j (advance M i j index' (slice_set (slots_at M i j) (fresh M i j) (val_of (St.field s f) (R.word p f)))) R
    t_take : (index' x p f : ℕ) (k : Right) (s w : ℕ) (ts : List Claim) → fresh M i j < 16 → Slotted M i j x (Reference p) (pt k s w) ts → St.mode s f ≡ Var → Bound M i j index' (ty_of (St.field s f))
        → Typed M R i j (advance M i j index' (slice_set (slots_at M i j) (fresh M i j) (val_of (St.field s f) (R.word p f)))) (poke R p f 0 false)
    t_set : (index' x y p f : ℕ) (k : Right) (s w w' : ℕ) (v : Slot) (t : Claim) (xs ys : List Claim) → fresh M i j < 16 → ¬ (x ≡ y) → Slotted M i j x (Reference p) (pt k s w) xs → Slotted M i j y v t ys
        → Writable k (St.mode s f) → Flows t (ty_of (St.field s f)) → Without w f w' → Bound M i j index' (pt k s w')
        → Typed M R i j (advance M i j index' (slice_set (slice_set (slice_set (slots_at M i j) y (spent (St.field s f) v)) x Null) (fresh M i j) (Reference p))) (poke R p f (word_of v) false)
    t_tentative : (index' x y p f s w w' s' u : ℕ) (v : Slot) (xs ys : List Claim) → fresh M i j < 16 → ¬ (x ≡ y) → Slotted M i j x (Reference p) (pt pristine s w) xs → Slotted M i j y v (pt alias s' u) ys
        → (St.mode s f ≢ Var) → (St.mode s f ≢ Once) → St.field s f ≡ fowned s' → With w f w' → Bound M i j index' (pt pristine s w')
        → Typed M R i j (advance M i j index' (slice_set (slice_set (slice_set (slots_at M i j) y Null) x Null) (fresh M i j) (Reference p))) (poke R p f (word_of v) false)
    t_swap : (index' x y w p f : ℕ) (k : Right) (s u s' u' : ℕ) (v v' : Slot) (t : Claim) (xs ys ws : List Claim) → ¬ (w ≡ y) → Plain k
        → Slotted M i j x (Reference p) (pt k s u) xs → Slotted M i j y v (pt alias s' u') ys → Slotted M i j w v' t ws
        → St.mode s f ≡ Spec → RefTo (St.field s f) s' → Flows t (ty_of (St.field s f)) → R.mark p f ≡ false → R.word p f ≡ word_of v → Pushed M i j index' y (ty_of (St.field s f))
        → Typed M R i j (advance M i j index' (slice_set (slots_at M i j) w (spent (St.field s f) v'))) (poke R p f (word_of v') false)
    t_unlink : (index' x y p f q g : ℕ) (k : Right) (s u s' u' u'' : ℕ) (xs ys : List Claim) → Plain k → Slotted M i j x (Reference p) (pt k s u) xs → Slotted M i j y (Reference q) (pt alias s' u') ys
        → St.mode s f ≡ Spec → (St.mode s' g ≡ Val) ⊎ Has u' g → St.field s f ≡ fowned s' → St.field s' g ≡ fowned s' → Alone u'' g → R.mark p f ≡ false → R.word p f ≡ suc q → Pushed M i j index' y (pt owned s' u'')
        → Typed M R i j (advance M i j index' (slots_at M i j)) (poke R p f (R.word q g) false)
    t_unlink_alias : (index' x y p f q g : ℕ) (k : Right) (s u s' u' u'' : ℕ) (xs ys : List Claim) → Plain k → Slotted M i j x (Reference p) (pt k s u) xs → Slotted M i j y (Reference q) (pt alias s' u') ys
        → St.mode s f ≡ Spec → (St.mode s' g ≡ Val) ⊎ Has u' g → St.field s f ≡ falias s' → RefTo (St.field s' g) s' → Alone u'' g → R.mark p f ≡ false → R.word p f ≡ suc q → Pushed M i j index' y (pt alias s' u'')
        → Typed M R i j (advance M i j index' (slots_at M i j)) (poke R p f (R.word q g) false)
    t_link : (index' x y p f q g : ℕ) (k : Right) (s u s' u' : ℕ) (xs ys : List Claim) → ¬ (x ≡ y) → Plain k → Slotted M i j x (Reference p) (pt k s u) xs → Slotted M i j y (Reference q) (pt pristine s' u') ys
        → St.mode s f ≡ Spec → St.mode s' g ≡ Val → St.field s f ≡ fowned s' → St.field s' g ≡ fowned s' → Alone u' g → R.mark p f ≡ false → R.word p f ≡ R.word q g → Next M i j index' (scope M i j)
        → Typed M R i j (advance M i j index' (slice_set (slots_at M i j) y Null)) (poke R p f (suc q) false)
    t_try : (index' x y p f : ℕ) (k : Right) (s u u' s' : ℕ) (v : Slot) (xs ys : List Claim) → ¬ (x ≡ y) → Plain k → Slotted M i j x (Reference p) (pt k s u) xs → Slotted M i j y v (pt pristine s' 0) ys
        → St.mode s f ≡ Once → St.field s f ≡ fowned s' → With u f u' → R.mark p f ≡ false → Pushed M i j index' x (pt k s u')
        → Typed M R i j (advance M i j index' (slice_set (slots_at M i j) y Null)) (poke R p f (word_of v) true)
    t_fix : (index' x p f : ℕ) (k : Right) (s u u' : ℕ) (xs : List Claim) → Plain k → Slotted M i j x (Reference p) (pt k s u) xs → St.mode s f ≡ Spec → With u f u' → Pushed M i j index' x (pt k s u')
        → Typed M R i j (advance M i j index' (slots_at M i j)) (poke R p f (R.word p f) true)
    t_stable : (index' x p f : ℕ) (k : Right) (s u u' : ℕ) (xs : List Claim) → Plain k → Slotted M i j x (Reference p) (pt k s u) xs → R.mark p f ≡ true → With u f u' → Pushed M i j index' x (pt k s u')
        → Typed M R i j (advance M i j index' (slots_at M i j)) R
    -- call (the next frame of the thread) and fork (the first of a new one)
    t_call : (M' : List (List Frame)) (i' j' n index' : ℕ) (l : List (ℕ × Claim)) (rest : List Slot) → ¬ (IsFrame i j i' j') → (frame_at M i' j').slots ≡ []
        → frame_at M' i j ≡ record { function = (frame_at M i j).function; index = index'; slots = spend_vals (slots_at M i j) l } → Next M i j index' (scope M i j)
        → frame_at M' i' j' ≡ record { function = n; index = 0; slots = given_vals (slots_at M i j) l rest } → S n 0 ≡ param_scope l
        → ((a b : ℕ) → ¬ (IsFrame a b i j) → ¬ (IsFrame a b i' j') → frame_at M' a b ≡ frame_at M a b)
        → AllGiven (scope M i j) l → Typed M R i j M' R
    -- a return of x to the frame (i', j'), which waits at a call
    t_return : (M' : List (List Frame)) (i' j' x index' : ℕ) (v : Slot) (t t₀ : Claim) (ts : List Claim) → ¬ (IsFrame i' j' i j) → fresh M i' j' < length (slots_at M i' j') → Slotted M i j x v t₀ ts → Flows t₀ t
        → frame_at M' i' j' ≡ record { function = (frame_at M i' j').function; index = index'; slots = slice_set (slots_at M i' j') (fresh M i' j') v } → Bound M i' j' index' t → (frame_at M' i j).slots ≡ []
        → ((a b : ℕ) → ¬ (IsFrame a b i' j') → ¬ (IsFrame a b i j) → frame_at M' a b ≡ frame_at M a b) → Typed M R i j M' R
    -- a return that ends its thread
    t_end : (M' : List (List Frame)) → (frame_at M' i j).slots ≡ [] → ((a b : ℕ) → ¬ (IsFrame a b i j) → frame_at M' a b ≡ frame_at M a b) → Typed M R i j M' R
    t_again : (M' : List (List Frame)) (i' j' : ℕ) (l : List (ℕ × Claim)) (rest : List Slot) → ¬ (IsFrame i j i' j') → (frame_at M i' j').slots ≡ []
        → frame_at M' i j ≡ record { function = (frame_at M i j).function; index = 0; slots = given_vals (slots_at M i j) l rest } → S (frame_at M i j).function 0 ≡ param_scope l
        → ((a b : ℕ) → ¬ (IsFrame a b i j) → frame_at M' a b ≡ frame_at M a b) → AllGiven (scope M i j) l → Typed M R i j M' R

  -- thread 0 at record 0 of function 0, which has no parameters
  abbrev pub started : List (List Frame)
  started = (record { function = 0; index = 0; slots = replicate 16 Empty } ∷ []) ∷ []
