-- One step of the flat machine: each op of the table, as the rules have it, on the slots in scope and the real memory.
use Rattle.std.specs.Prelude.{◌≡◌, ℕ, suc, ◌≤◌, Bool, true, false, ◌⊎◌, List, [], ◌∷◌, ◌≢◌}
use Rattle.std.proofs.Math.Decide.{ℕ_discrete}
use Rattle.table.specs.declared.types.Mode.{Mode}
use Rattle.table.specs.declared.types.Mode.TheVariants.{Var, Val, Once, Spec}
use Rattle.machine.specs.declared.threads.Slot.{Slot}
use Rattle.machine.specs.declared.threads.Slot.TheVariants.{Null, Number, Reference}
use Rattle.machine.specs.Values.{word_of}
use Rattle.safety.specs.Model.{Right, alias, owned, pristine, Claim, num, pt, Content, fnum, falias, fowned, Structs, Has, Heap, choose, Spot, Slots, Entry, out, here, cell, place?, put, rank, Inv}
use Rattle.safety.specs.Fields.{With, Without, Alone, Flows, ty_of, lent, val_of, spent}

-- the memory that the machine has
pub record Mem : Type 0 where
  pub size : ℕ
  pub kind : ℕ → ℕ
  pub word : ℕ → ℕ → ℕ
  pub mark : ℕ → ℕ → Bool

-- a ghost heap without its ghost flags
abbrev pub erase : Heap → Mem
erase H = record { size = H.size; kind = H.kind; word = λ o f. (H.mem o f).word; mark = λ o f. (H.mem o f).mark }

abbrev pub poke : Mem → ℕ → ℕ → ℕ → Bool → Mem
poke R p f n m = record {
  size = R.size;
  kind = R.kind;
  word = λ o h. choose (place? (cell o h) (cell p f)) n (R.word o h);
  mark = λ o h. choose (place? (cell o h) (cell p f)) m (R.mark o h);
}

abbrev pub added : Mem → ℕ → Mem
added R s = record {
  size = suc R.size;
  kind = λ o. choose (ℕ_discrete o R.size) s (R.kind o);
  word = λ o f. choose (ℕ_discrete o R.size) 0 (R.word o f);
  mark = λ o f. choose (ℕ_discrete o R.size) false (R.mark o f);
}

-- what share gives, which kinds may write a field by set, and a reference field of a struct
abbrev pub shared : Claim → Claim
shared num = num
shared (pt k s w) = pt alias s w

abbrev pub Writable : Right → Mode → Type 0
Writable alias m = ⊥
Writable owned m = m ≡ Var
Writable pristine m = m ≡ Once → ⊥

abbrev pub RefTo : Content → ℕ → Type 0
RefTo fnum s = ⊥
RefTo (falias s') s = s' ≡ s
RefTo (fowned s') s = s' ≡ s

-- an alias or an owner, not pristine
abbrev pub Plain : Right → Type 0
Plain alias = Unit {0}
Plain owned = Unit {0}
Plain pristine = ⊥

-- the end of a scope, and of a block that had changed a type
pub data Falls : Entry → Entry → Type 0 where
  ends : {e : Entry} → Falls e out
  stays : {e e' : Entry} → e ≡ e' → Falls e e'
  pops : {v : Slot} {t u : Claim} {us : List Claim} {e : Entry} → Falls (here v u us) e → Falls (here v t (u ∷ us)) e

module _ (St : Structs) where
  abbrev pub mode_of : Mem → ℕ → ℕ → Mode
  mode_of R p f = St.mode (R.kind p) f

  abbrev pub field_of : Mem → ℕ → ℕ → Content
  field_of R p f = St.field (R.kind p) f

  -- some ghost flags make the invariant hold
  abbrev pub Sound : Slots → Mem → Type 0
  Sound σ R = (H : Heap) × Inv St σ H × (erase H ≡ R)

  pub data Step (σ : Slots) (R : Mem) : Slots → Mem → Type 0 where
    do_int : (z : Spot) (n : ℕ) → Step σ R (put σ z (here (Number n) num [])) R
    do_null : (z : Spot) (s : ℕ) → Step σ R (put σ z (here Null (pt pristine s 0) [])) R
    do_new : (z : Spot) (s : ℕ) → Step σ R (put σ z (here (Reference R.size) (pt pristine s 0) [])) (added R s)
    do_share : (z x : Spot) (v : Slot) (t : Claim) (ts : List Claim) → σ x ≡ here v t ts → rank t ≤ 1 → Step σ R (put σ z (here v (shared t) [])) R
    do_get : (z x : Spot) (p f : ℕ) (t : Claim) (ts : List Claim) → σ x ≡ here (Reference p) t ts
        → Step σ R (put σ z (here (val_of (field_of R p f) (R.word p f)) (lent (field_of R p f)) [])) R
    -- own, and an argument or a result that goes to an owner
    do_give : (z x : Spot) (v : Slot) (t t' : Claim) (ts : List Claim) → ¬ (z ≡ x) → σ x ≡ here v t ts → Flows t t' → 1 ≤ rank t'
        → Step σ R (put (put σ x (here Null t ts)) z (here v t' [])) R
    -- an argument or a result that is a number or an alias
    do_lend : (z x : Spot) (v : Slot) (t t' : Claim) (ts : List Claim) → σ x ≡ here v t ts → Flows t t' → rank t' ≡ 0 → Step σ R (put σ z (here v t' [])) R
    do_fall : (σ' : Slots) → ((s : Spot) → Falls (σ s) (σ' s)) → Step σ R σ' R
    do_take : (z x : Spot) (p f : ℕ) (t : Claim) (ts : List Claim) → σ x ≡ here (Reference p) t ts → mode_of R p f ≡ Var
        → Step σ R (put σ z (here (val_of (field_of R p f) (R.word p f)) (ty_of (field_of R p f)) [])) (poke R p f 0 false)
    do_set : (z x y : Spot) (p f : ℕ) (k : Right) (s w w' : ℕ) (v : Slot) (t : Claim) (xs ys : List Claim) → ¬ (x ≡ y) → ¬ (z ≡ x)
        → σ x ≡ here (Reference p) (pt k s w) xs → σ y ≡ here v t ys → Writable k (mode_of R p f) → Flows t (ty_of (field_of R p f)) → Without w f w'
        → Step σ R (put (put (put σ y (here (spent (field_of R p f) v) t ys)) x (here Null (pt k s w) xs)) z (here (Reference p) (pt k s w') [])) (poke R p f (word_of v) false)
    do_tentative : (z x y : Spot) (p f s w w' s' u : ℕ) (v : Slot) (xs ys : List Claim) → ¬ (x ≡ y) → ¬ (z ≡ x) → ¬ (z ≡ y)
        → σ x ≡ here (Reference p) (pt pristine s w) xs → σ y ≡ here v (pt alias s' u) ys → (mode_of R p f ≢ Var) → (mode_of R p f ≢ Once) → field_of R p f ≡ fowned s' → With w f w'
        → Step σ R (put (put (put σ x (here Null (pt pristine s w) xs)) z (here (Reference p) (pt pristine s w') [])) y (here Null (pt alias s' u) ys)) (poke R p f (word_of v) false)
    do_swap : (x y w : Spot) (p f : ℕ) (k : Right) (s u s' u' : ℕ) (v v' : Slot) (t : Claim) (xs ys ws : List Claim) → ¬ (w ≡ y) → Plain k
        → σ x ≡ here (Reference p) (pt k s u) xs → σ y ≡ here v (pt alias s' u') ys → σ w ≡ here v' t ws
        → mode_of R p f ≡ Spec → RefTo (field_of R p f) s' → Flows t (ty_of (field_of R p f)) → R.mark p f ≡ false → R.word p f ≡ word_of v
        → Step σ R (put (put σ y (here v (ty_of (field_of R p f)) (pt alias s' u' ∷ ys))) w (here (spent (field_of R p f) v') t ws)) (poke R p f (word_of v') false)
    do_unlink : (x y : Spot) (p f q g : ℕ) (k : Right) (s u s' u' u'' : ℕ) (xs ys : List Claim) → Plain k
        → σ x ≡ here (Reference p) (pt k s u) xs → σ y ≡ here (Reference q) (pt alias s' u') ys
        → mode_of R p f ≡ Spec → (mode_of R q g ≡ Val) ⊎ Has u' g → field_of R p f ≡ fowned s' → field_of R q g ≡ fowned s' → Alone u'' g → R.mark p f ≡ false → R.word p f ≡ suc q
        → Step σ R (put σ y (here (Reference q) (pt owned s' u'') (pt alias s' u' ∷ ys))) (poke R p f (R.word q g) false)
    do_unlink_alias : (x y : Spot) (p f q g : ℕ) (k : Right) (s u s' u' u'' : ℕ) (xs ys : List Claim) → Plain k
        → σ x ≡ here (Reference p) (pt k s u) xs → σ y ≡ here (Reference q) (pt alias s' u') ys
        → mode_of R p f ≡ Spec → (mode_of R q g ≡ Val) ⊎ Has u' g → field_of R p f ≡ falias s' → RefTo (field_of R q g) s' → Alone u'' g → R.mark p f ≡ false → R.word p f ≡ suc q
        → Step σ R (put σ y (here (Reference q) (pt alias s' u'') (pt alias s' u' ∷ ys))) (poke R p f (R.word q g) false)
    do_link : (x y : Spot) (p f q g : ℕ) (k : Right) (s u s' u' : ℕ) (xs ys : List Claim) → ¬ (x ≡ y) → Plain k
        → σ x ≡ here (Reference p) (pt k s u) xs → σ y ≡ here (Reference q) (pt pristine s' u') ys
        → mode_of R p f ≡ Spec → mode_of R q g ≡ Val → field_of R p f ≡ fowned s' → field_of R q g ≡ fowned s' → Alone u' g → R.mark p f ≡ false → R.word p f ≡ R.word q g
        → Step σ R (put σ y (here Null (pt pristine s' u') ys)) (poke R p f (suc q) false)
    do_try : (x y : Spot) (p f : ℕ) (k : Right) (s u u' s' : ℕ) (v : Slot) (xs ys : List Claim) → ¬ (x ≡ y) → Plain k
        → σ x ≡ here (Reference p) (pt k s u) xs → σ y ≡ here v (pt pristine s' 0) ys → mode_of R p f ≡ Once → field_of R p f ≡ fowned s' → With u f u' → R.mark p f ≡ false
        → Step σ R (put (put σ y (here Null (pt pristine s' 0) ys)) x (here (Reference p) (pt k s u') (pt k s u ∷ xs))) (poke R p f (word_of v) true)
    do_fix : (x : Spot) (p f : ℕ) (k : Right) (s u u' : ℕ) (xs : List Claim) → Plain k
        → σ x ≡ here (Reference p) (pt k s u) xs → mode_of R p f ≡ Spec → With u f u'
        → Step σ R (put σ x (here (Reference p) (pt k s u') (pt k s u ∷ xs))) (poke R p f (R.word p f) true)
    do_stable : (x : Spot) (p f : ℕ) (k : Right) (s u u' : ℕ) (xs : List Claim) → Plain k
        → σ x ≡ here (Reference p) (pt k s u) xs → R.mark p f ≡ true → With u f u'
        → Step σ R (put σ x (here (Reference p) (pt k s u') (pt k s u ∷ xs))) R
