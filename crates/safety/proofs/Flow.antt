-- Flow, and what a cell's content and a stored value have.
use Rattle.std.proofs.Common.{◌≡◌, ℕ, zero, suc, ◌/◌, ◌^◌, ◌<◌, ◌≤◌, false, List, [], ◌∷◌, sym, refl, ◌∙◌, arith}
use Rattle.machine.specs.declared.threads.Slot.{Slot}
use Rattle.machine.specs.declared.threads.Slot.TheVariants.{Empty, Null, Number, Reference}
use Rattle.machine.specs.Values.{reference_of, word_of}
use Rattle.safety.specs.Model.{Right, alias, owned, pristine, Claim, num, pt, Content, fnum, falias, fowned, Structs, Cell, Heap, here, name_of, rank, own_ty, pris_ty, name_c, own_c, struct_of, field_at, Stable, Dead, Part, Conf, Saved, EntryOK, CellOK, Has}
use Rattle.safety.specs.Fields.{Flows, FlowK, ty_of, lent, val_of}

pub has_none : (f : ℕ) → Has 0 f → ⊥
has_none f h = let e : (0 / 2 ^ f) ≡ 0 = omega arith in omega arith

pub flow_rank : (t t' : Claim) → Flows t t' → rank t' ≤ rank t
flow_rank num num f = omega arith
flow_rank num (pt k s w) f = absurd f
flow_rank (pt k s w) num f = omega arith
flow_rank (pt alias s w) (pt alias s' w') f = omega arith
flow_rank (pt alias s w) (pt owned s' w') f = absurd f.1
flow_rank (pt alias s w) (pt pristine s' w') f = absurd f.1
flow_rank (pt owned s w) (pt alias s' w') f = omega arith
flow_rank (pt owned s w) (pt owned s' w') f = omega arith
flow_rank (pt owned s w) (pt pristine s' w') f = absurd f.1
flow_rank (pt pristine s w) (pt alias s' w') f = absurd f.1
flow_rank (pt pristine s w) (pt owned s' w') f = omega arith
flow_rank (pt pristine s w) (pt pristine s' w') f = omega arith

-- a pristine value goes to an owner only
pub flow_lent : (t t' : Claim) → Flows t t' → rank t' ≡ 0 → rank t ≤ 1
flow_lent num t' f h = omega arith
flow_lent (pt alias s w) t' f h = omega arith
flow_lent (pt owned s w) t' f h = omega arith
flow_lent (pt pristine s w) num f h = absurd f
flow_lent (pt pristine s w) (pt alias s' w') f h = absurd f.1
flow_lent (pt pristine s w) (pt owned s' w') f h = omega arith
flow_lent (pt pristine s w) (pt pristine s' w') f h = omega arith

pub own_zero : (t : Claim) → own_ty t 0 ≡ 0
own_zero num = refl
own_zero (pt alias s w) = refl
own_zero (pt owned s w) = refl
own_zero (pt pristine s w) = refl

pub pris_zero : (t : Claim) → pris_ty t 0 ≡ 0
pris_zero num = refl
pris_zero (pt alias s w) = refl
pris_zero (pt owned s w) = refl
pris_zero (pt pristine s w) = refl

pub pris_low : (t : Claim) (n : ℕ) → rank t ≤ 1 → pris_ty t n ≡ 0
pris_low num n h = refl
pris_low (pt alias s w) n h = refl
pris_low (pt owned s w) n h = refl
pris_low (pt pristine s w) n h = let z : ⊥ = omega arith in absurd z

pub own_low : (t : Claim) (n : ℕ) → rank t ≡ 0 → own_ty t n ≡ 0
own_low num n h = refl
own_low (pt alias s w) n h = refl
own_low (pt owned s w) n h = let z : ⊥ = omega arith in absurd z
own_low (pt pristine s w) n h = let z : ⊥ = omega arith in absurd z

pub own_high : (t : Claim) (n : ℕ) → 1 ≤ rank t → own_ty t n ≡ n
own_high num n h = let z : ⊥ = omega arith in absurd z
own_high (pt alias s w) n h = let z : ⊥ = omega arith in absurd z
own_high (pt owned s w) n h = refl
own_high (pt pristine s w) n h = refl

pub name_ref : (n : ℕ) → name_of (reference_of n) ≡ n
name_ref zero = refl
name_ref (suc n) = refl

-- null, or a reference
abbrev pub RefVal : Slot → Type 0
RefVal Empty = ⊥
RefVal Null = Unit {0}
RefVal (Number n) = ⊥
RefVal (Reference o) = Unit {0}

pub word_name : (v : Slot) → RefVal v → word_of v ≡ name_of v
word_name Empty h = absurd h
word_name Null h = refl
word_name (Number n) h = absurd h
word_name (Reference o) h = refl

module _ (St : Structs) where
  part_flow : (H : Heap) (o : ℕ) (k k' : Right) (w w' : ℕ) → Part St H o w k → FlowK k k' w w' → Part St H o w' k'
  part_flow H o pristine pristine w w' c f = (c.0, λ g d. rw (← f) (c.1 g d))
  part_flow H o pristine owned w w' c f =
      (λ g h. absurd (has_none g (rw f.1 at h)), λ g d. absurd (has_none g (rw f.0 at (c.1 g d))))
  part_flow H o pristine alias w w' c f = absurd f
  part_flow H o owned pristine w w' c f = absurd f
  part_flow H o owned owned w w' c f = (λ g h. c.0 g (rw f h), λ g d. rw (← f) (c.1 g d))
  part_flow H o owned alias w w' c f = (λ g h. c.0 g (f g h), λ g d. c.0 g (c.1 g d))
  part_flow H o alias pristine w w' c f = absurd f
  part_flow H o alias owned w w' c f = absurd f
  part_flow H o alias alias w w' c f = (λ g h. c.0 g (f g h), c.1)

  -- a value of a type that flows to another has that other
  pub flow : (H : Heap) (v : Slot) (t t' : Claim) → Conf St H v t → Flows t t' → Conf St H v t'
  flow H Empty t t' c f = c
  flow H Null num t' c f = absurd c
  flow H Null (pt k s w) num c f = absurd f
  flow H Null (pt k s w) (pt k' s' w') c f = tt
  flow H (Number n) num num c f = tt
  flow H (Number n) num (pt k s w) c f = f
  flow H (Number n) (pt k s w) t' c f = absurd c
  flow H (Reference o) num t' c f = absurd c
  flow H (Reference o) (pt k s w) num c f = f
  flow H (Reference o) (pt k s w) (pt k' s' w') c f = record { low = c.low; struct = c.struct ∙ f.0; part = part_flow H o k k' w w' c.part f.1 }

  pub conf_ref : (H : Heap) (v : Slot) (k : Right) (s w : ℕ) → Conf St H v (pt k s w) → RefVal v
  conf_ref H Empty k s w c = c
  conf_ref H Null k s w c = tt
  conf_ref H (Number n) k s w c = c
  conf_ref H (Reference o) k s w c = tt

  pub conf_high : (H : Heap) (v : Slot) (t : Claim) → 1 ≤ rank t → Conf St H v t → RefVal v
  conf_high H v num h c = let z : ⊥ = omega arith in absurd z
  conf_high H v (pt k s w) h c = conf_ref H v k s w c

  pub null_conf : (H H' : Heap) (v : Slot) (t : Claim) → RefVal v → Conf St H v t → Conf St H' Null t
  null_conf H H' Empty t r c = absurd r
  null_conf H H' Null num r c = c
  null_conf H H' Null (pt k s w) r c = tt
  null_conf H H' (Number n) t r c = absurd r
  null_conf H H' (Reference o) num r c = c
  null_conf H H' (Reference o) (pt k s w) r c = tt

  null_saved : (H H' : Heap) (v : Slot) (t : Claim) (ts : List Claim) → RefVal v → Saved St H v t ts → Saved St H' Null t ts
  null_saved H H' v t [] r c = tt
  null_saved H H' v t (u ∷ us) r c = (null_conf H H' v u r c.0, c.1, null_saved H H' v u us r c.2)

  pub null_entry : (H H' : Heap) (v : Slot) (t : Claim) (ts : List Claim) → RefVal v → EntryOK St H (here v t ts) → EntryOK St H' (here Null t ts)
  null_entry H H' v t ts r c = (null_conf H H' v t r c.0, null_saved H H' v t ts r c.1)

  -- what a cell that is not dead holds has the field's type
  pub load_conf : (H : Heap) (p f : ℕ) → CellOK St H p f → (H.mem p f).dead ≡ false → Conf St H (val_of (field_at St H p f) (H.mem p f).word) (ty_of (field_at St H p f))
  load_conf H p f c d = go (field_at St H p f) (H.mem p f) (H.mem p f).word refl d c.points c.whole
    where
      own_live : (s : ℕ) (b : Cell) (q : ℕ) → b.dead ≡ false → b.word ≡ suc q → own_c (fowned s) b ≡ suc q
      own_live s b q e h = rw e h

      go : (T : Content) (b : Cell) (n : ℕ) → b.word ≡ n → b.dead ≡ false
          → ((q : ℕ) → name_c T b ≡ suc q → (q < H.size) × (H.kind q ≡ struct_of T) × ((g : ℕ) → Dead St H q g → Stable St H q g))
          → ((q : ℕ) → own_c T b ≡ suc q → (g : ℕ) → Dead St H q g → ⊥) → Conf St H (val_of T n) (ty_of T)
      go fnum b n e d pts whl = tt
      go (falias s) b zero e d pts whl = tt
      go (falias s) b (suc q) e d pts whl = record { low = (pts q e).0; struct = (pts q e).1; part = (λ g h. absurd (has_none g h), (pts q e).2) }
      go (fowned s) b zero e d pts whl = tt
      go (fowned s) b (suc q) e d pts whl = record { low = (pts q e).0; struct = (pts q e).1; part = (λ g h. absurd (has_none g h), λ g x. absurd (whl q (own_live s b q d e) g x)) }

  -- a reader of a cell gets an alias, or a number
  pub read_conf : (H : Heap) (p f : ℕ) → CellOK St H p f → Conf St H (val_of (field_at St H p f) (H.mem p f).word) (lent (field_at St H p f))
  read_conf H p f c = go (field_at St H p f) (H.mem p f) (H.mem p f).word refl c.points
    where
      go : (T : Content) (b : Cell) (n : ℕ) → b.word ≡ n
          → ((q : ℕ) → name_c T b ≡ suc q → (q < H.size) × (H.kind q ≡ struct_of T) × ((g : ℕ) → Dead St H q g → Stable St H q g))
          → Conf St H (val_of T n) (lent T)
      go fnum b n e pts = tt
      go (falias s) b zero e pts = tt
      go (falias s) b (suc q) e pts = record { low = (pts q e).0; struct = (pts q e).1; part = (λ g h. absurd (has_none g h), (pts q e).2) }
      go (fowned s) b zero e pts = tt
      go (fowned s) b (suc q) e pts = record { low = (pts q e).0; struct = (pts q e).1; part = (λ g h. absurd (has_none g h), (pts q e).2) }

  -- what a stored value gives its cell
  pub store_points : (H : Heap) (T : Content) (b : Cell) (v : Slot) (k : Right) (w : ℕ) → b.word ≡ word_of v → Conf St H v (pt k (struct_of T) w) → ((o : ℕ) → Part St H o w k → (g : ℕ) → Dead St H o g → Stable St H o g)
      → (q : ℕ) → name_c T b ≡ suc q → (q < H.size) × (H.kind q ≡ struct_of T) × ((g : ℕ) → Dead St H q g → Stable St H q g)
  store_points H T b v k w e c st q h = go v T (name_word T h) c
    where
      name_word : (T : Content) → name_c T b ≡ suc q → word_of v ≡ suc q
      name_word fnum h = let z : ⊥ = omega arith in absurd z
      name_word (falias s) h = sym e ∙ h
      name_word (fowned s) h = sym e ∙ h

      go : (v : Slot) (T : Content) → word_of v ≡ suc q → Conf St H v (pt k (struct_of T) w) → (q < H.size) × (H.kind q ≡ struct_of T) × ((g : ℕ) → Dead St H q g → Stable St H q g)
      go Empty T h c = absurd c
      go Null T h c = let z : ⊥ = omega arith in absurd z
      go (Number n) T h c = absurd c
      go (Reference o) T h c = let e : o ≡ q = cc in rw (← e) (c.low, c.struct, st o c.part)

  pub store_whole : (H : Heap) (s : ℕ) (v : Slot) → Conf St H v (pt owned s 0) → (q : ℕ) → word_of v ≡ suc q → (g : ℕ) → Dead St H q g → ⊥
  store_whole H s Empty c q h g d = c
  store_whole H s Null c q h g d = omega arith
  store_whole H s (Number n) c q h g d = c
  store_whole H s (Reference o) c q h g d = let e : o ≡ q = cc in let d' : Dead St H o g = rw e d in has_none g (c.part.1 g d')
