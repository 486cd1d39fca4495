-- What one change of a slot or of a cell leaves as it was.
use Rattle.std.proofs.Common.{◌≡◌, ℕ, Bool, true, false, refl, arith}
use Rattle.safety.specs.Model.{Heap, Cell, Spot, Slots, Entry, at, cell, choose, put, wr, spot?, place?}

pub choose_yes : {A B : Type 0} (d : Dec A) (x y : B) → A → choose d x y ≡ x
choose_yes (yes a) x y h = refl
choose_yes (no n) x y h = absurd (n h)

pub choose_no : {A B : Type 0} (d : Dec A) (x y : B) → ¬ A → choose d x y ≡ y
choose_no (yes a) x y h = absurd (h a)
choose_no (no n) x y h = refl

pub put_at : (σ : Slots) (z : Spot) (e : Entry) → put σ z e z ≡ e
put_at σ z e = choose_yes (spot? z z) e (σ z) refl

pub put_off : (σ : Slots) (z : Spot) (e : Entry) (s : Spot) → ¬ (s ≡ z) → put σ z e s ≡ σ s
put_off σ z e s n = choose_no (spot? s z) e (σ s) n

pub wr_at : (H : Heap) (p f : ℕ) (c : Cell) → (wr H p f c).mem p f ≡ c
wr_at H p f c = choose_yes (place? (cell p f) (cell p f)) c (H.mem p f) refl

pub wr_off : (H : Heap) (p f : ℕ) (c : Cell) (o h : ℕ) → ¬ (cell o h ≡ cell p f) → (wr H p f c).mem o h ≡ H.mem o h
wr_off H p f c o h n = choose_no (place? (cell o h) (cell p f)) c (H.mem o h) n

pub cell_inj : {o h p f : ℕ} → cell o h ≡ cell p f → (o ≡ p) × (h ≡ f)
cell_inj e = (cc, cc)

pub at_inj : {s t : Spot} → at s ≡ at t → s ≡ t
at_inj e = cc

pub not_both : {b : Bool} → b ≡ true → b ≡ false → ⊥
not_both h k = let z : ◌≡◌ {A = ℕ} 0 1 = cc in omega arith
