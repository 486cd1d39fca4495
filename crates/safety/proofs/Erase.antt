-- Chains of changes: of slots, and of the memory under the ghost flags.
use Rattle.std.proofs.Common.{◌≡◌, ℕ, Bool, sym, refl, ap, ◌∙◌}
use mathlib.Core.Path.{fun_ext}
use native.Mathlib.Decide.{ℕ_discrete}
use Rattle.safety.specs.Model.{Cell, Heap, Slots, Spot, Entry, out, cell, place?, put, wr, choose}
use Rattle.safety.specs.Fields.{zeroed, grow}
use Rattle.safety.specs.Step.{Mem, poke, added, erase}
use Rattle.safety.proofs.Update.{put_at, put_off, wr_at, wr_off}
use Rattle.safety.proofs.Scope.{put_ind}

pub put_put : (σ : Slots) (z : Spot) (a b : Entry) → put (put σ z a) z b ≡ put σ z b
put_put σ z a b = fun_ext (put_ind (λ s e. e ≡ put σ z b s) (put σ z a) z b (sym (put_at σ z b)) (λ s n. put_off σ z a s n ∙ sym (put_off σ z b s n)))

pub put_back : (σ : Slots) (z : Spot) (a e : Entry) → σ z ≡ e → put (put σ z a) z e ≡ σ
put_back σ z a e h = fun_ext (put_ind (λ s x. x ≡ σ s) (put σ z a) z e (sym h) (λ s n. put_off σ z a s n))

-- a slot used on the way, and out of scope again
pub put_spare : (σ : Slots) (z : Spot) (a b : Entry) → σ z ≡ out → put (put (put σ z a) z b) z out ≡ σ
put_spare σ z a b h = put_put (put σ z a) z b out ∙ put_back σ z a out h

pub choose_ap : {A B C : Type 0} (d : Dec A) (f : B → C) (x y : B) → f (choose d x y) ≡ choose d (f x) (f y)
choose_ap (yes a) f x y = refl
choose_ap (no n) f x y = refl

mem_path : (a b : Mem) → a.size ≡ b.size → ((o : ℕ) → a.kind o ≡ b.kind o) → ((o f : ℕ) → a.word o f ≡ b.word o f) → ((o f : ℕ) → a.mark o f ≡ b.mark o f) → a ≡ b
mem_path a b s k w m = λ i. record { size = s i; kind = λ o. k o i; word = λ o f. w o f i; mark = λ o f. m o f i }

-- the heap agrees with the memory at all cells but one
pub record Off (H : Heap) (R : Mem) (p f : ℕ) : Type 0 where
  pub sizes : H.size ≡ R.size
  pub kinds : (o : ℕ) → H.kind o ≡ R.kind o
  pub words : (o h : ℕ) → ¬ (cell o h ≡ cell p f) → (H.mem o h).word ≡ R.word o h
  pub marks : (o h : ℕ) → ¬ (cell o h ≡ cell p f) → (H.mem o h).mark ≡ R.mark o h

pub off : (H : Heap) (p f : ℕ) → Off H (erase H) p f
off H p f = record { sizes = refl; kinds = λ o. refl; words = λ o h n. refl; marks = λ o h n. refl }

pub off_wr : (H : Heap) (R : Mem) (p f : ℕ) (c : Cell) → Off H R p f → Off (wr H p f c) R p f
off_wr H R p f c k = record {
  sizes = k.sizes;
  kinds = k.kinds;
  words = λ o h n. ap (λ (x : Cell). x.word) (wr_off H p f c o h n) ∙ k.words o h n;
  marks = λ o h n. ap (λ (x : Cell). x.mark) (wr_off H p f c o h n) ∙ k.marks o h n;
}

pub off_ghost : (H : Heap) (R : Mem) (p f q g : ℕ) (c : Cell) → Off H R p f → c.word ≡ R.word q g → c.mark ≡ R.mark q g → Off (wr H q g c) R p f
off_ghost H R p f q g c k ew em = record {
  sizes = k.sizes;
  kinds = k.kinds;
  words = λ o h n. word' o h n (place? (cell o h) (cell q g));
  marks = λ o h n. mark' o h n (place? (cell o h) (cell q g));
}
  where
    word' : (o h : ℕ) → ¬ (cell o h ≡ cell p f) → Dec (cell o h ≡ cell q g) → ((wr H q g c).mem o h).word ≡ R.word o h
    word' o h n (yes e) = let a : o ≡ q = cc in let b : h ≡ g = cc in rw (a, b) (ap (λ (x : Cell). x.word) (wr_at H q g c) ∙ ew)
    word' o h n (no m) = ap (λ (x : Cell). x.word) (wr_off H q g c o h m) ∙ k.words o h n

    mark' : (o h : ℕ) → ¬ (cell o h ≡ cell p f) → Dec (cell o h ≡ cell q g) → ((wr H q g c).mem o h).mark ≡ R.mark o h
    mark' o h n (yes e) = let a : o ≡ q = cc in let b : h ≡ g = cc in rw (a, b) (ap (λ (x : Cell). x.mark) (wr_at H q g c) ∙ em)
    mark' o h n (no m) = ap (λ (x : Cell). x.mark) (wr_off H q g c o h m) ∙ k.marks o h n

pub erase_wr : (H : Heap) (R : Mem) (p f : ℕ) (c : Cell) (n : ℕ) (m : Bool) → Off H R p f → c.word ≡ n → c.mark ≡ m → erase (wr H p f c) ≡ poke R p f n m
erase_wr H R p f c n m k en em = mem_path (erase (wr H p f c)) (poke R p f n m) k.sizes k.kinds (λ o h. w o h (place? (cell o h) (cell p f))) (λ o h. r o h (place? (cell o h) (cell p f)))
  where
    w : (o h : ℕ) (d : Dec (cell o h ≡ cell p f)) → (choose d c (H.mem o h)).word ≡ choose d n (R.word o h)
    w o h (yes e) = en
    w o h (no x) = k.words o h x

    r : (o h : ℕ) (d : Dec (cell o h ≡ cell p f)) → (choose d c (H.mem o h)).mark ≡ choose d m (R.mark o h)
    r o h (yes e) = em
    r o h (no x) = k.marks o h x

pub erase_grow : (H : Heap) (s : ℕ) → erase (grow H s) ≡ added (erase H) s
erase_grow H s = mem_path (erase (grow H s)) (added (erase H) s) refl (λ o. refl)
    (λ o f. choose_ap (ℕ_discrete o H.size) (λ (x : Cell). x.word) zeroed (H.mem o f)) (λ o f. choose_ap (ℕ_discrete o H.size) (λ (x : Cell). x.mark) zeroed (H.mem o f))
