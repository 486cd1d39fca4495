-- The memory of the machine as the core of soundness sees it.
use Rattle.std.proofs.Common.{◌≡◌, ℕ, zero, suc, ◌<◌, Bool, false, List, [], ◌∷◌, ◌++◌, length, get_or, set, replicate, sym, refl, ap, ◌∙◌, ap₂, arith}
use mathlib.Core.Path.{fun_ext}
use native.Mathlib.Decide.{ℕ_discrete}
use Rattle.std.proofs.lemmas.List.{get_or-set_same, get_or-set_other, length-set, length_push, get_or_push}
use Rattle.memory.specs.declared.object.Cell.{Cell}
use Rattle.memory.specs.declared.object.Object.{Object}
use Rattle.memory.specs.Model.{Store, plain, count_of, object_at, cell_at, with_object, with_cell}
use Rattle.safety.specs.Model.{choose, place?}
use Rattle.safety.specs.Model as C
use Rattle.safety.specs.Step as St
use Rattle.safety.specs.Kept.{void}
use Rattle.safety.specs.Step.{Mem, poke}

abbrev pub mem : Store → Mem
mem m = record { size = count_of m; kind = λ o. (object_at m o).kind; word = λ o f. (cell_at m o f).word; mark = λ o f. (cell_at m o f).mark }

same_mem : (a a' : ℕ) (b b' : ℕ → ℕ) (c c' : ℕ → ℕ → ℕ) (d d' : ℕ → ℕ → Bool) → a ≡ a' → b ≡ b' → c ≡ c' → d ≡ d'
    → ◌≡◌ {A = Mem} (record { size = a; kind = b; word = c; mark = d }) (record { size = a'; kind = b'; word = c'; mark = d' })
same_mem a a' b b' c c' d d' p q r s = cc

pub push_off : {X : Type 0} (xs : List X) (x d : X) (o : ℕ) → ¬ (o ≡ length xs) → get_or (xs ++ (x ∷ [])) o d ≡ get_or xs o d
push_off [] x d zero n = absurd (n refl)
push_off [] x d (suc o) n = refl
push_off (y ∷ ys) x d zero n = refl
push_off (y ∷ ys) x d (suc o) n = push_off ys x d o (λ e. n (ap suc e))

rep_at : {X : Type 0} (n : ℕ) (d : X) (f : ℕ) → get_or (replicate n d) f d ≡ d
rep_at zero d f = refl
rep_at (suc n) d zero = refl
rep_at (suc n) d (suc f) = rep_at n d f

-- one cell written
abbrev pub stored : Store → ℕ → ℕ → ℕ → Bool → Store
stored m o f n k = with_cell m o f (record { word = n; mark = k })

-- one more object
module _ (m : Store) (s : ℕ) where
  new : Object
  new = record { kind = s; cells = replicate 8 (plain 0) }

  at_new : object_at (with_object m s) (count_of m) ≡ new
  unfolding new
  at_new = get_or_push m.objects new (record { kind = 0; cells = [] }) (count_of m) refl

  kinds : (o : ℕ) (d : Dec (o ≡ count_of m)) → (object_at (with_object m s) o).kind ≡ choose d s (object_at m o).kind
  unfolding new
  kinds o (yes e) = ap (λ (q : ℕ). (object_at (with_object m s) q).kind) e ∙ ap (λ (q : Object). q.kind) at_new
  kinds o (no n) = ap (λ (q : Object). q.kind) (push_off m.objects new (record { kind = 0; cells = [] }) o n)

  all_cells : (o f : ℕ) (d : Dec (o ≡ count_of m)) → cell_at (with_object m s) o f ≡ choose d (plain 0) (cell_at m o f)
  unfolding new
  all_cells o f (yes e) = ap (λ (q : ℕ). cell_at (with_object m s) q f) e ∙ ap (λ (q : Object). get_or q.cells f (plain 0)) at_new ∙ rep_at 8 (plain 0) f
  all_cells o f (no n) = ap (λ (q : Object). get_or q.cells f (plain 0)) (push_off m.objects new (record { kind = 0; cells = [] }) o n)

  word_choose : (o f : ℕ) (d : Dec (o ≡ count_of m)) → (choose d (plain 0) (cell_at m o f)).word ≡ choose d 0 (cell_at m o f).word
  word_choose o f (yes e) = refl
  word_choose o f (no n) = refl

  mark_choose : (o f : ℕ) (d : Dec (o ≡ count_of m)) → (choose d (plain 0) (cell_at m o f)).mark ≡ choose d false (cell_at m o f).mark
  mark_choose o f (yes e) = refl
  mark_choose o f (no n) = refl

  pub mem_added : mem (with_object m s) ≡ St.added (mem m) s
  unfolding new
  mem_added = same_mem _ _ _ _ _ _ _ _
      (let e = length_push m.objects new in omega arith)
      (fun_ext (λ o. kinds o (ℕ_discrete o (count_of m))))
      (fun_ext (λ o. fun_ext (λ f. ap (λ (c : Cell). c.word) (all_cells o f (ℕ_discrete o (count_of m))) ∙ word_choose o f (ℕ_discrete o (count_of m)))))
      (fun_ext (λ o. fun_ext (λ f. ap (λ (c : Cell). c.mark) (all_cells o f (ℕ_discrete o (count_of m))) ∙ mark_choose o f (ℕ_discrete o (count_of m)))))

-- a cell written, as the core has it
module _ (m : Store) (p f n : ℕ) (k : Bool) (low : p < count_of m) (wide : f < length (object_at m p).cells) where
  new_cell : Cell
  new_cell = record { word = n; mark = k }

  new_object : Object
  unfolding new_cell
  new_object = record { kind = (object_at m p).kind; cells = set (object_at m p).cells f new_cell }

  at_object : object_at (stored m p f n k) p ≡ new_object
  unfolding new_object new_cell
  at_object = get_or-set_same m.objects p new_object (record { kind = 0; cells = [] }) low

  off_object : (o : ℕ) → ¬ (o ≡ p) → object_at (stored m p f n k) o ≡ object_at m o
  unfolding new_object new_cell
  off_object o d = get_or-set_other m.objects p o new_object (record { kind = 0; cells = [] }) d

  kind_kept : (o : ℕ) → Dec (o ≡ p) → (object_at (stored m p f n k) o).kind ≡ (object_at m o).kind
  unfolding new_object new_cell
  kind_kept o (yes e) = ap (λ (q : ℕ). (object_at (stored m p f n k) q).kind) e ∙ ap (λ (q : Object). q.kind) at_object ∙ ap (λ (q : ℕ). (object_at m q).kind) (sym e)
  kind_kept o (no d) = ap (λ (q : Object). q.kind) (off_object o d)

  cell_at_is : (o h : ℕ) (d : Dec (C.cell o h ≡ C.cell p f)) → cell_at (stored m p f n k) o h ≡ choose d new_cell (cell_at m o h)
  unfolding new_object new_cell
  cell_at_is o h (yes e) =
      let a : o ≡ p = cc in
      let b : h ≡ f = cc in
      ap₂ (λ (x y : ℕ). cell_at (stored m p f n k) x y) a b ∙ ap (λ (q : Object). get_or q.cells f (plain 0)) at_object ∙ get_or-set_same (object_at m p).cells f new_cell (plain 0) wide
  cell_at_is o h (no d) = go (ℕ_discrete o p)
    where
      go : Dec (o ≡ p) → cell_at (stored m p f n k) o h ≡ cell_at m o h
      go (no c) = ap (λ (q : Object). get_or q.cells h (plain 0)) (off_object o c)
      go (yes a) =
          ap (λ (x : ℕ). cell_at (stored m p f n k) x h) a ∙ ap (λ (q : Object). get_or q.cells h (plain 0)) at_object
          ∙ get_or-set_other (object_at m p).cells f h new_cell (plain 0) (λ b. d (ap₂ (λ (x y : ℕ). C.cell x y) a b)) ∙ ap (λ (x : ℕ). cell_at m x h) (sym a)

  word_of : (o h : ℕ) (d : Dec (C.cell o h ≡ C.cell p f)) → (choose d new_cell (cell_at m o h)).word ≡ choose d n (cell_at m o h).word
  unfolding new_cell
  word_of o h (yes e) = refl
  word_of o h (no d) = refl

  mark_of : (o h : ℕ) (d : Dec (C.cell o h ≡ C.cell p f)) → (choose d new_cell (cell_at m o h)).mark ≡ choose d k (cell_at m o h).mark
  unfolding new_cell
  mark_of o h (yes e) = refl
  mark_of o h (no d) = refl

  pub mem_stored : mem (stored m p f n k) ≡ poke (mem m) p f n k
  unfolding new_object new_cell
  mem_stored = same_mem _ _ _ _ _ _ _ _
      (length-set m.objects p new_object)
      (fun_ext (λ o. kind_kept o (ℕ_discrete o p)))
      (fun_ext (λ o. fun_ext (λ h. ap (λ (c : Cell). c.word) (cell_at_is o h (place? (C.cell o h) (C.cell p f))) ∙ word_of o h (place? (C.cell o h) (C.cell p f)))))
      (fun_ext (λ o. fun_ext (λ h. ap (λ (c : Cell). c.mark) (cell_at_is o h (place? (C.cell o h) (C.cell p f))) ∙ mark_of o h (place? (C.cell o h) (C.cell p f)))))

-- every object has eight cells, and keeps them
abbrev pub Whole : Store → Type 0
Whole m = (o : ℕ) → o < count_of m → length (object_at m o).cells ≡ 8

pub whole_added : (m : Store) (s : ℕ) → Whole m → Whole (with_object m s)
whole_added m s h o l = go (ℕ_discrete o (count_of m))
  where
    go : Dec (o ≡ count_of m) → length (object_at (with_object m s) o).cells ≡ 8
    go (yes e) = ap (λ (q : ℕ). length (object_at (with_object m s) q).cells) e ∙ ap (λ (q : Object). length q.cells) (get_or_push m.objects (record { kind = s; cells = replicate 8 (plain 0) }) (record { kind = 0; cells = [] }) (count_of m) refl)
    go (no n) = ap (λ (q : Object). length q.cells) (push_off m.objects (record { kind = s; cells = replicate 8 (plain 0) }) (record { kind = 0; cells = [] }) o n)
        ∙ h o (let e = length_push m.objects (record { kind = s; cells = replicate 8 (plain 0) }) in omega arith)

pub whole_stored : (m : Store) (p f n : ℕ) (k : Bool) → p < count_of m → Whole m → Whole (stored m p f n k)
whole_stored m p f n k low h o l = go (ℕ_discrete o p)
  where
    new_object : Object
    new_object = record { kind = (object_at m p).kind; cells = set (object_at m p).cells f (record { word = n; mark = k }) }

    go : Dec (o ≡ p) → length (object_at (stored m p f n k) o).cells ≡ 8
    go (yes e) = ap (λ (q : ℕ). length (object_at (stored m p f n k) q).cells) e ∙ ap (λ (q : Object). length q.cells) (get_or-set_same m.objects p new_object (record { kind = 0; cells = [] }) low)
        ∙ length-set (object_at m p).cells f (record { word = n; mark = k }) ∙ h p low
    go (no d) = ap (λ (q : Object). length q.cells) (get_or-set_other m.objects p o new_object (record { kind = 0; cells = [] }) d)
        ∙ h o (let e = length-set m.objects p new_object in omega arith)

-- no object
pub mem_empty : (m : Store) → count_of m ≡ 0 → mem m ≡ void
mem_empty m e = go m.objects e
  where
    go : (os : List Object) → length os ≡ 0 → mem (record { capacity = m.capacity; objects = os }) ≡ void
    go [] h = refl
    go (o ∷ os) h = absurd (omega arith)
