-- What a write to a byte image changes.
use Rattle.std.proofs.Common.{◌≡◌, ℕ, zero, suc, ◌+◌, ◌*◌, ◌/◌, ◌%◌, ◌^◌, ◌<◌, ◌≤◌, min, ◌⊎◌, List, [], ◌∷◌, ◌++◌, map, length, get_or, set, replicate, sym, refl, ap, ◌∙◌, ⊎_elim, arith, length-set, get_or-set_other, get_or-set_same}
use Rattle.std.proofs.lemmas.Nat.{from_le_bytes-to_le_bytes_4}
use Rattle.std.proofs.lemmas.Bool.Decides.{nat_tests}
use Rattle.std.proofs.lemmas.Grind.{common_steps}
use Rattle.std.specs.List.{range_with_len}
use Rattle.std.proofs.lemmas.List.FromFn.{length-map-range_with_len, get_or-map-range_with_len, map-range_with_len_more, fill_by_all}
use Rattle.std.proofs.lemmas.Bool.{cases_eq}
use Rattle.std.proofs.lemmas.List.{get_or-replicate, length-replicate, replicate-append-replicate}
use Rattle.std.proofs.lemmas.List.Edits.{paste_none, paste_more, paste-paste}
use Rattle.std.proofs.Math.Seq.{paste}
use Rattle.memory.specs.declared.object.Cell.{Cell}
use Rattle.memory.specs.declared.object.Object.{Object}
use Rattle.memory.specs.Words.{word_at, with_word}
use Rattle.memory.specs.Images.{objects_in, image_of, room_in, held_in, object_in, cell_in, cell_from, cell_number, zeroed, blanked, Layout}
use Rattle.memory.specs.Sizes.{length_image}
use Rattle.memory.specs.Model.{count_of, plain, fresh, cell_at, with_cell, with_object}

abbrev none : Object
none = record { kind = 0; cells = [] }

pub length_with_word : (bs : List ℕ) (p n : ℕ) → length (with_word bs p n) ≡ length bs
unfolding with_word
length_with_word bs p n = simp length-set

byte_other : (bs : List ℕ) (p k n : ℕ) → (k < p) ⊎ (p + 4 ≤ k) → get_or (with_word bs p n) k 0 ≡ get_or bs k 0
unfolding with_word
byte_other bs p k n h = grind (arith, common_steps)

pub word_other : (bs : List ℕ) (p q n : ℕ) → (q + 4 ≤ p) ⊎ (p + 4 ≤ q) → word_at (with_word bs p n) q ≡ word_at bs q
unfolding word_at
word_other bs p q n h = grind (arith, byte_other)

pub word_same : (bs : List ℕ) (p n : ℕ) → p + 4 ≤ length bs → n < 2 ^ 32 → word_at (with_word bs p n) p ≡ n
unfolding word_at with_word
word_same bs p n h k = let whole = from_le_bytes-to_le_bytes_4 n k in grind (arith, common_steps, whole)

abbrev pub four_bytes : ℕ → List ℕ
four_bytes n = n % 256 ∷ n / 256 % 256 ∷ n / 65536 % 256 ∷ n / 16777216 % 256 ∷ []

-- a number is written as its four bytes
pub word_pasted : (bs : List ℕ) (p n : ℕ) → p + 4 ≤ length bs → with_word bs p n ≡ paste bs p (four_bytes n) 4
unfolding with_word
word_pasted bs p n h =
    let s = four_bytes n in
    let at_p : p ≡ p + 0 = omega arith in
    let a = ap (λ (xs : List ℕ). set xs p (n % 256)) (paste_none bs p s) ∙ ap (λ (i : ℕ). set (paste bs p s 0) i (n % 256)) at_p ∙ paste_more bs p s 0 0 (omega arith) (omega arith) in
    let b = ap (λ (xs : List ℕ). set xs (p + 1) (n / 256 % 256)) a ∙ paste_more bs p s 1 0 (omega arith) (omega arith) in
    let c = ap (λ (xs : List ℕ). set xs (p + 2) (n / 65536 % 256)) b ∙ paste_more bs p s 2 0 (omega arith) (omega arith) in
    ap (λ (xs : List ℕ). set xs (p + 3) (n / 16777216 % 256)) c ∙ paste_more bs p s 3 0 (omega arith) (omega arith)

-- two lists made of functions that agree
pub map_same : {X : Type 0} (f g : ℕ → X) (n : ℕ) (d : X) → ((k : ℕ) → k < n → g k ≡ f k) → map g (range_with_len 0 n) ≡ map f (range_with_len 0 n)
map_same f g n d same =
    fill_by_all f (map g (range_with_len 0 n)) n d (length-map-range_with_len g 0 n) (λ k h. get_or-map-range_with_len g 0 n k k d h (omega arith) ∙ same k h)

-- and of functions that agree but at one place
pub map_set : {X : Type 0} (f g : ℕ → X) (n o : ℕ) (x d : X) → o < n → ((k : ℕ) → k < n → (k ≡ o → ⊥) → g k ≡ f k) → g o ≡ x → map g (range_with_len 0 n) ≡ set (map f (range_with_len 0 n)) o x
map_set f g n o x d lt same here =
    let fs = map f (range_with_len 0 n) in
    let len : length fs ≡ n = length-map-range_with_len f 0 n in
    sym (fill_by_all g (set fs o x) n d (length-set fs o x ∙ len)
    (λ k h. ⊎_elim
    (λ e. rw e (get_or-set_same fs o x d (omega arith) ∙ sym here))
    (λ ne. get_or-set_other fs o k x d ne ∙ get_or-map-range_with_len f 0 n k k d h (omega arith) ∙ sym (same k h ne))
    (cases_eq k o)))

abbrev zero_cell : Cell
zero_cell = plain 0

abbrev made : ℕ → List Cell → Object
made k cs = record { kind = k; cells = cs }

pub object_at_is : (n : ℕ) (bs : List ℕ) (o : ℕ) → o < n → get_or (objects_in n bs) o none ≡ object_in bs o
unfolding objects_in
object_at_is n bs o h = get_or-map-range_with_len (object_in bs) 0 n o o none h (omega arith)

-- what reads the same words is the same object
object_same : (bs cs : List ℕ) (o : ℕ) → word_at cs (36 * o) ≡ word_at bs (36 * o) → ((j : ℕ) → j < 8 → word_at cs (36 * o + 4 + 4 * j) ≡ word_at bs (36 * o + 4 + 4 * j)) → object_in cs o ≡ object_in bs o
object_same bs cs o k e =
    ap (λ (w : ℕ). made (min w 255) (map (cell_in cs o) (range_with_len 0 8))) k
    ∙ ap (made (min (word_at bs (36 * o)) 255)) (map_same (cell_in bs o) (cell_in cs o) 8 zero_cell (λ j h. ap cell_from (e j h)))

pub objects_store : (n : ℕ) (bs : List ℕ) (o c v : ℕ) → o < n → c < 8 → 36 * n ≤ length bs → v < 2 ^ 32
    → objects_in n (with_word bs (36 * o + 4 + 4 * c) v) ≡ set (objects_in n bs) o (made (get_or (objects_in n bs) o none).kind (set (get_or (objects_in n bs) o none).cells c (cell_from v)))
unfolding objects_in
objects_store n bs o c v ho hc hl hv =
    let p = 36 * o + 4 + 4 * c in
    let cs = with_word bs p v in
    let e = object_at_is n bs o ho in
    let g : Object → Object = λ x. made x.kind (set x.cells c (cell_from v)) in
    let kind : word_at cs (36 * o) ≡ word_at bs (36 * o) = grind (arith, word_other) in
    map_set (object_in bs) (object_in cs) n o (g (get_or (objects_in n bs) o none)) none ho
    (λ k h ne. object_same bs cs k (grind (arith, word_other)) (λ j hj. grind (arith, word_other)))
    (ap (λ (w : ℕ). made (min w 255) (map (cell_in cs o) (range_with_len 0 8))) kind
    ∙ ap (made (min (word_at bs (36 * o)) 255))
    (map_set (cell_in bs o) (cell_in cs o) 8 c (cell_from v) zero_cell hc
    (λ j h ne. ap cell_from (grind (arith, word_other)))
    (ap cell_from (word_same bs p v (omega arith) hv)))
    ∙ ap g (sym e))

length_zeroed : (c : ℕ) (bs : List ℕ) (p : ℕ) → length (zeroed c bs p) ≡ length bs
length_zeroed zero bs p = refl
length_zeroed (suc c) bs p = length_with_word (zeroed c bs p) (p + 4 + 4 * c) 0 ∙ length_zeroed c bs p

zeroed_other : (c : ℕ) (bs : List ℕ) (p q : ℕ) → q ≤ p → word_at (zeroed c bs p) q ≡ word_at bs q
zeroed_other zero bs p q h = refl
zeroed_other (suc c) bs p q h = grind (arith, word_other, zeroed_other c bs p q h)

zeroed_at : (c : ℕ) (bs : List ℕ) (p j : ℕ) → j < c → p + 4 + 4 * c ≤ length bs → word_at (zeroed c bs p) (p + 4 + 4 * j) ≡ 0
zeroed_at zero bs p j h l = absurd (omega arith)
zeroed_at (suc c) bs p j h l = grind (arith, word_same, word_other, length_zeroed, zeroed_at c bs p j)

-- cells made zero one by one are bytes made zero at once
pub zeroed_pasted : (c : ℕ) (bs : List ℕ) (p : ℕ) → p + 4 + 4 * c ≤ length bs → zeroed c bs p ≡ paste bs (p + 4) (replicate (4 * c) 0) (4 * c)
zeroed_pasted zero bs p h = paste_none bs (p + 4) []
zeroed_pasted (suc c) bs p h =
    let more : 4 * c + 4 ≡ 4 * suc c = omega arith in
    word_pasted (zeroed c bs p) (p + 4 + 4 * c) 0 (omega (arith, length_zeroed c bs p))
    ∙ ap (λ (xs : List ℕ). paste xs (p + 4 + 4 * c) (replicate 4 0) 4) (zeroed_pasted c bs p (omega arith))
    ∙ paste-paste bs (p + 4) (replicate (4 * c) 0) (replicate 4 0) (4 * c) 4 (sym (length-replicate (4 * c) 0)) refl (omega arith)
    ∙ ap (λ (xs : List ℕ). paste bs (p + 4) xs (4 * c + 4)) (replicate-append-replicate (4 * c) 4 0)
    ∙ ap (λ (n : ℕ). paste bs (p + 4) (replicate n 0) n) more

pub length_blanked : (bs : List ℕ) (o k : ℕ) → length (blanked bs o k) ≡ length bs
length_blanked bs o k = length_zeroed 8 (with_word bs (36 * o) k) (36 * o) ∙ length_with_word bs (36 * o) k

pub objects_add : (n : ℕ) (bs : List ℕ) (k : ℕ) → 36 * n + 36 ≤ length bs → k ≤ 255 → objects_in (n + 1) (blanked bs n k) ≡ objects_in n bs ++ (fresh k ∷ [])
unfolding objects_in
objects_add n bs k h hk =
    let ds = with_word bs (36 * n) k in
    let cs = blanked bs n k in
    let front : map (object_in cs) (range_with_len 0 n) ≡ map (object_in bs) (range_with_len 0 n)
    = map_same (object_in bs) (object_in cs) n none (λ o ho. object_same bs cs o (grind (arith, zeroed_other, word_other)) (λ j hj. grind (arith, zeroed_other, word_other))) in
    let cells : replicate 8 zero_cell ≡ map (cell_in cs n) (range_with_len 0 8)
    = fill_by_all (cell_in cs n) (replicate 8 zero_cell) 8 zero_cell refl
    (λ j hj. get_or-replicate 8 j zero_cell zero_cell hj ∙ ap cell_from (sym (zeroed_at 8 ds (36 * n) j hj (omega (arith, length_with_word bs (36 * n) k))))) in
    let number : word_at cs (36 * n) ≡ k = zeroed_other 8 ds (36 * n) (36 * n) (omega arith) ∙ word_same bs (36 * n) k (omega arith) (omega arith) in
    let kind : min (word_at cs (36 * n)) 255 ≡ k = omega (arith, number) in
    let last : object_in cs n ≡ fresh k = ap (λ (w : ℕ). made w (map (cell_in cs n) (range_with_len 0 8))) kind ∙ ap (made k) (sym cells) in
    map-range_with_len_more (object_in cs) 0 n n (omega arith) ∙ ap (λ (xs : List Object). xs ++ (object_in cs n ∷ [])) front ∙ ap (λ (x : Object). map (object_in bs) (range_with_len 0 n) ++ (x ∷ [])) last

pub cell_back : (v : Cell) → cell_from (cell_number v) ≡ v
cell_back v = grind (arith, nat_tests)

number_back : (n : ℕ) → cell_number (cell_from n) ≡ n
number_back n = grind (arith, nat_tests)

pub cell_at_is : (n : ℕ) (bs : List ℕ) (o c : ℕ) → o < count_of (image_of n bs) → c < 8 → cell_at (image_of n bs) o c ≡ cell_in bs o c
cell_at_is n bs o c there k =
    let h : o < held_in n bs = rw (length_image (held_in n bs) bs) at there in
    ap (λ (x : Object). get_or x.cells c zero_cell) (object_at_is (held_in n bs) bs o h) ∙ get_or-map-range_with_len (cell_in bs o) 0 8 c c zero_cell k (omega arith)

pub image_write : (n : ℕ) (bs cs : List ℕ) (o c : ℕ) (v : Cell) → cs ≡ with_word bs (36 * o + 4 + 4 * c) (cell_number v)
    → o < count_of (image_of n bs) → c < 8 → v.word < 2 ^ 31 → image_of n cs ≡ with_cell (image_of n bs) o c v
image_write n bs cs o c v e there hc hv =
    let ho : o < held_in n bs = rw (length_image (held_in n bs) bs) at there in
    let small : cell_number v < 2 ^ 32 = grind (arith, nat_tests) in
    let len : length cs ≡ length bs = ap length e ∙ length_with_word bs (36 * o + 4 + 4 * c) (cell_number v) in
    ap (λ (l : ℕ). record { capacity = min (l / 36) 1024; objects = objects_in (min n (min (l / 36) 1024)) cs }) len
    ∙ ap (λ (xs : List Object). record { capacity = room_in bs; objects = xs })
    (ap (objects_in (held_in n bs)) e ∙ objects_store (held_in n bs) bs o c (cell_number v) ho hc (omega arith) small)
    ∙ ap (with_cell (image_of n bs) o c) (cell_back v)

pub image_grown : (n : ℕ) (bs cs : List ℕ) (k : ℕ) → cs ≡ blanked bs n k → n < room_in bs → k ≤ 255 → image_of (n + 1) cs ≡ with_object (image_of n bs) k
image_grown n bs cs k e h hk =
    let len : length cs ≡ length bs = ap length e ∙ length_blanked bs n k in
    let before : held_in n bs ≡ n = omega arith in
    let all : held_in (n + 1) cs ≡ n + 1 = omega arith in
    let grown : objects_in (n + 1) cs ≡ objects_in n bs ++ (fresh k ∷ []) = ap (objects_in (n + 1)) e ∙ objects_add n bs k (omega arith) hk in
    let room : room_in cs ≡ room_in bs = ap (λ (l : ℕ). min (l / 36) 1024) len in
    rw (all, grown, room, before) refl

pub image_none : (r : ℕ) (bs : List ℕ) → objects_in (min 0 r) bs ≡ []
unfolding objects_in
image_none r bs = let z : min 0 r ≡ 0 = omega arith in rw z refl

pub image_layout : (n : ℕ) (bs : List ℕ) → Layout (image_of n bs) bs
image_layout n bs =
    let j = held_in n bs in
    record {
      whole = rw (length_image j bs) (omega arith);
      kinds = λ o h small.
          let lt : o < j = rw (length_image j bs) at h in
          let e : (get_or (objects_in j bs) o none).kind ≡ min (word_at bs (36 * o)) 255 = ap (λ (x : Object). x.kind) (object_at_is j bs o lt) in
          omega (arith, e);
      cells = λ o c h hc. sym (ap cell_number (cell_at_is n bs o c h hc) ∙ number_back (word_at bs (36 * o + 4 + 4 * c)));
    }
