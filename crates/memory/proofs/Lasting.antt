-- What calls keep: one call, and then a list of them.
use Rattle.std.proofs.Common.{◌≡◌, ℕ, suc, ◌+◌, ◌-◌, ◌^◌, ◌<◌, ◌≤◌, Bool, true, false, not, ◌&&◌, eqb, ltb, leb, List, [], ◌∷◌, ◌++◌, length, get_or, take, set, sym, refl, ap, ◌∙◌, ⊎_elim, arith, length-set}
use lib.ListN.{get_or-map}
use lib.Seq.{take-nil}
use Rattle.std.proofs.lemmas.List.{map-append, map-set, set-get_or, length-map, length-append, append_assoc, append-nil, get_or_append_left, get_or_past, get_or-set_same, get_or-set_other, set_past}
use Rattle.std.proofs.lemmas.Bool.{leb-true, ltb-true, ltb-false, eqb-true, cases_eq, cases_lt, and_parts, or_parts, both_ways}
use Rattle.std.proofs.lemmas.Bool.Decides.{nat_tests}
use Rattle.std.proofs.lemmas.Grind.{common_steps}
use Rattle.std.proofs.lemmas.List.{get_or_push}
use Rattle.memory.specs.declared.object.Cell.{Cell}
use Rattle.memory.specs.declared.object.Object.{Object}
use Rattle.memory.specs.declared.replay.Call.{Call}
use Rattle.memory.specs.declared.replay.Call.TheVariants.{Add, Store as Put, Exchange}
use Rattle.memory.specs.Model.{Store, count_of, plain, fresh, object_at, cell_at, with_object, with_cell, has_cell, is_word, matching}
use Rattle.memory.specs.Calls.{after_call, after_calls, kinds_in, asked, asked_by, stores_to, names, any_of, Whole, Keeps}

abbrev none : Object
none = record { kind = 0; cells = [] }

-- an add that is accepted, or leaves what was there; so with a store and an exchange
after_add_keeps : (P : Store → Type 0) (m : Store) (k : ℕ) → (k ≤ 15 → count_of m < m.capacity → P (with_object m k)) → P m → P (after_call m (Add k))
after_add_keeps P m k new old = by (leb k 15) (ltb (count_of m) m.capacity) refl refl
  where
    by : (a b : Bool) → leb k 15 ≡ a → ltb (count_of m) m.capacity ≡ b → P (after_call m (Add k))
    by true true ea eb = rw (ea, eb) (new (leb-true k 15 ea) (ltb-true (count_of m) m.capacity eb))
    by true false ea eb = rw (ea, eb) old
    by false b ea eb = rw ea old

after_store_keeps : (P : Store → Type 0) (m : Store) (o c w : ℕ) → (w < 2 ^ 31 → P (with_cell m o c (plain w))) → P m → P (after_call m (Put o c w))
after_store_keeps P m o c w new old = by (has_cell m o c && is_word w) refl
  where
    by : (a : Bool) → (has_cell m o c && is_word w) ≡ a → P (after_call m (Put o c w))
    by true e = rw e (new (ltb-true w (2 ^ 31) (and_parts (has_cell m o c) (is_word w) e).1))
    by false e = rw e old

after_exchange_keeps : (P : Store → Type 0) (m : Store) (o c e w : ℕ) (k : Bool) → (w < 2 ^ 31 → matching (cell_at m o c) e ≡ true → P (with_cell m o c (record { word = w; mark = k }))) → P m → P (after_call m (Exchange o c e w k))
after_exchange_keeps P m o c e w k new old = by (has_cell m o c && (is_word e && is_word w)) (matching (cell_at m o c) e) refl refl
  where
    by : (a b : Bool) → (has_cell m o c && (is_word e && is_word w)) ≡ a → matching (cell_at m o c) e ≡ b → P (after_call m (Exchange o c e w k))
    by true true ea eb = rw (ea, eb) (new (ltb-true w (2 ^ 31) (and_parts (is_word e) (is_word w) (and_parts (has_cell m o c) (is_word e && is_word w) ea).1).1) eb)
    by true false ea eb = rw (ea, eb) old
    by false b ea eb = rw ea old

room_call : (m : Store) (x : Call) → (after_call m x).capacity ≡ m.capacity
room_call m (Add k) = after_add_keeps (λ n. n.capacity ≡ m.capacity) m k (λ a b. refl) refl
room_call m (Put o c w) = after_store_keeps (λ n. n.capacity ≡ m.capacity) m o c w (λ a. refl) refl
room_call m (Exchange o c e w k) = after_exchange_keeps (λ n. n.capacity ≡ m.capacity) m o c e w k (λ a b. refl) refl

-- structs

abbrev kind_in : Object → ℕ
kind_in x = x.kind

kinds_with : (m : Store) (o c : ℕ) (v : Cell) → kinds_in (with_cell m o c v) ≡ kinds_in m
kinds_with m o c v =
    map-set kind_in m.objects o _ ∙ ap (set (kinds_in m) o) (sym (get_or-map kind_in m.objects o none)) ∙ set-get_or (kinds_in m) o 0

count_kinds : (m n : Store) → kinds_in n ≡ kinds_in m → count_of n ≡ count_of m
count_kinds m n e = sym (length-map n.objects kind_in) ∙ ap length e ∙ length-map m.objects kind_in

abbrev shown : Store → List ℕ → List ℕ
shown m ks = kinds_in m ++ take (m.capacity - count_of m) ks

-- what changes no struct leaves room for the same
shown_same : (m n : Store) (ks : List ℕ) → n.capacity ≡ m.capacity → kinds_in n ≡ kinds_in m → shown n ks ≡ shown m ks
shown_same m n ks a e = let b = count_kinds m n e in rw (a, b, e) refl

shown_add : (m : Store) (k : ℕ) (ks : List ℕ) → shown (after_call m (Add k)) ks ≡ shown m (asked_by (Add k) ++ ks)
shown_add m k ks = by (leb k 15) (ltb (count_of m) m.capacity) refl refl
  where
    by : (a b : Bool) → leb k 15 ≡ a → ltb (count_of m) m.capacity ≡ b → shown (after_call m (Add k)) ks ≡ shown m (asked_by (Add k) ++ ks)
    by true true ea eb =
        let lt = ltb-true (count_of m) m.capacity eb in
        let more : m.capacity - count_of m ≡ suc (m.capacity - (count_of m + 1)) = omega arith in
        rw (ea, eb, more, length-append m.objects (fresh k ∷ []), map-append kind_in m.objects (fresh k ∷ []))
        (append_assoc (kinds_in m) (k ∷ []) (take (m.capacity - (count_of m + 1)) ks))
    by true false ea eb =
        let full : m.capacity - count_of m ≡ 0 = omega (arith, ltb-false (count_of m) m.capacity eb) in
        rw (ea, eb, full) refl
    by false b ea eb = rw ea refl

shown_call : (m : Store) (x : Call) (ks : List ℕ) → shown (after_call m x) ks ≡ shown m (asked_by x ++ ks)
shown_call m (Add k) ks = shown_add m k ks
shown_call m (Put o c w) ks =
    after_store_keeps (λ n. shown n ks ≡ shown m ks) m o c w (λ a. shown_same m (with_cell m o c (plain w)) ks refl (kinds_with m o c (plain w))) refl
shown_call m (Exchange o c e w k) ks =
    after_exchange_keeps (λ n. shown n ks ≡ shown m ks) m o c e w k (λ a b. shown_same m (with_cell m o c (record { word = w; mark = k })) ks refl (kinds_with m o c (record { word = w; mark = k }))) refl

-- cells

abbrev cell_of : ℕ → Object → Cell
cell_of c x = get_or x.cells c (plain 0)

cell_with_other : (m : Store) (p d : ℕ) (v : Cell) (o c : ℕ) → (eqb o p && eqb c d) ≡ false → cell_at (with_cell m p d v) o c ≡ cell_at m o c
cell_with_other m p d v o c h = grind (arith, common_steps, nat_tests)

fresh_cell : (k c : ℕ) → cell_of c (fresh k) ≡ plain 0
fresh_cell k c = grind (arith, common_steps)

object_new : (m : Store) (k : ℕ) → object_at (with_object m k) (count_of m) ≡ fresh k
object_new m k = get_or_push m.objects (fresh k) none (count_of m) refl

cell_grown : (m : Store) (k o c : ℕ) → cell_at (with_object m k) o c ≡ cell_at m o c
cell_grown m k o c = grind (arith, get_or_append_left, get_or_push, get_or_past, length-append, fresh_cell)

cell_call : (m : Store) (x : Call) (o c : ℕ) → names o c x ≡ false → cell_at (after_call m x) o c ≡ cell_at m o c
cell_call m (Add k) o c h = after_add_keeps (λ n. cell_at n o c ≡ cell_at m o c) m k (λ a b. cell_grown m k o c) refl
cell_call m (Put p d w) o c h = after_store_keeps (λ n. cell_at n o c ≡ cell_at m o c) m p d w (λ a. cell_with_other m p d (plain w) o c h) refl
cell_call m (Exchange p d e w k) o c h =
    after_exchange_keeps (λ n. cell_at n o c ≡ cell_at m o c) m p d e w k (λ a b. cell_with_other m p d (record { word = w; mark = k }) o c h) refl

marked_call : (m : Store) (x : Call) (o c : ℕ) → (cell_at m o c).mark ≡ true → stores_to o c x ≡ false → cell_at (after_call m x) o c ≡ cell_at m o c
marked_call m (Add k) o c t h = cell_call m (Add k) o c h
marked_call m (Put p d w) o c t h = cell_call m (Put p d w) o c h
marked_call m (Exchange p d e w k) o c t h = by (eqb o p && eqb c d) refl
  where
    by : (b : Bool) → (eqb o p && eqb c d) ≡ b → cell_at (after_call m (Exchange p d e w k)) o c ≡ cell_at m o c
    by false h = cell_call m (Exchange p d e w k) o c h
    by true h =
        let both = and_parts (eqb o p) (eqb c d) h in
        let op = eqb-true o p both.0 in
        let cd = eqb-true c d both.1 in
        let here : (cell_at m p d).mark ≡ true = rw (op, cd) at t in
        after_exchange_keeps (λ n. cell_at n o c ≡ cell_at m o c) m p d e w k
        (λ a b. let un : not (cell_at m p d).mark ≡ true = (and_parts (not (cell_at m p d).mark) (eqb (cell_at m p d).word e) b).0 in
        absurd (both_ways (not (cell_at m p d).mark) (ap not here) un)) refl

-- whole objects

abbrev AllWhole : Store → Type 0
AllWhole m = (o : ℕ) → o < count_of m → Whole (object_at m o)

fresh_whole : (k : ℕ) → k ≤ 15 → Whole (fresh k)
fresh_whole k h = record { struct = h; eight = refl; words = λ c. rw (fresh_cell k c) (omega arith) }

whole_grown : (m : Store) (k : ℕ) → k ≤ 15 → AllWhole m → AllWhole (with_object m k)
whole_grown m k h all o lt =
    ⊎_elim
    (λ old. rw (get_or_append_left m.objects (fresh k ∷ []) none o old) (all o old))
    (λ ge. let e : o ≡ count_of m = omega (arith, length-append m.objects (fresh k ∷ [])) in rw (e, object_new m k) (fresh_whole k h))
    (cases_lt o (count_of m))

cell_whole : (x : Object) (d : ℕ) (v : Cell) → v.word < 2 ^ 31 → Whole x → Whole (record { kind = x.kind; cells = set x.cells d v })
cell_whole x d v h wh = record {
  struct = wh.struct;
  eight = length-set x.cells d v ∙ wh.eight;
  words = λ c. grind (arith, get_or-set_same, get_or-set_other, set_past, wh.words c);
}

whole_with : (m : Store) (p d : ℕ) (v : Cell) → v.word < 2 ^ 31 → AllWhole m → AllWhole (with_cell m p d v)
whole_with m p d v h all o lt =
    let y : Object = record { kind = (object_at m p).kind; cells = set (object_at m p).cells d v } in
    let in_m : o < count_of m = omega (arith, length-set m.objects p y) in
    ⊎_elim
    (λ (same : o ≡ p).
    let in_p : p < count_of m = omega arith in
    let e : get_or (set m.objects p y) o none ≡ y = ap (λ (i : ℕ). get_or (set m.objects p y) i none) same ∙ get_or-set_same m.objects p y none in_p in
    rw e (cell_whole (object_at m p) d v h (all p in_p)))
    (λ other. rw (get_or-set_other m.objects p o y none other) (all o in_m))
    (cases_eq o p)

whole_call : (m : Store) (x : Call) → AllWhole m → AllWhole (after_call m x)
whole_call m (Add k) all = after_add_keeps AllWhole m k (λ a b. whole_grown m k a all) all
whole_call m (Put o c w) all = after_store_keeps AllWhole m o c w (λ a. whole_with m o c (plain w) a all) all
whole_call m (Exchange o c e w k) all = after_exchange_keeps AllWhole m o c e w k (λ a b. whole_with m o c (record { word = w; mark = k }) a all) all

-- A list of calls keeps what each of them keeps.
pub calls_keep : (m : Store) (xs : List Call) → Keeps m (after_calls m xs) xs
calls_keep m [] = record { room = refl; kinds = rw (take-nil (m.capacity - count_of m)) (sym (append-nil (kinds_in m))); cells = λ o c h. refl; marked = λ o c t h. refl; whole = λ all. all }
calls_keep m (x ∷ xs) =
    let n = after_call m x in
    let rest = calls_keep n xs in
    record {
      room = rest.room ∙ room_call m x;
      kinds = rest.kinds ∙ shown_call m x (asked xs);
      cells = λ o c h. let apart = or_parts (names o c x) (any_of (names o c) xs) h in rest.cells o c apart.1 ∙ cell_call m x o c apart.0;
      marked = λ o c t h.
          let apart = or_parts (stores_to o c x) (any_of (stores_to o c) xs) h in
          let kept = marked_call m x o c t apart.0 in
          rest.marked o c (ap (λ (v : Cell). v.mark) kept ∙ t) apart.1 ∙ kept;
      whole = λ all. rest.whole (whole_call m x all);
    }
