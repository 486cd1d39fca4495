-- One list of types and a short list of open blocks stand for the state before a record.
use Rattle.std.proofs.Common.{◌≡◌, ℕ, suc, ◌+◌, ◌-◌, ◌<◌, ◌≤◌, eqb, List, [], ◌∷◌, reverse, length, set, Some, None, Ok, Err, Option, sym, refl, ap, ◌∙◌, subst, arith, length-take}
use mathlib.Core.Path.{subst⁻¹}
use Rattle.std.proofs.lemmas.List.{length-reverse, take-append-le}
use Rattle.std.proofs.lemmas.Bool.{ne_eqb, cond-false}
use Rattle.table.specs.declared.fault.Fault.{Fault}
use Rattle.table.specs.declared.types.Ty.{Ty}
use Rattle.table.specs.declared.records.Test.{Test}
use Rattle.table.specs.declared.records.Record as declared
use Rattle.table.specs.declared.records.Record.TheVariants as coded
use Rattle.table.specs.declared.fault.Place.TheVariants.{Record}
use Rattle.table.specs.Faults.{fault, ◌>>=◌}
use Rattle.table.specs.Records.{Op, Ask, meant}
use Rattle.table.specs.Program.{Function, Program}
use Rattle.list.specs.Held.{held, room, last_of, popped, pushed}
use Rattle.list.proofs.Ends.{reverse_last, reverse_push, last_none, popped_less}
use Rattle.rules.specs.declared.body.Body.{Body}
use Rattle.rules.specs.declared.parts.Part.{Part}
use Rattle.rules.specs.declared.parts.Sort.{Sort}
use Rattle.rules.specs.declared.nesting.Blocks.{Blocks}
use Rattle.rules.specs.declared.nesting.Open.{Open}
use Rattle.rules.specs.Scopes.{Block, Yes, No, State, state, end, saved, close, end_of, depth, Shape, shape, grown, move, settled, refusal, after}
use Rattle.rules.specs.Scan.{sort_of, judge, judged_of}
use Rattle.rules.specs.Parts.{judged_at}
use Rattle.rules.specs.Seen.{program_in, function_in}
use Rattle.rules.specs.Rules.{record_at, first, asks, bound, yes_types}
use Rattle.rules.proofs.Blocks.{close_no, close_yes, close_turn}
use Rattle.rules.proofs.Scan.{judged_same}
use Rattle.rules.proofs.InScope.{push_all, back_length, back_again}
use Rattle.rules.proofs.Judging.{no_test, settle_ok, accepted_test}
use Rattle.rules.specs.declared.in_scope.Saved.{Saved}
use Rattle.rules.specs.InScope.{back}
use Rattle.rules.specs.Stacks.{block_by, sort_by, following, blocks_of, state_of, stack, Deep, part_at, Behind}

-- the innermost block
pub part_some : (size i l : ℕ) (xs : List Open) (o : Open) (q : Sort) → Some o ≡ last_of xs → l ≡ length xs → q ≡ sort_by o.count
    → record { place = i; end = o.end; levels = 7 - l; sort = q; floor = o.saved.depth } ≡ part_at size i (reverse xs)
part_some size i l xs o q h n s =
    let e = reverse_last xs o h in
    let m : l ≡ length (o ∷ reverse (popped xs)) = n ∙ sym (length-reverse xs) ∙ ap length e in
    let k : Part = record { place = i; end = o.end; levels = 7 - l; sort = q; floor = o.saved.depth } in
    let x : k ≡ part_at size i (o ∷ reverse (popped xs)) = cc in
    x ∙ ap (part_at size i) (sym e)

pub part_none : (size i l : ℕ) (w : Part) (xs : List Open) → None ≡ last_of xs → l ≡ length xs → w ≡ part_at size 0 []
    → record { place = i; end = w.end; levels = 7 - l; sort = w.sort; floor = w.floor } ≡ part_at size i (reverse xs)
part_none size i l w xs h m s =
    let e : xs ≡ [] = last_none xs h in
    let z : l ≡ 0 = m ∙ ap length e in
    let k : Part = record { place = i; end = w.end; levels = 7 - l; sort = w.sort; floor = w.floor } in
    let x : k ≡ part_at size i [] = rw (z, s) refl in
    x ∙ ap (λ ys. part_at size i (reverse ys)) (sym e)

-- by the last of the list, if any, and the whole body
abbrev pub part_by : ℕ → ℕ → Part → Option Open → Part
part_by i l w None = record { place = i; end = w.end; levels = 7 - l; sort = w.sort; floor = w.floor }
part_by i l w (Some o) = record { place = i; end = o.end; levels = 7 - l; sort = sort_by o.count; floor = o.saved.depth }

pub part_is : (size i l : ℕ) (w : Part) (xs : List Open) (o : Option Open) → o ≡ last_of xs → l ≡ length xs → w ≡ part_at size 0 []
    → part_by i l w o ≡ part_at size i (reverse xs)
part_is size i l w xs None h m s = part_none size i l w xs h m s
part_is size i l w xs (Some o) h m s = part_some size i l xs o (sort_by o.count) h m refl

-- one more open block, where there is room
pub stacked : (room : ℕ) (hs gs : List Open) (o : Open) → length hs < room → gs ≡ pushed room hs o → reverse gs ≡ o ∷ reverse hs
stacked room hs gs o l h = ap reverse (push_all room hs gs o l h) ∙ reverse_push hs o

-- a test's yes block is opened
module _ (room : ℕ) (ts vs : List Ty) (e k : ℕ) (s : Saved) (hs gs : List Open) (less : length hs < room)
    (grew : gs ≡ pushed room hs (record { end = e; count = Some k; saved = s })) where
  abbrev opened : Open
  opened = record { end = e; count = Some k; saved = s }

  pub open_state : (us : List Ty) → vs ≡ us → back vs s ≡ ts → state_of vs (reverse gs) ≡ state us (Yes k e ts ∷ blocks_of ts (reverse hs))
  open_state us u b =
      ap (λ (os : List Open). state_of vs os) (stacked room hs gs opened less grew)
      ∙ ap (λ (ws : List Ty). state vs (Yes k e ws ∷ blocks_of ws (reverse hs))) b
      ∙ ap (λ (ws : List Ty). state ws (Yes k e ts ∷ blocks_of ts (reverse hs))) u

  pub open_deep : s.depth ≡ length vs → s.slot < s.depth → length vs ≡ length ts → Deep (length ts) (reverse hs) → Deep (length vs) (reverse gs)
  open_deep d x l h =
      let n : length ts ≡ s.depth = omega arith in
      subst⁻¹ (Deep (length vs)) (stacked room hs gs opened less grew) (omega arith, x, subst (λ (m : ℕ). Deep m (reverse hs)) n h)

-- blocks that end before record n
pub close_later : (c : Option ℕ) (e n : ℕ) (ts s : List Ty) (bs : List Block) → (e ≡ n → ⊥) → close n ts (block_by c e s ∷ bs) ≡ state ts (block_by c e s ∷ bs)
close_later None e n ts s bs h = cond-false (eqb e n) _ _ (ne_eqb e n h)
close_later (Some k) e n ts s bs h = cond-false (eqb e n) _ _ (ne_eqb e n h)

pub close_on : (c : Option ℕ) (e n : ℕ) (ts s : List Ty) (bs : List Block) → e ≡ n → following c ≡ 0 → close n ts (block_by c e s ∷ bs) ≡ close n s bs
close_on None e n ts s bs h z = close_no n e ts s bs h
close_on (Some k) e n ts s bs h z = close_yes n k e ts s bs h z

pub close_over : (c : Option ℕ) (e n : ℕ) (ts s : List Ty) (bs : List Block) → e ≡ n → (following c ≡ 0 → ⊥) → close n ts (block_by c e s ∷ bs) ≡ state s (No (n + following c) s ∷ bs)
close_over None e n ts s bs h z = absurd (z refl)
close_over (Some k) e n ts s bs h z = close_turn n k e ts s bs h z

pub top_deep : (d : ℕ) (hs : List Open) (o : Open) → Some o ≡ last_of hs → Deep d (reverse hs) → (o.saved.depth ≤ d) × (o.saved.slot < o.saved.depth) × Deep o.saved.depth (reverse (popped hs))
top_deep d hs o top deep = subst (Deep d) (reverse_last hs o top) deep

module _ (n : ℕ) (ts : List Ty) (hs : List Open) where
  abbrev Closed : State
  Closed = close n ts (blocks_of ts (reverse hs))

  pub end_none : None ≡ last_of hs → state_of ts (reverse hs) ≡ Closed
  end_none h = let e : hs ≡ [] = last_none hs h in rw e refl

  module _ (o : Open) (top : Some o ≡ last_of hs) where
    pub end_later : (o.end ≡ n → ⊥) → state_of ts (reverse hs) ≡ Closed
    end_later h =
        let later : state_of ts (o ∷ reverse (popped hs)) ≡ close n ts (blocks_of ts (o ∷ reverse (popped hs))) =
        sym (close_later o.count o.end n ts (back ts o.saved) (blocks_of (back ts o.saved) (reverse (popped hs))) h)
        in
        subst⁻¹ (λ (os : List Open). state_of ts os ≡ close n ts (blocks_of ts os)) (reverse_last hs o top) later

    -- the types that are back, and the blocks below
    module _ (us : List Ty) (gs : List Open) (ends : o.end ≡ n) (deep : Deep (length ts) (reverse hs)) (u : us ≡ back ts o.saved) (g : gs ≡ popped hs) where
      abbrev Below : List Block
      Below = blocks_of (back ts o.saved) (reverse (popped hs))

      abbrev at_top : (o.saved.depth ≤ length ts) × (o.saved.slot < o.saved.depth) × Deep o.saved.depth (reverse (popped hs))
      at_top = top_deep (length ts) hs o top deep

      pub back_depth : length us ≡ o.saved.depth
      back_depth = ap length u ∙ back_length ts o.saved at_top.0

      pub back_deep : Deep (length us) (reverse gs)
      back_deep =
          subst⁻¹ (λ (m : ℕ). Deep m (reverse gs)) back_depth (subst⁻¹ (λ (os : List Open). Deep o.saved.depth (reverse os)) g at_top.2)

      pub end_on : (S : State) → following o.count ≡ 0 → S ≡ close n us (blocks_of us (reverse gs)) → S ≡ Closed
      end_on S z s =
          s
          ∙ ap (λ (ws : List Ty). close n ws (blocks_of ws (reverse gs))) u
          ∙ ap (λ (os : List Open). close n (back ts o.saved) (blocks_of (back ts o.saved) (reverse os))) g
          ∙ sym (close_on o.count o.end n ts (back ts o.saved) Below ends z)
          ∙ ap (λ (os : List Open). close n ts (blocks_of ts os)) (sym (reverse_last hs o top))

      module _ (room e : ℕ) (ks : List Open) (low : length hs ≤ room) (grew : ks ≡ pushed room gs (record { end = e; count = None; saved = o.saved })) where
        abbrev turned : Open
        turned = record { end = e; count = None; saved = o.saved }

        pub turn_stack : reverse ks ≡ turned ∷ reverse (popped hs)
        turn_stack =
            let less : length gs < room = omega (arith, popped_less hs o top, ap length g) in
            stacked room gs ks turned less grew ∙ ap (λ (os : List Open). turned ∷ reverse os) g

        pub end_over : (following o.count ≡ 0 → ⊥) → e ≡ n + following o.count → state_of us (reverse ks) ≡ Closed
        end_over z s =
            ap (λ (ws : List Ty). state_of ws (reverse ks)) u
            ∙ ap (λ (os : List Open). state_of (back ts o.saved) os) turn_stack
            ∙ ap (λ (ws : List Ty). state (back ts o.saved) (No e ws ∷ blocks_of ws (reverse (popped hs)))) (back_again ts o.saved at_top.0)
            ∙ ap (λ (m : ℕ). state (back ts o.saved) (No m (back ts o.saved) ∷ Below)) s
            ∙ sym (close_over o.count o.end n ts (back ts o.saved) Below ends z)
            ∙ ap (λ (os : List Open). close n ts (blocks_of ts os)) (sym (reverse_last hs o top))

        pub over_deep : Deep (length us) (reverse ks)
        over_deep =
            subst⁻¹ (λ (m : ℕ). Deep m (reverse ks)) back_depth (subst⁻¹ (Deep o.saved.depth) turn_stack (omega arith, at_top.1, at_top.2))

-- what is bound lies above every open block
pub blocks_grown : (ts : List Ty) (os : List Open) (u : Option Ty) → Deep (length ts) os → blocks_of (grown ts u) os ≡ blocks_of ts os
blocks_grown ts [] u h = refl
blocks_grown ts (o ∷ os) None h = refl
blocks_grown ts (o ∷ os) (Some t) h =
    ap (λ (vs : List Ty). block_by o.count o.end (set vs o.saved.slot o.saved.was) ∷ blocks_of (set vs o.saved.slot o.saved.was) os) (take-append-le o.saved.depth ts (t ∷ []) h.0)

pub deep_more : (m n : ℕ) (os : List Open) → m ≤ n → Deep m os → Deep n os
deep_more m n [] h d = tt
deep_more m n (o ∷ os) h d = (omega (arith, d.0), d.1, d.2)

-- the innermost block, as the definition has it
pub blocks_length : (ts : List Ty) (os : List Open) → length (blocks_of ts os) ≡ length os
blocks_length ts [] = refl
blocks_length ts (o ∷ os) = ap suc (blocks_length (back ts o.saved) os)

pub end_by : (c : Option ℕ) (e : ℕ) (s : List Ty) → end (block_by c e s) ≡ e
end_by None e s = refl
end_by (Some k) e s = refl

pub saved_by : (c : Option ℕ) (e : ℕ) (s : List Ty) → saved (block_by c e s) ≡ s
saved_by None e s = refl
saved_by (Some k) e s = refl

pub sort_is : (c : Option ℕ) (e : ℕ) (s : List Ty) (bs : List Block) → sort_of (block_by c e s ∷ bs) ≡ sort_by c
sort_is None e s bs = refl
sort_is (Some k) e s bs = refl

pub part_end : (size i : ℕ) (ts : List Ty) (os : List Open) → end_of size (blocks_of ts os) ≡ (part_at size i os).end
part_end size i ts [] = refl
part_end size i ts (o ∷ os) = end_by o.count o.end (back ts o.saved)

pub part_sort : (size i : ℕ) (ts : List Ty) (os : List Open) → sort_of (blocks_of ts os) ≡ (part_at size i os).sort
part_sort size i ts [] = refl
part_sort size i ts (o ∷ os) = sort_is o.count o.end (back ts o.saved) (blocks_of (back ts o.saved) os)

pub part_place : (size i : ℕ) (os : List Open) → (part_at size i os).place ≡ i
part_place size i [] = refl
part_place size i (o ∷ os) = refl

pub part_levels : (size i : ℕ) (ts : List Ty) (os : List Open) → length os ≤ 7 → (part_at size i os).levels + length (blocks_of ts os) ≡ 7
part_levels size i ts [] h = refl
part_levels size i ts (o ∷ os) h = let n = blocks_length ts (o ∷ os) in omega arith

pub part_floor : (size i : ℕ) (ts : List Ty) (os : List Open) → Deep (length ts) os → depth (blocks_of ts os) ≡ (part_at size i os).floor
part_floor size i ts [] h = refl
part_floor size i ts (o ∷ os) h = ap length (saved_by o.count o.end (back ts o.saved)) ∙ back_length ts o.saved h.0

pub floor_low : (size i d : ℕ) (os : List Open) → Deep d os → (part_at size i os).floor ≤ d
floor_low size i d [] h = omega arith
floor_low size i d (o ∷ os) h = h.0

-- a refusal, and a record that is not refused
pub settled_err : (v : Option ℕ) (k i : ℕ) (op : Op) (e : Fault) → Err e ≡ (settled v k i >>= λ _. Ok op) → Err e ≡ settled v k i
settled_err None k i op e h = let z : ◌≡◌ {A = ℕ} 0 1 = cc in absurd (omega arith)
settled_err (Some n) k i op e h = cc

module _ (p : Program) (fn : Function) (k i l n : ℕ) (ts : List Ty) (bs : List Block) (ends : end_of (length fn.records) bs ≡ suc i + n) (levels : l + length bs ≡ 7) (deep : depth bs ≤ length ts) where
  pub judged_refusal : (o : Option Op) (e : Fault) → Err e ≡ judged_of p fn k l n (sort_of bs) ts i o → Err e ≡ settled (refusal p fn i (state ts bs) o) k i
  judged_refusal None e h = let x : e ≡ fault 20 (Record k i) = cc in ap Err x
  judged_refusal (Some op) e h =
      settled_err (judge p fn k l n (sort_of bs) ts (Some op)) k i op e h ∙ ap (λ (v : Option ℕ). settled v k i) (sym (judged_same p fn k i l n ts bs op ends levels deep))

  pub judged_allowed : (o : Option Op) (op : Op) → Ok op ≡ judged_of p fn k l n (sort_of bs) ts i o → (o ≡ Some op) × (refusal p fn i (state ts bs) o ≡ None)
  judged_allowed None op h = let z : ◌≡◌ {A = ℕ} 0 1 = cc in absurd (omega arith)
  judged_allowed (Some x) op h =
      let a = settle_ok (judge p fn k l n (sort_of bs) ts (Some x)) k i x op h in
      (ap Some a.1, judged_same p fn k i l n ts bs x ends levels deep ∙ a.0)

-- record i of a body is the first of what is left of the innermost block
pub record First (b : Body) (i : ℕ) (ts : List Ty) (os : List Open) (q : Part) : Type 0 where
  pub is : q ≡ part_at (length (function_in b).records) i os
  pub few : length os ≤ 7
  pub deep : Deep (length ts) os
  pub low : i < end_of (length (function_in b).records) (blocks_of ts os)

pub first_of : (b : Body) (i : ℕ) (ts : List Ty) (s : Blocks) (q : Part) → q ≡ part_at (length (function_in b).records) i (stack s) → Deep (length ts) (stack s)
    → i < end_of (length (function_in b).records) (blocks_of ts (stack s)) → First b i ts (stack s) q
first_of b i ts s q is deep low = record {
  is = is;
  few = omega (arith, length-reverse (held s.list.now), length-take s.list.now.len s.list.now.items.now, s.seven);
  deep = deep;
  low = low;
}

module _ (b : Body) (i : ℕ) (ts : List Ty) (os : List Open) (q : Part) (w : First b i ts os q) where
  abbrev size : ℕ
  size = length (function_in b).records

  abbrev S : State
  S = state_of ts os

  abbrev r : Option Op
  r = record_at (function_in b) i

  pub at_place : q.place ≡ i
  at_place = ap (λ (x : Part). x.place) w.is ∙ part_place size i os

  pub at_end : end_of size (blocks_of ts os) ≡ q.end
  at_end = part_end size i ts os ∙ ap (λ (x : Part). x.end) (sym w.is)

  pub starts : q.place < q.end
  starts = let a = at_place in let e = at_end in omega (arith, w.low)

  pub floored : q.floor ≤ length ts
  floored = let f = floor_low size i (length ts) os w.deep in let g : q.floor ≡ (part_at size i os).floor = ap (λ (x : Part). x.floor) w.is in omega arith

  abbrev left : ℕ
  left = q.end - (q.place + 1)

  pub ends_left : end_of size (blocks_of ts os) ≡ suc i + left
  ends_left = let a = at_place in let e = at_end in omega (arith, w.low)

  pub levels_left_of : q.levels + length (blocks_of ts os) ≡ 7
  levels_left_of = ap (λ (x : Part). x.levels + length (blocks_of ts os)) w.is ∙ part_levels size i ts os w.few

  pub deep_enough : depth (blocks_of ts os) ≤ length ts
  deep_enough = let f = floor_low size i (length ts) os w.deep in let g = part_floor size i ts os w.deep in omega arith

  pub judged_here : judged_at b ts q ≡ judged_of (program_in b) (function_in b) b.function q.levels left (sort_of (blocks_of ts os)) ts i r
  judged_here =
      let s : q.sort ≡ sort_of (blocks_of ts os) = ap (λ (x : Part). x.sort) w.is ∙ sym (part_sort size i ts os) in
      ap (λ (y : Sort). judged_of (program_in b) (function_in b) b.function q.levels left y ts q.place (record_at (function_in b) q.place)) s
      ∙ ap (λ (n : ℕ). judged_of (program_in b) (function_in b) b.function q.levels left (sort_of (blocks_of ts os)) ts n (record_at (function_in b) n)) at_place

  pub passed_not : (e : Fault) → Err e ≡ judged_at b ts q → Err e ≡ settled (refusal (program_in b) (function_in b) i S r) b.function i
  passed_not e h = judged_refusal (program_in b) (function_in b) b.function i q.levels left ts (blocks_of ts os) ends_left levels_left_of deep_enough r e (h ∙ judged_here)

  pub passed_on : (op : Op) → Ok op ≡ judged_at b ts q → (r ≡ Some op) × (refusal (program_in b) (function_in b) i S r ≡ None)
  passed_on op h = judged_allowed (program_in b) (function_in b) b.function i q.levels left ts (blocks_of ts os) ends_left levels_left_of deep_enough r op (h ∙ judged_here)

  -- a test that is not refused
  pub asked_here : (op : Op) (t : Test) (x y : ℕ) → op ≡ Ask t x y → Ok op ≡ judged_at b ts q → (i + 1 + x + y ≤ q.end) × (length os < 7) × (first (asks (program_in b) (function_in b) ts t) ≡ None)
  asked_here op t x y e h =
      let a = accepted_test (program_in b) (function_in b) b.function q.levels q.place q.end q.sort ts (record_at (function_in b) q.place) op t x y starts e h in
      let n = blocks_length ts os in
      let l = levels_left_of in
      let m = at_place in
      (omega (arith, a.0), omega (arith, a.1), a.2)

  -- the state behind it
  pub behind_test : (op : Op) (t : Test) (x y m : ℕ) (us : List Ty) (ks : List Open) → op ≡ Ask t x y → Ok op ≡ judged_at b ts q → m ≡ suc i + x
      → state_of us ks ≡ state (yes_types (program_in b) (function_in b) ts t) (Yes y m ts ∷ blocks_of ts os) → Deep (length us) ks → Behind b i S us ks
  behind_test op t x y m us ks e h j s k =
      let a = passed_on op h in
      let o : r ≡ Some (Ask t x y) = a.0 ∙ ap Some e in
      record {
        allowed = a.1;
        is = s ∙ ap (λ (z : ℕ). state (yes_types (program_in b) (function_in b) ts t) (Yes y z ts ∷ blocks_of ts os)) j
            ∙ ap (after (program_in b) (function_in b) i S) (sym o);
        deep = k;
      }

  pub behind_plain : (c : declared.Record) (m : ℕ) (us vs : List Ty) (ks : List Open) → ((t : Test) (x y : ℕ) → c ≡ coded.Ask t x y → ⊥) → Ok (meant c) ≡ judged_at b ts q → m ≡ suc i
      → us ≡ grown ts (bound (program_in b) (function_in b) ts (meant c))
      → state_of vs ks ≡ close m us (blocks_of us os) → Deep (length vs) ks → Behind b i S vs ks
  behind_plain c m us vs ks other h j u s k =
      let a = passed_on (meant c) h in
      let zs : List Ty = grown ts (bound (program_in b) (function_in b) ts (meant c)) in
      let moved : move i S zs (yes_types (program_in b) (function_in b) ts) (shape (meant c)) ≡ close (suc i) zs (blocks_of ts os) =
      no_test (λ (sh : Shape). move i S zs (yes_types (program_in b) (function_in b) ts) sh ≡ close (suc i) zs (blocks_of ts os)) refl refl (λ x. refl) c other
      in
      record {
        allowed = a.1;
        is = s ∙ ap (λ (ws : List Ty). close m ws (blocks_of ws os)) u
            ∙ ap (λ (bs : List Block). close m zs bs) (blocks_grown ts os (bound (program_in b) (function_in b) ts (meant c)) w.deep)
            ∙ ap (λ (x : ℕ). close x zs (blocks_of ts os)) j
            ∙ sym moved
            ∙ ap (after (program_in b) (function_in b) i S) (sym a.0);
        deep = k;
      }
