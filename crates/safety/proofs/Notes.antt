-- An accepted program is checked: its scopes, with the types that come back, fit it record by record.
use Rattle.std.proofs.Common.{◌≡◌, ℕ, zero, suc, ◌+◌, ◌<◌, ◌≤◌, Bool, true, false, cond, not, ◌&&◌, eqb, ◌⊎◌, List, [], ◌∷◌, ◌++◌, map, length, get_or, set, Some, None, Ok, Option, sym, refl, ap, ◌∙◌, subst, ap₂, inl, inr, arith}
use mathlib.Core.Path.{subst⁻¹, fun_ext}
use Rattle.std.proofs.lemmas.List.{nil_from_length}
use Rattle.std.proofs.lemmas.Bool.{eqb-true, eqb-false, eq-eqb, and_parts, or_cases, not-true, cases_eq, cond_both}
use Rattle.table.specs.declared.types.Kind.{Kind}
use Rattle.table.specs.declared.types.Kind.TheVariants.{Number, Alias, Owned, Pristine}
use Rattle.table.specs.declared.types.Ty.{Ty}
use Rattle.table.specs.Program.{Function, Program}
use Rattle.table.specs.Types.{keeps, kind_of}
use Rattle.table.specs.declared.records.Test.{Test}
use Rattle.table.specs.declared.records.Test.TheVariants.{Nil, Same, Equal, Less, Link, Unlink, Swap, Try, Fix, Stable}
use Rattle.table.specs.Records.{Op, New, Null, Int, Share, Own, Get, Take, Set, Add, Call, Fork, Return, Again, Join, Emit, Ask}
use Rattle.rules.specs.Rules.{first, callee, slot, premises, bound, yes_types, record_at}
use Rattle.rules.specs.Scopes.{Block, Yes, No, State, state, saved, close, end_of, in_no, Shape, Plain, shape, placed, grown, before, verdict, after}
use Rattle.rules.specs.Blocks.{Accepted, Kept, Nested}
use Rattle.rules.specs.Formed.{Formed, Shaped, Wide}
use Rattle.rules.proofs.Steps.{good, before_suc, verdict_stands}
use Rattle.rules.proofs.Blocks.{nested_at, nested_size, inside_size, two_blocks, joined}
use Rattle.rules.proofs.Types.{grown_length, grown_bound, kept_grown, kept_at, plain_moves}
use Rattle.rules.proofs.Fit.{fit_stands, slot_keeps}
use Rattle.safety.specs.Model as C
use Rattle.safety.specs.Threads.{Suffix, FallsSc}
use Rattle.safety.specs.Checked.{by_kind, core, current, stack, stacks, entered, types, scopes, changes, more, pushed, To, Leads, Fine, Checked}
use Rattle.safety.specs.Notes.{same, over, annotate, notes, kind_byte}
use Rattle.safety.specs.Owners.{types_before}
use Rattle.safety.proofs.Meaning.{never}
use Rattle.safety.proofs.Passing.{falls_refl}
use Rattle.safety.proofs.Ground.{current_length}

-- one type
-- a kind is what its byte says
kind_back : (k : Kind) → kind_of (kind_byte k) ≡ k
kind_back Number = refl
kind_back Alias = refl
kind_back Owned = refl
kind_back Pristine = refl

kind_same : (k k' : Kind) → eqb (kind_byte k) (kind_byte k') ≡ true → k ≡ k'
kind_same k k' h = sym (kind_back k) ∙ ap kind_of (eqb-true (kind_byte k) (kind_byte k') h) ∙ kind_back k'

core_same : (t u : Ty) → same t u ≡ true → core t ≡ core u
core_same t u h =
    let a = and_parts (eqb (kind_byte t.kind) (kind_byte u.kind) && eqb t.strukt u.strukt) (eqb t.withheld u.withheld) h in
    let b = and_parts (eqb (kind_byte t.kind) (kind_byte u.kind)) (eqb t.strukt u.strukt) a.0 in
    ap (λ (k : Kind). by_kind k t.strukt t.withheld) (kind_same t.kind u.kind b.0) ∙ ap₂ (λ (s w : ℕ). by_kind u.kind s w) (eqb-true _ _ b.1) (eqb-true _ _ a.1)

same_refl : (t : Ty) → same t t ≡ true
same_refl t = rw (eq-eqb (kind_byte t.kind) (kind_byte t.kind) refl, eq-eqb t.strukt t.strukt refl, eq-eqb t.withheld t.withheld refl) refl

-- scopes that fall
suffix_refl : (ts : List C.Claim) → Suffix ts ts
suffix_refl [] = refl
suffix_refl (t ∷ ts) = inl refl

suffix_trans : (ts us vs : List C.Claim) → Suffix ts us → Suffix us vs → Suffix ts vs
suffix_trans [] us vs e h = subst⁻¹ (λ (l : List C.Claim). Suffix l vs) e h
suffix_trans (t ∷ ts) us vs (inl e) h = subst⁻¹ (λ (l : List C.Claim). Suffix l vs) e h
suffix_trans (t ∷ ts) us vs (inr k) h = inr (suffix_trans ts us vs k h)

falls_trans : (a b c : List (List C.Claim)) → FallsSc a b → FallsSc b c → FallsSc a c
falls_trans a b [] h k = tt
falls_trans a [] (w ∷ c) h k = absurd k
falls_trans [] (v ∷ b) (w ∷ c) h k = absurd h
falls_trans (u ∷ a) (v ∷ b) (w ∷ c) h k = (suffix_trans u v w h.0 k.0, falls_trans a b c h.1 k.1)

-- the annotation has the types, and as many slots
current_entered : (ts : List Ty) → current (entered ts) ≡ ts
current_entered [] = refl
current_entered (t ∷ ts) = ap (λ (l : List Ty). t ∷ l) (current_entered ts)

current_over : (ts : List Ty) (l : List (Ty × List Ty)) → current (over ts l) ≡ ts
current_over [] l = refl
current_over (t ∷ ts) [] = ap (λ (k : List Ty). t ∷ k) (current_over ts [])
current_over (t ∷ ts) (a ∷ l) = ap (λ (k : List Ty). t ∷ k) (current_over ts l)

current_annotate : (ts : List Ty) (bs : List Block) → current (annotate ts bs) ≡ ts
current_annotate ts [] = current_entered ts
current_annotate ts (b ∷ bs) = current_over ts (annotate (saved b) bs)

annotate_length : (ts : List Ty) (bs : List Block) → length (annotate ts bs) ≡ length ts
annotate_length ts bs = sym (current_length (annotate ts bs)) ∙ ap length (current_annotate ts bs)

-- over themselves, over what comes back, with one more, and with one changed
over_self : (l : List (Ty × List Ty)) → over (current l) l ≡ l
over_self [] = refl
over_self (a ∷ l) = rw (same_refl a.0) (ap (λ (k : List (Ty × List Ty)). a ∷ k) (over_self l))

over_suffix : (t : Ty) (a : Ty × List Ty) (b : Bool) → same t a.0 ≡ b → Suffix (core t ∷ map core (cond b a.1 (a.0 ∷ a.1))) (core a.0 ∷ map core a.1)
over_suffix t a true e = inl (ap (λ (c : C.Claim). c ∷ map core a.1) (core_same t a.0 e))
over_suffix t a false e = inr (inl refl)

over_falls : (ts : List Ty) (l : List (Ty × List Ty)) → length l ≤ length ts → FallsSc (stacks (over ts l)) (stacks l)
over_falls ts [] h = tt
over_falls [] (a ∷ l) h = absurd (omega arith)
over_falls (t ∷ ts) (a ∷ l) h = (over_suffix t a (same t a.0) refl, over_falls ts l (omega arith))

over_push : (ts : List Ty) (l : List (Ty × List Ty)) (t : Ty) → length l ≤ length ts → over (ts ++ (t ∷ [])) l ≡ over ts l ++ ((t, []) ∷ [])
over_push [] [] t h = refl
over_push [] (a ∷ l) t h = absurd (omega arith)
over_push (u ∷ ts) [] t h = ap (λ (k : List (Ty × List Ty)). (u, []) ∷ k) (over_push ts [] t (omega arith))
over_push (u ∷ ts) (a ∷ l) t h = ap (λ (k : List (Ty × List Ty)). (u, cond (same u a.0) a.1 (a.0 ∷ a.1)) ∷ k) (over_push ts l t (omega arith))

entered_push : (ts : List Ty) (t : Ty) → entered (ts ++ (t ∷ [])) ≡ entered ts ++ ((t, []) ∷ [])
entered_push [] t = refl
entered_push (u ∷ ts) t = ap (λ (k : List (Ty × List Ty)). (u, []) ∷ k) (entered_push ts t)

stacks_push : (l : List (Ty × List Ty)) (t : Ty) → stacks (l ++ ((t, []) ∷ [])) ≡ stacks l ++ ((core t ∷ []) ∷ [])
stacks_push [] t = refl
stacks_push (a ∷ l) t = ap (λ (k : List (List C.Claim)). stack a ∷ k) (stacks_push l t)

changed_suffix : (u : Ty) (a : Ty × List Ty) (b : Bool) → same u a.0 ≡ b → Suffix (core u ∷ stack a) (core u ∷ map core (cond b a.1 (a.0 ∷ a.1)))
changed_suffix u a true e = inr (inl (ap (λ (c : C.Claim). c ∷ map core a.1) (sym (core_same u a.0 e))))
changed_suffix u a false e = inl refl

changed_falls : (l : List (Ty × List Ty)) (y : ℕ) (u : Ty) → FallsSc (set (stacks l) y (core u ∷ get_or (stacks l) y [])) (stacks (over (set (current l) y u) l))
changed_falls [] y u = tt
changed_falls (a ∷ l) zero u = (changed_suffix u a (same u a.0) refl, subst⁻¹ (λ (k : List (Ty × List Ty)). FallsSc (stacks l) (stacks k)) (over_self l) (falls_refl (stacks l)))
changed_falls (a ∷ l) (suc y) u = (subst⁻¹ (λ (b : Bool). Suffix (stack a) (core a.0 ∷ map core (cond b a.1 (a.0 ∷ a.1)))) (same_refl a.0) (suffix_refl (stack a)), changed_falls l y u)

-- types behind a record, over the open blocks
grown_notes : (ts : List Ty) (bs : List Block) (o : Option Ty) → Kept ts bs → stacks (annotate (grown ts o) bs) ≡ more (stacks (annotate ts bs)) o
grown_notes ts bs None k = refl
grown_notes ts [] (Some t) k = ap stacks (entered_push ts t) ∙ stacks_push (entered ts) t
grown_notes ts (b ∷ bs) (Some t) k =
    let e = annotate_length (saved b) bs in
    let g = grown_length (saved b) ts k.0 in
    ap stacks (over_push ts (annotate (saved b) bs) t (omega arith)) ∙ stacks_push (over ts (annotate (saved b) bs)) t

-- blocks that end
abbrev state_stacks : State → List (List C.Claim)
state_stacks S = stacks (annotate S.types S.blocks)

back_falls : (ts : List Ty) (b : Block) (bs : List Block) → Kept ts (b ∷ bs) → FallsSc (stacks (annotate ts (b ∷ bs))) (stacks (annotate (saved b) bs))
back_falls ts b bs k =
    let e = annotate_length (saved b) bs in
    let g = grown_length (saved b) ts k.0 in
    over_falls ts (annotate (saved b) bs) (omega arith)

turned : (s : List Ty) (b : Block) (bs : List Block) → saved b ≡ s → stacks (annotate s (b ∷ bs)) ≡ stacks (annotate s bs)
turned s b bs e =
    ap (λ (l : List Ty). stacks (over s (annotate l bs))) e ∙ ap (λ (l : List Ty). stacks (over l (annotate s bs))) (sym (current_annotate s bs)) ∙ ap stacks (over_self (annotate s bs))

close_falls : (n : ℕ) (ts : List Ty) (bs : List Block) → Kept ts bs → FallsSc (stacks (annotate ts bs)) (state_stacks (close n ts bs))
close_falls n ts [] k = falls_refl (stacks (annotate ts []))
close_falls n ts (Yes c e s ∷ bs) k =
    let deeper = close_falls n s bs k.1 in
    let here = back_falls ts (Yes c e s) bs k in
    cond_both (eqb e n) (cond (eqb c 0) (close n s bs) (state s (No (n + c) s ∷ bs))) (state ts (Yes c e s ∷ bs)) (λ S. FallsSc (stacks (annotate ts (Yes c e s ∷ bs))) (state_stacks S))
    (λ _. cond_both (eqb c 0) (close n s bs) (state s (No (n + c) s ∷ bs)) (λ S. FallsSc (stacks (annotate ts (Yes c e s ∷ bs))) (state_stacks S))
    (λ _. falls_trans (stacks (annotate ts (Yes c e s ∷ bs))) (stacks (annotate s bs)) (state_stacks (close n s bs)) here deeper)
    (λ _. subst⁻¹ (λ (l : List (List C.Claim)). FallsSc (stacks (annotate ts (Yes c e s ∷ bs))) l) (turned s (No (n + c) s) bs refl) here))
    (λ _. falls_refl (stacks (annotate ts (Yes c e s ∷ bs))))
close_falls n ts (No e s ∷ bs) k =
    let deeper = close_falls n s bs k.1 in
    let here = back_falls ts (No e s) bs k in
    cond_both (eqb e n) (close n s bs) (state ts (No e s ∷ bs)) (λ S. FallsSc (stacks (annotate ts (No e s ∷ bs))) (state_stacks S))
    (λ _. falls_trans (stacks (annotate ts (No e s ∷ bs))) (stacks (annotate s bs)) (state_stacks (close n s bs)) here deeper)
    (λ _. falls_refl (stacks (annotate ts (No e s ∷ bs))))

-- a yes block changes one slot
yes_falls : (p : Program) (fn : Function) (ts : List Ty) (bs : List Block) (b : Block) (t : Test) → saved b ≡ ts → FallsSc (pushed (stacks (annotate ts bs)) (changes p fn ts t)) (stacks (annotate (yes_types p fn ts t) (b ∷ bs)))
yes_falls p fn ts bs b t e = go t
  where
    stay : FallsSc (stacks (annotate ts bs)) (stacks (annotate ts (b ∷ bs)))
    stay = subst⁻¹ (λ (l : List (List C.Claim)). FallsSc (stacks (annotate ts bs)) l) (turned ts b bs e) (falls_refl (stacks (annotate ts bs)))

    one : (y : ℕ) (u : Ty) → FallsSc (set (stacks (annotate ts bs)) y (core u ∷ get_or (stacks (annotate ts bs)) y [])) (stacks (over (set ts y u) (annotate (saved b) bs)))
    one y u = subst⁻¹ (λ (l : List Ty). FallsSc (set (stacks (annotate ts bs)) y (core u ∷ get_or (stacks (annotate ts bs)) y [])) (stacks (over (set ts y u) (annotate l bs)))) e
        (subst (λ (l : List Ty). FallsSc (set (stacks (annotate ts bs)) y (core u ∷ get_or (stacks (annotate ts bs)) y [])) (stacks (over (set l y u) (annotate ts bs)))) (current_annotate ts bs) (changed_falls (annotate ts bs) y u))

    go : (t : Test) → FallsSc (pushed (stacks (annotate ts bs)) (changes p fn ts t)) (stacks (annotate (yes_types p fn ts t) (b ∷ bs)))
    go (Nil x) = stay
    go (Same x y) = stay
    go (Equal x y) = stay
    go (Less x y) = stay
    go (Link x f y g) = stay
    go (Unlink x f y g) = one y _
    go (Swap x f y w) = one y _
    go (Try x f y) = one x _
    go (Fix x f y) = one x _
    go (Stable x f) = one x _

-- each record leads to records whose scopes fall
module _ (p : Program) (formed : Formed p) (n : ℕ) (ok : Accepted p (callee p n)) where
  abbrev fn : Function
  fn = callee p n

  abbrev B : ℕ → State
  B i = before p (callee p n) i

  -- the types are those before the record
  now : (i : ℕ) → types (notes p) n i ≡ (B i).types
  now i = current_annotate (B i).types (B i).blocks

  kept : (i : ℕ) → i < length fn.records → Kept (B i).types (B i).blocks
  kept i l = kept_at p fn formed ok i (omega arith)

  next_there : (i : ℕ) → i < length fn.records → placed (length fn.records) i (B i).blocks Plain ≡ true → suc i < length fn.records
  next_there i l h =
      let w = nested_at p fn ok i l in
      go (B i).blocks w.0 w.1 (or_cases _ _ h)
    where
      go : (bs : List Block) → Nested (length fn.records) bs → i < end_of (length fn.records) bs
          → (not (eqb (suc i) (end_of (length fn.records) bs)) ≡ true) ⊎ (in_no bs ≡ true) → suc i < length fn.records
      go bs w k (inl q) = let a = eqb-false _ _ (not-true _ q) in let b = nested_size (length fn.records) bs w in omega arith
      go [] w k (inr q) = never q
      go (Yes c e s ∷ bs) w k (inr q) = never q
      go (No e s ∷ bs) w k (inr q) = let a = inside_size (length fn.records) e bs w.1 w.0 in omega arith

  plain : (i : ℕ) (op : Op) → i < length fn.records → record_at fn i ≡ Some op → placed (length fn.records) i (B i).blocks (shape op) ≡ true → shape op ≡ Plain
      → To p (notes p) n (suc i) (more (scopes (notes p) n i) (bound p fn (types (notes p) n i) op))
  plain i op l q h e =
      let o = bound p fn (B i).types op in
      let m : B (suc i) ≡ close (suc i) (grown (B i).types o) (B i).blocks =
      before_suc p fn i l ∙ ap (after p fn i (B i)) q ∙ plain_moves p fn formed ok i (B i) (grown (B i).types o) (yes_types p fn (B i).types) (shape op) e in (
        next_there i l (subst (λ (s : Shape). placed (length fn.records) i (B i).blocks s ≡ true) e h),
        subst⁻¹ (λ (ts : List Ty). FallsSc (more (scopes (notes p) n i) (bound p fn ts op)) (scopes (notes p) n (suc i))) (now i)
            (subst⁻¹ (λ (S : State). FallsSc (more (scopes (notes p) n i) o) (state_stacks S)) m
            (subst (λ (x : List (List C.Claim)). FallsSc x (state_stacks (close (suc i) (grown (B i).types o) (B i).blocks))) (grown_notes (B i).types (B i).blocks o (kept i l))
            (close_falls (suc i) (grown (B i).types o) (B i).blocks (kept_grown (B i).types (grown (B i).types o) (B i).blocks (kept i l) (grown_bound (B i).types o))))),
      )

  joins : (i k : ℕ) → i < length fn.records → record_at fn i ≡ Some (Join k) → To p (notes p) n (suc i + k) (scopes (notes p) n i)
  joins i k l q =
      let w = joined p fn ok i k l q in
      let c = subst (Kept (B i).types) w.block (kept i l) in (
        w.room,
        subst⁻¹ (λ (S : State). FallsSc (scopes (notes p) n i) (state_stacks S)) w.leads
            (subst⁻¹ (λ (bs : List Block). FallsSc (stacks (annotate (B i).types bs)) (state_stacks (close (suc i + k) w.back w.outer))) w.block
            (falls_trans (stacks (annotate (B i).types (Yes k (suc i) w.back ∷ w.outer))) (stacks (annotate w.back w.outer)) (state_stacks (close (suc i + k) w.back w.outer))
            (back_falls (B i).types (Yes k (suc i) w.back) w.outer c) (close_falls (suc i + k) w.back w.outer c.1))),
      )

  asked : (i : ℕ) (t : Test) (a b : ℕ) → i < length fn.records → record_at fn i ≡ Some (Ask t a b)
      → To p (notes p) n (suc i) (pushed (scopes (notes p) n i) (changes p fn (types (notes p) n i) t)) × To p (notes p) n (suc i + a) (scopes (notes p) n i)
  asked i t a b l q =
      let w = two_blocks p fn ok i t a b (l, q) in
      let room = w.room in
      let yes_there : suc i < length fn.records = omega arith in
      let no_there : suc i + a < length fn.records = omega arith in (
        (
          yes_there,
          subst⁻¹ (λ (ts : List Ty). FallsSc (pushed (scopes (notes p) n i) (changes p fn ts t)) (scopes (notes p) n (suc i))) (now i)
              (subst⁻¹ (λ (S : State). FallsSc (pushed (scopes (notes p) n i) (changes p fn (B i).types t)) (state_stacks S)) w.begins
              (yes_falls p fn (B i).types (B i).blocks (Yes b (suc i + a) (B i).types) t refl)),
        ),
        (
          no_there,
          elim (cases_eq b 0) [
            | inl z ↦ (let e : suc i + a + b ≡ suc i + a = omega arith in
                let m : B (suc i + a) ≡ close (suc i + a) (B i).types (B i).blocks = subst (λ (k : ℕ). B k ≡ close k (B i).types (B i).blocks) e w.comes_back in
                subst⁻¹ (λ (S : State). FallsSc (scopes (notes p) n i) (state_stacks S)) m (close_falls (suc i + a) (B i).types (B i).blocks (kept i l)))
            | inr z ↦ subst⁻¹ (λ (S : State). FallsSc (scopes (notes p) n i) (state_stacks S)) (w.turns (omega arith))
                (subst⁻¹ (λ (x : List (List C.Claim)). FallsSc (scopes (notes p) n i) x) (turned (B i).types (No (suc i + a + b) (B i).types) (B i).blocks refl) (falls_refl (scopes (notes p) n i)))
          ],
        ),
      )

  leads : (i : ℕ) (op : Op) → i < length fn.records → record_at fn i ≡ Some op → placed (length fn.records) i (B i).blocks (shape op) ≡ true → Leads p (notes p) n i op (shape op)
  leads i (New z s) l q h = plain i (New z s) l q h refl
  leads i (Null z s) l q h = plain i (Null z s) l q h refl
  leads i (Int z k) l q h = plain i (Int z k) l q h refl
  leads i (Share z x) l q h = plain i (Share z x) l q h refl
  leads i (Own z x) l q h = plain i (Own z x) l q h refl
  leads i (Get z x f) l q h = plain i (Get z x f) l q h refl
  leads i (Take z x f) l q h = plain i (Take z x f) l q h refl
  leads i (Set z x f y) l q h = plain i (Set z x f y) l q h refl
  leads i (Add z x y) l q h = plain i (Add z x y) l q h refl
  leads i (Call z k args) l q h = plain i (Call z k args) l q h refl
  leads i (Fork k args) l q h = plain i (Fork k args) l q h refl
  leads i (Return x) l q h = tt
  leads i (Again args) l q h = tt
  leads i (Join k) l q h = joins i k l q
  leads i (Emit x) l q h = plain i (Emit x) l q h refl
  leads i (Ask t a b) l q h = asked i t a b l q

pub accepted_checked : (p : Program) → Formed p → Shaped p → verdict p ≡ Ok tt → Checked p (notes p)
accepted_checked p formed shaped v = record {
  narrow = shaped.narrow;
  lasting = λ s f. (formed.fields s f).lasting;
  bare = shaped.bare;
  pointing = λ s f h. elim (or_cases _ _ h) [ inl q ↦ (formed.fields s f).once q | inr q ↦ (formed.fields s f).spec q ];
  main = shaped.main;
  brief = formed.few;
  alone = ap entered (nil_from_length (callee p 0).params formed.alone);
  begins = shaped.begins;
  params = λ n h. refl;
  fine = fine;
}
  where
    fine : (n i : ℕ) → n < length p.functions → i < length (callee p n).records → Fine p (notes p) n i
    fine n i hn hi =
        let ok = verdict_stands p v n hn in
        let g = good p (callee p n) i (before p (callee p n) i) (record_at (callee p n) i) (ok i hi) in
        let fit = fit_stands p n formed ok i (omega arith) in
        let e = current_annotate (before p (callee p n) i).types (before p (callee p n) i).blocks in
        record {
          op = g.op;
          is = g.is;
          held = subst⁻¹ (λ (ts : List Ty). first (premises p (callee p n) ts g.op) ≡ None) e g.held;
          leads = leads p formed n ok i g.op hi g.is g.place;
          bytes = subst Wide g.is (shaped.wide n i);
          few = (let a = annotate_length (before p (callee p n) i).types (before p (callee p n) i).blocks in let b = fit.slots in omega arith);
          kept = λ x. subst⁻¹ (λ (ts : List Ty). keeps p.structs (slot ts x) ≡ true) e (slot_keeps p.structs (before p (callee p n) i).types x fit.types);
        }

pub notes_types : (p : Program) → types (notes p) ≡ types_before p
notes_types p = fun_ext (λ n. fun_ext (λ i. current_annotate (before p (callee p n) i).types (before p (callee p n) i).blocks))
