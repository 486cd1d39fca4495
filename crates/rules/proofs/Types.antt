-- Types in scope only grow inside a block, and come back when it ends.
use Rattle.std.proofs.Common.{◌≡◌, ℕ, zero, suc, ◌+◌, ◌/◌, ◌%◌, ◌^◌, ◌<◌, ◌≤◌, Bool, true, false, cond, not, ◌&&◌, eqb, ◌⊎◌, List, [], ◌∷◌, ◌++◌, length, get_or, set, Some, None, Option, sym, refl, ap, ◌∙◌, subst, inl, inr, arith}
use mathlib.Core.Path.{subst⁻¹}
use lib.Bits.{bit_or, or_shr, or_mod}
use Rattle.std.proofs.lemmas.Bool.{eqb-true, eq-eqb, cases_lt, cases_eq, and_parts, or_cases}
use Rattle.table.specs.declared.types.Kind.{Kind}
use Rattle.table.specs.declared.types.Kind.TheVariants.{Number, Alias, Owned, Pristine}
use Rattle.table.specs.declared.types.Ty.{Ty}
use Rattle.table.specs.declared.records.Test.{Test}
use Rattle.table.specs.declared.records.Test.TheVariants.{Nil, Same, Equal, Less, Link, Unlink, Swap, Try, Fix, Stable}
use Rattle.table.specs.Types.{is_number, is_alias, is_owned, is_pristine, is_spec}
use Rattle.table.specs.Records.{Op, New, Null, Int, Share, Own, Get, Take, Set, Add, Call, Fork, Return, Again, Join, Emit, Ask}
use Rattle.table.specs.Program.{Function, Program}
use Rattle.rules.specs.Rules.{record_at, Premise, first, with, slot, withholding, asks, premises, bound, yes_types, there, lasting, slot_kind, slot_struct, slot_set, field_mode, field_type, flows}
use Rattle.rules.specs.Scopes.{Block, Yes, No, State, saved, close, Shape, Plain, shape, grown, move, after, before}
use Rattle.rules.specs.Formed.{Formed}
use Rattle.rules.specs.Blocks.{Accepted, Tests, Still, Within, Grows, Grew, Grown, Kept, TypesStand}
use Rattle.rules.proofs.Steps.{first_cons, good, after_good, before_suc}
use Rattle.rules.proofs.Blocks.{two_blocks, joined}

-- a set with one more field has all that it had
pub bit_of_or : (x y : ℕ) → x ≡ 1 → y < 2 → bit_or x y ≡ 1
bit_of_or x zero e h = rw e refl
bit_of_or x (suc zero) e h = rw e refl
bit_of_or x (suc (suc y)) e h = absurd (omega arith)

pub with_within : (w f : ℕ) → Within w (with w f)
with_within w f g h =
    let e = eqb-true ((w / 2 ^ g) % 2) 1 h in
    let a : (with w f / 2 ^ g) % 2 ≡ bit_or ((w / 2 ^ g) % 2) ((2 ^ f / 2 ^ g) % 2) =
    ap (λ n. n % 2) (or_shr w (2 ^ f) g) ∙ or_mod (w / 2 ^ g) (2 ^ f / 2 ^ g) 1
    in
    eq-eqb ((with w f / 2 ^ g) % 2) 1 (a ∙ bit_of_or ((w / 2 ^ g) % 2) ((2 ^ f / 2 ^ g) % 2) e (omega arith))

pub grew_refl : (t : Ty) → Grew t t
grew_refl t = go t.kind refl
  where
    go : (k : Kind) → t.kind ≡ k → Grows k t t
    go Number e = refl
    go Alias e = (inl e, refl)
    go Owned e = (e, refl, λ f h. h)
    go Pristine e = refl

pub grew_trans : (t u v : Ty) → Grew t u → Grew u v → Grew t v
grew_trans t u v = go t.kind refl
  where
    go : (k : Kind) → t.kind ≡ k → Grows k t u → Grew u v → Grows k t v
    go Number e h g = subst (λ k. Grows k t v) e (subst⁻¹ (λ x. Grew x v) h g)
    go Alias e h g =
        elim h.0 [
          | inl a ↦ let x : Grows Alias u v = subst (λ k. Grows k u v) a g in (x.0, x.1 ∙ h.1)
          | inr o ↦ let x : Grows Owned u v = subst (λ k. Grows k u v) o g in (inr x.0, x.1 ∙ h.1)
        ]
    go Owned e h g = let x : Grows Owned u v = subst (λ k. Grows k u v) h.0 g in (x.0, x.1 ∙ h.1, λ f q. x.2 f (h.2 f q))
    go Pristine e h g = subst (λ k. Grows k t v) e (subst⁻¹ (λ x. Grew x v) h g)

pub grown_refl : (ts : List Ty) → Grown ts ts
grown_refl [] = tt
grown_refl (t ∷ ts) = (grew_refl t, grown_refl ts)

pub grown_trans : (ts us vs : List Ty) → Grown ts us → Grown us vs → Grown ts vs
grown_trans [] us vs h k = tt
grown_trans (t ∷ ts) [] vs h k = absurd h
grown_trans (t ∷ ts) (u ∷ us) [] h k = absurd k
grown_trans (t ∷ ts) (u ∷ us) (v ∷ vs) h k = (grew_trans t u v h.0 k.0, grown_trans ts us vs h.1 k.1)

pub grown_bound : (ts : List Ty) (o : Option Ty) → Grown ts (grown ts o)
grown_bound ts None = grown_refl ts
grown_bound ts (Some u) = go ts
  where
    go : (ts : List Ty) → Grown ts (ts ++ (u ∷ []))
    go [] = tt
    go (t ∷ ts) = (grew_refl t, go ts)

pub grown_set : (ts : List Ty) (x : ℕ) (u : Ty) → Grew (slot ts x) u → Grown ts (set ts x u)
grown_set [] x u h = tt
grown_set (t ∷ ts) zero u h = (h, grown_refl ts)
grown_set (t ∷ ts) (suc x) u h = (grew_refl t, grown_set ts x u h)

pub grown_length : (ts us : List Ty) → Grown ts us → length ts ≤ length us
grown_length [] us h = omega arith
grown_length (t ∷ ts) [] h = absurd h
grown_length (t ∷ ts) (u ∷ us) h = omega (arith, grown_length ts us h.1)

-- kinds by their tests
pub is_alias_true : (k : Kind) → is_alias k ≡ true → k ≡ Alias
is_alias_true Number h = let z : ◌≡◌ {A = ℕ} 0 1 = cc in absurd (omega arith)
is_alias_true Alias h = refl
is_alias_true Owned h = let z : ◌≡◌ {A = ℕ} 0 1 = cc in absurd (omega arith)
is_alias_true Pristine h = let z : ◌≡◌ {A = ℕ} 0 1 = cc in absurd (omega arith)

pub is_owned_true : (k : Kind) → is_owned k ≡ true → k ≡ Owned
is_owned_true Number h = let z : ◌≡◌ {A = ℕ} 0 1 = cc in absurd (omega arith)
is_owned_true Alias h = let z : ◌≡◌ {A = ℕ} 0 1 = cc in absurd (omega arith)
is_owned_true Owned h = refl
is_owned_true Pristine h = let z : ◌≡◌ {A = ℕ} 0 1 = cc in absurd (omega arith)

pub kind_lasts : (k : Kind) → is_pristine k ≡ false → is_number k ≡ false → (k ≡ Alias) ⊎ (k ≡ Owned)
kind_lasts Number h g = let z : ◌≡◌ {A = ℕ} 0 1 = cc in absurd (omega arith)
kind_lasts Alias h g = inl refl
kind_lasts Owned h g = inr refl
kind_lasts Pristine h g = let z : ◌≡◌ {A = ℕ} 0 1 = cc in absurd (omega arith)

-- premise n of those that hold
pub premise : (qs : List Premise) → first qs ≡ None → (n : ℕ) → (get_or qs n (0, true)).1 ≡ true
premise [] h n = refl
premise (q ∷ qs) h zero = (first_cons q qs h).0
premise (q ∷ qs) h (suc n) = premise qs (first_cons q qs h).1 n

module _ (p : Program) (fn : Function) (ts : List Ty) where
  -- x withholds one field more
  pub grew_with : (x f : ℕ) → lasting p fn ts x ≡ true → Grew (slot ts x) (withholding (slot ts x) (with (slot_set p fn ts x) f))
  grew_with x f h =
      elim (or_cases (is_alias (slot ts x).kind) (is_owned (slot ts x).kind) h) [
        | inl a ↦
            let e = is_alias_true (slot ts x).kind a in
            subst⁻¹ (λ k. Grows k (slot ts x) (withholding (slot ts x) (with (slot ts x).withheld f))) e (inl e, refl)
        | inr o ↦
            let e = is_owned_true (slot ts x).kind o in
            subst⁻¹ (λ k. Grows k (slot ts x) (withholding (slot ts x) (with (slot ts x).withheld f))) e (e, refl, with_within (slot ts x).withheld f)
      ]

  -- y, an alias, gets the type of a spec field of its struct, with some set
  pub grew_field : Formed p → (x f y w : ℕ) → is_alias (slot_kind p fn ts y) ≡ true → is_spec (field_mode p fn ts x f) ≡ true → slot_struct p fn ts y ≡ (field_type p fn ts x f).strukt
      → Grew (slot ts y) (withholding (field_type p fn ts x f) w)
  grew_field formed x f y w a s q =
      let e = is_alias_true (slot ts y).kind a in
      let v = formed.fields (slot ts x).strukt f in
      subst⁻¹ (λ k. Grows k (slot ts y) (withholding (field_type p fn ts x f) w)) e (kind_lasts (field_type p fn ts x f).kind v.lasting (v.spec s), sym q)

  pub yes_grown : Formed p → (t : Test) → first (asks p fn ts t) ≡ None → Grown ts (yes_types p fn ts t)
  yes_grown formed (Nil x) h = grown_refl ts
  yes_grown formed (Same x y) h = grown_refl ts
  yes_grown formed (Equal x y) h = grown_refl ts
  yes_grown formed (Less x y) h = grown_refl ts
  yes_grown formed (Link x f y g) h = grown_refl ts
  yes_grown formed (Unlink x f y g) h =
      let a = and_parts (lasting p fn ts x) (is_alias (slot_kind p fn ts y)) (premise (asks p fn ts (Unlink x f y g)) h 1) in
      let b = and_parts (there p fn ts x f && is_spec (field_mode p fn ts x f) && there p fn ts y g) _ (premise (asks p fn ts (Unlink x f y g)) h 2) in
      let c = and_parts (there p fn ts x f && is_spec (field_mode p fn ts x f)) (there p fn ts y g) b.0 in
      let d = and_parts (there p fn ts x f) (is_spec (field_mode p fn ts x f)) c.0 in
      let e = and_parts (eqb (slot_struct p fn ts y) (field_type p fn ts x f).strukt) (flows (field_type p fn ts y g) (field_type p fn ts x f)) (premise (asks p fn ts (Unlink x f y g)) h 4) in
      grown_set ts y _ (grew_field formed x f y (2 ^ g) a.1 d.1 (eqb-true _ _ e.0))
  yes_grown formed (Swap x f y w) h =
      let a = and_parts (lasting p fn ts x) (is_alias (slot_kind p fn ts y)) (premise (asks p fn ts (Swap x f y w)) h 1) in
      let d = and_parts (there p fn ts x f) (is_spec (field_mode p fn ts x f)) (premise (asks p fn ts (Swap x f y w)) h 2) in
      let e = and_parts (eqb (slot_struct p fn ts y) (field_type p fn ts x f).strukt) (flows (slot ts w) (field_type p fn ts x f)) (premise (asks p fn ts (Swap x f y w)) h 3) in
      grown_set ts y _ (grew_field formed x f y (field_type p fn ts x f).withheld a.1 d.1 (eqb-true _ _ e.0))
  yes_grown formed (Try x f y) h =
      let a = and_parts (lasting p fn ts x) (is_pristine (slot_kind p fn ts y)) (premise (asks p fn ts (Try x f y)) h 1) in
      grown_set ts x _ (grew_with x f a.0)
  yes_grown formed (Fix x f y) h =
      let a = and_parts (lasting p fn ts x) (not (is_number (slot_kind p fn ts y))) (premise (asks p fn ts (Fix x f y)) h 1) in
      grown_set ts x _ (grew_with x f a.0)
  yes_grown formed (Stable x f) h = grown_set ts x _ (grew_with x f (premise (asks p fn ts (Stable x f)) h 1))

pub kept_grown : (ts us : List Ty) (bs : List Block) → Kept ts bs → Grown ts us → Kept us bs
kept_grown ts us [] h k = tt
kept_grown ts us (b ∷ bs) h k = (grown_trans (saved b) ts us h.0 k, h.1)

-- the blocks over a base have kept what the base brings back
pub kept_base : (ts : List Ty) (inner : List Block) (b : Block) (bs : List Block) → Kept ts (inner ++ (b ∷ bs)) → Grown (saved b) ts
kept_base ts [] b bs h = h.0
kept_base ts (c ∷ inner) b bs h = grown_trans (saved b) (saved c) ts (kept_base (saved c) inner b bs h.1) h.0

-- what closing leaves
abbrev pub Down : List Ty → State → Type 0
Down ts S = Kept S.types S.blocks × Grown S.types ts

pub down_if : (ts : List Ty) (b : Bool) (R S : State) → Down ts R → Down ts S → Down ts (cond b R S)
down_if ts true R S h k = h
down_if ts false R S h k = k

pub down_from : (ts us : List Ty) (S : State) → Down ts S → Grown ts us → Down us S
down_from ts us S h k = (h.0, grown_trans S.types ts us h.1 k)

pub close_down : (n : ℕ) (ts : List Ty) (bs : List Block) → Kept ts bs → Down ts (close n ts bs)
close_down n ts [] h = (tt, grown_refl ts)
close_down n ts (Yes k e s ∷ bs) h =
    down_if ts (eqb e n) _ _
    (down_if ts (eqb k 0) _ _ (down_from s ts (close n s bs) (close_down n s bs h.1) h.0) ((grown_refl s, h.1), h.0))
    (h, grown_refl ts)
close_down n ts (No e s ∷ bs) h = down_if ts (eqb e n) _ _ (down_from s ts (close n s bs) (close_down n s bs h.1) h.0) (h, grown_refl ts)

module _ (p : Program) (fn : Function) (formed : Formed p) where
  pub closed : (i : ℕ) (S : State) (o : Option Ty) → Kept S.types S.blocks → Down (grown S.types o) (close (suc i) (grown S.types o) S.blocks)
  closed i S o h = close_down (suc i) (grown S.types o) S.blocks (kept_grown S.types (grown S.types o) S.blocks h (grown_bound S.types o))

  abbrev pub Moves : ℕ → State → Op → Type 0
  Moves i S op = let R = move i S (grown S.types (bound p fn S.types op)) (yes_types p fn S.types) (shape op) in Kept R.types R.blocks

  pub moves : (i : ℕ) (S : State) (op : Op) → Kept S.types S.blocks → first (premises p fn S.types op) ≡ None → Moves i S op
  moves i S (New z s) h k = (closed i S (bound p fn S.types (New z s)) h).0
  moves i S (Null z s) h k = (closed i S (bound p fn S.types (Null z s)) h).0
  moves i S (Int z n) h k = (closed i S (bound p fn S.types (Int z n)) h).0
  moves i S (Share z x) h k = (closed i S (bound p fn S.types (Share z x)) h).0
  moves i S (Own z x) h k = (closed i S (bound p fn S.types (Own z x)) h).0
  moves i S (Get z x f) h k = (closed i S (bound p fn S.types (Get z x f)) h).0
  moves i S (Take z x f) h k = (closed i S (bound p fn S.types (Take z x f)) h).0
  moves i S (Set z x f y) h k = (closed i S (bound p fn S.types (Set z x f y)) h).0
  moves i S (Add z x y) h k = (closed i S (bound p fn S.types (Add z x y)) h).0
  moves i S (Call z n args) h k = (closed i S (bound p fn S.types (Call z n args)) h).0
  moves i S (Fork n args) h k = (closed i S (bound p fn S.types (Fork n args)) h).0
  moves i S (Return x) h k = (closed i S (bound p fn S.types (Return x)) h).0
  moves i S (Again args) h k = (closed i S (bound p fn S.types (Again args)) h).0
  moves i S (Join n) h k = (closed i S (bound p fn S.types (Join n)) h).0
  moves i S (Emit x) h k = (closed i S (bound p fn S.types (Emit x)) h).0
  moves i S (Ask t a b) h k = (yes_grown p fn S.types formed t k, h)

  module _ (ok : Accepted p fn) where
    pub kept_at : (i : ℕ) → i ≤ length fn.records → Kept (before p fn i).types (before p fn i).blocks
    kept_at zero l = tt
    kept_at (suc i) l =
        let S = before p fn i in
        let g = good p fn i S (record_at fn i) (ok i l) in
        subst⁻¹ (λ R. Kept R.types R.blocks) (before_suc p fn i l ∙ after_good p fn i S (record_at fn i) g)
        (moves i S g.op (kept_at i (omega arith)) g.held)

    pub grown_at : (b : Block) (bs : List Block) (k : ℕ) → k ≤ length fn.records → Still (length fn.records) (b ∷ bs) k (before p fn k) → Grown (saved b) (before p fn k).types
    grown_at b bs k l w = kept_base (before p fn k).types w.inner b bs (subst (Kept (before p fn k).types) w.stack (kept_at k l))

    pub in_blocks : (i : ℕ) (t : Test) (a b : ℕ) → Tests fn i t a b → (k : ℕ) → suc i ≤ k → k < suc i + a + b → Grown (before p fn i).types (before p fn k).types
    in_blocks i t a b q k l h =
        let w = two_blocks p fn ok i t a b q in
        let m : k ≤ length fn.records = omega (arith, w.room) in
        elim (cases_lt k (suc i + a)) [
          | inl y ↦ grown_at (Yes b (suc i + a) (before p fn i).types) (before p fn i).blocks k m (w.in_yes k l y)
          | inr y ↦ grown_at (No (suc i + a + b) (before p fn i).types) (before p fn i).blocks k m (w.in_no k y h)
        ]

    -- a record that leads on
    pub plain_moves : (i : ℕ) (S : State) (ts : List Ty) (us : Test → List Ty) (sh : Shape) → sh ≡ Plain → move i S ts us sh ≡ close (suc i) ts S.blocks
    plain_moves i S ts us sh e = rw e refl

    pub on : (i : ℕ) (op : Op) → i < length fn.records → record_at fn i ≡ Some op → shape op ≡ Plain
        → Grown (before p fn (suc i)).types (grown (before p fn i).types (bound p fn (before p fn i).types op))
    on i op l q e =
        let S = before p fn i in
        let ts = grown S.types (bound p fn S.types op) in
        let m : before p fn (suc i) ≡ close (suc i) ts S.blocks =
        before_suc p fn i l ∙ ap (Rattle.rules.specs.Scopes.after p fn i S) q ∙ plain_moves i S ts (yes_types p fn S.types) (shape op) e
        in
        subst⁻¹ (λ R. Grown R.types ts) m (closed i S (bound p fn S.types op) (kept_at i (omega arith))).1

    pub no_down : (i : ℕ) (t : Test) (a b : ℕ) → Tests fn i t a b → Grown (before p fn (suc i + a)).types (before p fn i).types
    no_down i t a b q =
        let w = two_blocks p fn ok i t a b q in
        let S = before p fn i in
        elim (cases_eq b 0) [
          | inl z ↦
              let e : suc i + a + b ≡ suc i + a = omega arith in
              let m : before p fn (suc i + a) ≡ close (suc i + a) S.types S.blocks = subst (λ n. before p fn n ≡ close n S.types S.blocks) e w.comes_back in
              subst⁻¹ (λ R. Grown R.types S.types) m (close_down (suc i + a) S.types S.blocks (kept_at i (omega (arith, q.0)))).1
          | inr z ↦ subst⁻¹ (λ R. Grown R.types S.types) (w.turns (omega arith)) (grown_refl S.types)
        ]

    pub join_down : (j n : ℕ) → j < length fn.records → record_at fn j ≡ Some (Join n) → Grown (before p fn (suc j + n)).types (before p fn j).types
    join_down j n l q =
        let w = joined p fn ok j n l q in
        let k = subst (Kept (before p fn j).types) w.block (kept_at j (omega arith)) in
        subst⁻¹ (λ R. Grown R.types (before p fn j).types) w.leads
        (down_from w.back (before p fn j).types (close (suc j + n) w.back w.outer) (close_down (suc j + n) w.back w.outer k.1) k.0).1

pub types_stand : TypesStand
types_stand p fn formed ok = record {
  kept = λ i l. kept_at p fn formed ok i (omega arith);
  in_blocks = in_blocks p fn formed ok;
  on = on p fn formed ok;
  no = no_down p fn formed ok;
  join = join_down p fn formed ok;
}
