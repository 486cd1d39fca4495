-- The program of a table is formed: its types keep their rules, and its parts are there and not too many.
use Rattle.std.proofs.Common.{◌≡◌, ℕ, zero, suc, ◌+◌, ◌/◌, ◌%◌, ◌^◌, ◌<◌, ◌≤◌, Bool, true, false, cond, not, ◌&&◌, ◌||◌, eqb, ltb, leb, List, [], ◌∷◌, map, length, get_or, take, drop, Some, None, Ok, Option, sym, refl, ap, ◌∙◌, subst, inl, inr, pow-suc, arith, length-drop}
use mathlib.Core.Path.{subst⁻¹}
use Rattle.std.proofs.lemmas.Nat.{pow_pos}
use Rattle.std.specs.List.{range_with_len}
use Rattle.std.proofs.lemmas.List.{length-take-le}
use Rattle.std.proofs.lemmas.Bool.{leb-true, ltb-true, eqb-true, and_parts, not-true, cases_Bool, cond-true, cond-false}
use Rattle.table.specs.declared.fault.Place.TheVariants.{Byte}
use Rattle.table.specs.declared.types.Kind.{Kind}
use Rattle.table.specs.declared.types.Mode.{Mode}
use Rattle.table.specs.declared.types.Mode.TheVariants.{Var, Val, Once, Spec}
use Rattle.table.specs.declared.types.Ty.{Ty}
use Rattle.table.specs.declared.types.Field.{Field}
use Rattle.table.specs.declared.records.Test.{Test}
use Rattle.table.specs.Faults.{Passes, need, each, ◌>>=◌}
use Rattle.table.specs.Types.{keeps, field_keeps, set_fits, may_withhold, is_number, is_pristine, is_var, is_val, is_once, is_spec}
use Rattle.table.specs.Records.{Op, New, Null, Int, Share, Own, Get, Take, Set, Add, Call, Fork, Return, Again, Join, Emit, operand, pick, op_of, asked_by, test_of, number_of, fits, form_of, slot_byte, decoded}
use Rattle.table.specs.Program.{Function, Program, both, byte, struct_count, function_count, type_at, field_count, field_place, field_at, param_count, param_place, record_count, record_place, record_at, struct_place, struct_at, function_at, function_place, contents, struct_total, field_total, function_total, param_total, record_total, struct_fits, function_fits, header, sections, structs, functions, field_types, function_types, entry, program}
use Rattle.table.proofs.Listing.{length_listing, get_d_listing, each_at}
use Rattle.table.proofs.Each.{ok_then, need_true, each_need, listing_all}
use Rattle.rules.specs.Rules.{no_field, no_function}
use Rattle.rules.specs.Formed.{Sound, AllKeep, Formed, Wide, Small, Shaped, ProgramStands}

-- a field that keeps its rules
module _ (ss : List (List Field)) where
  pub field_parts : (f : Field) → field_keeps ss f ≡ true
      → (keeps ss f.ty ≡ true) × (is_pristine f.ty.kind ≡ false) × (f.ty.withheld ≡ 0) × ((is_var f.mode || is_val f.mode || not (is_number f.ty.kind)) ≡ true)
  field_parts f h =
      let a = and_parts (keeps ss f.ty && not (is_pristine f.ty.kind) && eqb f.ty.withheld 0) (is_var f.mode || is_val f.mode || not (is_number f.ty.kind)) h in
      let b = and_parts (keeps ss f.ty && not (is_pristine f.ty.kind)) (eqb f.ty.withheld 0) a.0 in
      let c = and_parts (keeps ss f.ty) (not (is_pristine f.ty.kind)) b.0 in
      (c.0, not-true (is_pristine f.ty.kind) c.1, eqb-true f.ty.withheld 0 b.1, a.1)

  pub reference_field : (m : Mode) (x : Bool) → (is_var m || is_val m || not x) ≡ true → ((is_once m ≡ true → x ≡ false) × (is_spec m ≡ true → x ≡ false))
  reference_field Var x h = (λ q. let z : ◌≡◌ {A = ℕ} 0 1 = cc in absurd (omega arith), λ q. let z : ◌≡◌ {A = ℕ} 0 1 = cc in absurd (omega arith))
  reference_field Val x h = (λ q. let z : ◌≡◌ {A = ℕ} 0 1 = cc in absurd (omega arith), λ q. let z : ◌≡◌ {A = ℕ} 0 1 = cc in absurd (omega arith))
  reference_field Once x h = (λ q. not-true x h, λ q. not-true x h)
  reference_field Spec x h = (λ q. not-true x h, λ q. not-true x h)

  pub field_sound : (f : Field) → field_keeps ss f ≡ true → Sound f
  field_sound f h =
      let a = field_parts f h in
      let b = reference_field f.mode (is_number f.ty.kind) a.3 in
      record { lasting = a.1; once = b.0; spec = b.1 }

pub no_field_sound : Sound no_field
no_field_sound = record {
  lasting = refl;
  once = λ q. let z : ◌≡◌ {A = ℕ} 0 1 = cc in absurd (omega arith);
  spec = λ q. let z : ◌≡◌ {A = ℕ} 0 1 = cc in absurd (omega arith);
}

-- types that are listed by places
pub counted_keep : (ss : List (List Field)) (at : ℕ → Ty) (a n : ℕ) → ((i : ℕ) → i < a + n → keeps ss (at i) ≡ true) → AllKeep ss (map at (range_with_len a n))
counted_keep ss at a zero h = tt
counted_keep ss at a (suc n) h = (h a (omega arith), counted_keep ss at (a + 1) n (λ i l. h i (omega arith)))

-- the numbers of a type that keeps its rules
pub set_small : (k : Kind) (fs : List Field) (m n : ℕ) → length fs ≤ n → set_fits k fs m ≡ true → m < 2 ^ n
set_small k [] m n l h = omega (arith, eqb-true m 0 h, pow_pos n)
set_small k (f ∷ fs) m zero l h = absurd (omega arith)
set_small k (f ∷ fs) m (suc n) l h =
    let a = set_small k fs (m / 2) n (omega arith) (and_parts (eqb (m % 2) 0 || may_withhold k f) (set_fits k fs (m / 2)) h).1 in
    let b = pow-suc 2 n in
    omega arith

pub keeps_small : (ss : List (List Field)) → length ss ≤ 16 → ((s : ℕ) → length (get_or ss s []) ≤ 8) → (t : Ty) → keeps ss t ≡ true → Small t
keeps_small ss few narrow t h =
    let a = and_parts (eqb t.barred 0) _ h in
    elim (cases_Bool (is_number t.kind)) [
      | inl x ↦
          let b = sym (cond-true (is_number t.kind) (eqb t.strukt 0 && eqb t.withheld 0) (ltb t.strukt (length ss) && set_fits t.kind (get_or ss t.strukt []) t.withheld) x) ∙ a.1 in
          let c = and_parts (eqb t.strukt 0) (eqb t.withheld 0) b in
          record { strukt = omega (arith, eqb-true t.strukt 0 c.0); barred = eqb-true t.barred 0 a.0; withheld = omega (arith, eqb-true t.withheld 0 c.1) }
      | inr x ↦
          let b = sym (cond-false (is_number t.kind) (eqb t.strukt 0 && eqb t.withheld 0) (ltb t.strukt (length ss) && set_fits t.kind (get_or ss t.strukt []) t.withheld) x) ∙ a.1 in
          let c = and_parts (ltb t.strukt (length ss)) (set_fits t.kind (get_or ss t.strukt []) t.withheld) b in
          let d : t.withheld < 256 = set_small t.kind (get_or ss t.strukt []) t.withheld 8 (narrow t.strukt) c.1 in
          record { strukt = omega (arith, ltb-true t.strukt (length ss) c.0); barred = eqb-true t.barred 0 a.0; withheld = d }
    ]

-- the entries of a table of records
abbrev AllWide : List (ℕ × Option Op) → Type 0
AllWide [] = Unit {0}
AllWide (q ∷ qs) = Wide q.1 × AllWide qs

pub pick_wide : (n : ℕ) (qs : List (ℕ × Option Op)) → AllWide qs → Wide (pick n qs None)
pick_wide n [] h = tt
pick_wide n (q ∷ qs) h =
    elim (cases_Bool (eqb n q.0)) [
      | inl x ↦ subst⁻¹ Wide (cond-true (eqb n q.0) q.1 (pick n qs None) x) h.0
      | inr x ↦ subst⁻¹ Wide (cond-false (eqb n q.0) q.1 (pick n qs None) x) (pick_wide n qs h.1)
    ]

pub op_wide : (b : List ℕ) → length b ≡ 12 → Wide (op_of b)
op_wide b h =
    let five : length (take 5 (drop 3 b)) ≡ 5 = length-take-le 5 (drop 3 b) (let e = length-drop 3 b in omega arith) in
    let six : length (take 6 (drop 2 b)) ≡ 6 = length-take-le 6 (drop 2 b) (let e = length-drop 2 b in omega arith) in
    let x = operand b 0 in
    let z = slot_byte b in
    pick_wide (get_or b 0 0) (
    (1, Some (New z x))
    ∷ (2, Some (Null z x))
    ∷ (3, Some (Int z (number_of b)))
    ∷ (4, Some (Share z x))
    ∷ (5, Some (Own z x))
    ∷ (6, Some (Get z x (operand b 1)))
    ∷ (7, Some (Take z x (operand b 1)))
    ∷ (8, Some (Set z x (operand b 1) (operand b 2)))
    ∷ (9, Some (Add z x (operand b 1)))
    ∷ (10, Some (Call z x (take 5 (drop 3 b))))
    ∷ (11, Some (Fork x (take 5 (drop 3 b))))
    ∷ (12, Some (Return x))
    ∷ (13, Some (Again (take 6 (drop 2 b))))
    ∷ (14, Some (Join (number_of b)))
    ∷ (15, Some (Emit x))
    ∷ []) (tt, (tt, (tt, (tt, (tt, (tt, (tt, (tt, (tt, (five, (five, (tt, (six, (tt, (tt, tt)))))))))))))))

pub asked_wide : (n : ℕ) (o : Option Test) → Wide (asked_by n o)
asked_wide n None = tt
asked_wide n (Some t) = tt

pub decoded_wide : (b : List ℕ) → Wide (decoded b)
decoded_wide b =
    let fit = fits (form_of (get_or b 0 0)) (slot_byte b) (take 6 (drop 2 b)) (number_of b) in
    let all = eqb (length b) 12 && fit in
    let inner = cond (ltb (get_or b 0 0) 16) (op_of b) (asked_by (number_of b) (test_of b)) in
    elim (cases_Bool all) [
      | inr x ↦ subst⁻¹ Wide (cond-false all inner None x) tt
      | inl x ↦ subst⁻¹ Wide (cond-true all inner None x) (elim (cases_Bool (ltb (get_or b 0 0) 16)) [
        | inl y ↦ subst⁻¹ Wide (cond-true (ltb (get_or b 0 0) 16) (op_of b) (asked_by (number_of b) (test_of b)) y) (op_wide b (eqb-true (length b) 12 (and_parts (eqb (length b) 12) fit x).0))
        | inr y ↦ subst⁻¹ Wide (cond-false (ltb (get_or b 0 0) 16) (op_of b) (asked_by (number_of b) (test_of b)) y) (asked_wide (number_of b) (test_of b))
      ])
    ]

-- what the conditions of a table that opens say, by the places
pub record Opened (b : List ℕ) : Type 0 where
  pub struct_low : struct_count b ≤ 16
  pub function_some : 1 ≤ function_count b
  pub function_low : function_count b ≤ 32
  pub fields_few : (s : ℕ) → s < struct_count b → field_count b s ≤ 8
  pub filled : (n : ℕ) → n < function_count b → (param_count b n ≤ 4) × (1 ≤ record_count b n) × (record_count b n ≤ 255)
  pub field_fits : (s : ℕ) → s < struct_count b → (f : ℕ) → f < field_count b s → field_keeps (contents b).structs (field_at b s f) ≡ true
  pub types_fit : (n : ℕ) → n < function_count b → (i : ℕ) → i < param_count b n + 1 → keeps (contents b).structs (type_at b (param_place b n i)) ≡ true
  pub first_bare : param_count b 0 ≡ 0

pub both_true : (low high n : ℕ) → both low high n ≡ true → (low ≤ n) × (n ≤ high)
both_true low high n h = let a = and_parts (leb low n) (leb n high) h in (leb-true low n a.0, leb-true n high a.1)

pub opened : (b : List ℕ) (p : Program) → program b ≡ Ok p → Opened b × (contents b ≡ p)
opened b p h =
    let a1 = ok_then (header b) _ p h in
    let a2 = ok_then (sections b) _ p a1.1 in
    let a3 = ok_then (structs b) _ p a2.1 in
    let a4 = ok_then (functions b) _ p a3.1 in
    let a5 = ok_then (field_types b) _ p a4.1 in
    let a6 = ok_then (function_types b) _ p a5.1 in
    let a7 = ok_then (entry b) _ p a6.1 in
    let same : contents b ≡ p = cc a7.1 in
    let h1 = ok_then (need (both 4 65535 (length b)) 1 (Byte 0)) _ tt a1.0 in
    let h2 = ok_then (need (eqb (byte b 0) 1) 2 (Byte 0)) _ tt h1.1 in
    let h3 = ok_then (need (both 1 16 (struct_count b)) 3 (Byte 1)) _ tt h2.1 in
    let h4 = ok_then (need (both 1 32 (function_count b)) 3 (Byte 2)) _ tt h3.1 in
    let s1 = both_true 1 16 (struct_count b) (need_true _ _ _ h3.0) in
    let f1 = both_true 1 32 (function_count b) (need_true _ _ _ h4.0) in
    let each_struct : ℕ → Passes = λ s.
    need (struct_fits b s) 5 (Byte (struct_place b s)) >>= λ _.
    each (field_count b s) (λ f. need (leb (byte b (field_place b s f)) 3) 5 (Byte (field_place b s f))) in
    let c1 = ok_then (each (struct_count b) each_struct) _ tt a3.0 in (
      record {
        struct_low = s1.1;
        function_some = f1.0;
        function_low = f1.1;
        fields_few = λ s l.
            let x = need_true (struct_fits b s) 5 (Byte (struct_place b s)) (ok_then _ _ tt (each_at (struct_count b) each_struct c1.0 s l)).0 in
            leb-true (field_count b s) 8 (and_parts _ _ (and_parts _ _ x).0).1;
        filled = λ n l.
            let x = each_need (function_count b) (function_fits b) 6 (λ i. Byte (function_place b i)) a4.0 n l in
            let y = and_parts _ _ x in
            let z = both_true 1 255 (record_count b n) y.1 in
            (leb-true (param_count b n) 4 (and_parts _ _ y.0).0, z.0, z.1);
        field_fits = λ s l f m.
            let x = each_at (struct_count b) _ a5.0 s l in
            (and_parts _ _ (need_true _ _ _ (each_at (field_count b s) _ x f m))).1;
        types_fit = λ n l i m.
            let x = each_at (function_count b) _ a6.0 n l in
            (and_parts _ _ (need_true _ _ _ (each_at (param_count b n + 1) _ x i m))).1;
        first_bare = eqb-true _ _ (need_true _ _ _ a7.0);
      },
      same,
    )

module _ (b : List ℕ) (o : Opened b) where
  abbrev ss : List (List Field)
  ss = (contents b).structs

  -- what holds of every field that the table has holds of each that is read
  pub every_field : (P : Field → Type 0) → ((f : Field) → field_keeps ss f ≡ true → P f) → P no_field → (s f : ℕ) → P (get_or (get_or ss s []) f no_field)
  every_field P h k s =
      listing_all (λ fs. (f : ℕ) → P (get_or fs f no_field)) [] (struct_total b) (struct_at b)
      (λ i l. listing_all P no_field (field_total b i) (field_at b i) (λ f m. h (field_at b i f) (o.field_fits i (omega arith) f (omega arith))) k)
      (λ f. k) s

  pub every_function : (P : Function → Type 0) → ((n : ℕ) → n < function_total b → P (function_at b n)) → P no_function → (n : ℕ) → P (get_or (contents b).functions n no_function)
  every_function P h k n = listing_all P no_function (function_total b) (function_at b) h k n

  pub contents_formed : Formed (contents b)
  contents_formed = record {
    fields = every_field Sound (field_sound ss) no_field_sound;
    field_types = every_field (λ f. keeps ss f.ty ≡ true) (λ f h. (field_parts ss f h).0) refl;
    params = every_function (λ fn. AllKeep ss fn.params)
        (λ n l. counted_keep ss (λ i. type_at b (param_place b n i)) 0 (param_total b n) (λ i m. o.types_fit n (omega arith) i (omega arith))) tt;
    results = every_function (λ fn. keeps ss fn.result ≡ true) (λ n l. o.types_fit n (omega arith) (param_count b n) (omega arith)) refl;
    few = every_function (λ fn. length fn.params ≤ 4)
        (λ n l. let e = length_listing (param_total b n) (λ i. type_at b (param_place b n i)) in omega arith) (omega arith);
    alone =
        ap (λ fn. length fn.params) (get_d_listing (function_total b) (function_at b) 0 no_function (let e = o.function_some in omega arith))
        ∙ length_listing (param_total b 0) (λ i. type_at b (param_place b 0 i)) ∙ (let e = o.first_bare in omega arith);
  }

  pub contents_shaped : Shaped (contents b)
  contents_shaped =
      let narrow : (s : ℕ) → length (get_or ss s []) ≤ 8 =
      listing_all (λ fs. length fs ≤ 8) [] (struct_total b) (struct_at b)
      (λ s l. let e = length_listing (field_total b s) (field_at b s) in omega arith) (omega arith)
      in
      let named : length ss ≤ 16 = (let e = length_listing (struct_total b) (struct_at b) in omega arith) in
      let size = length_listing (function_total b) (function_at b) in
      record {
        named = named;
        narrow = narrow;
        bare = every_field (λ f. f.ty.withheld ≡ 0) (λ f h. (field_parts ss f h).2) refl;
        main = omega (arith, o.function_some);
        called = omega arith;
        begins = λ n l.
            let m : n < function_total b = omega arith in
            subst⁻¹ (λ (fn : Function). 0 < length fn.records) (get_d_listing (function_total b) (function_at b) n no_function m)
            (let e = length_listing (record_total b n) (record_at b n) in omega (arith, (o.filled n (omega arith)).1));
        short = every_function (λ fn. length fn.records ≤ 255)
            (λ n l. let e = length_listing (record_total b n) (record_at b n) in omega arith) (omega arith);
        wide = every_function (λ fn. (i : ℕ) → Wide (get_or fn.records i None))
            (λ n l. listing_all Wide None (record_total b n) (record_at b n) (λ i m. decoded_wide (take 12 (drop (record_place b n i) b))) tt) (λ i. tt);
        small = keeps_small ss named narrow;
      }

pub program_stands : ProgramStands
program_stands b p h = let a = opened b p h in subst (λ (q : Program). Formed q × Shaped q) a.1 (contents_formed b a.0, contents_shaped b a.0)
