-- The bits of a set, field by field.
use Rattle.std.proofs.Common.{◌≡◌, ℕ, ◌+◌, ◌/◌, ◌%◌, ◌<◌, ◌≤◌, Bool, true, false, ◌&&◌, ◌||◌, eqb, ltb, List, [], ◌∷◌, length, get_or, drop, sym, refl, ap, ◌∙◌, arith}
use Rattle.std.proofs.lemmas.Bool.Decides.{nat_tests}
use Rattle.std.proofs.lemmas.List.{drop_more, drop_all}
use Rattle.table.specs.declared.types.Kind.{Kind}
use Rattle.table.specs.declared.types.Field.{Field}
use Rattle.table.specs.declared.types.Ty.{Ty}
use Rattle.table.specs.Types.{may_withhold, set_fits, is_number, keeps}
use Rattle.table.specs.Program.{listing, contents, struct_total, struct_at}
use Rattle.table.proofs.Listing.{length_listing, get_d_listing}

pub drop_listing : {X : Type 0} (n : ℕ) (at : ℕ → X) (i : ℕ) → i < n → drop i (listing n at) ≡ at i ∷ drop (i + 1) (listing n at)
drop_listing n at i h =
    let e : length (listing n at) ≡ n = length_listing n at in
    drop_more (listing n at) i (at i) (omega arith) ∙ ap (λ x. x ∷ drop (i + 1) (listing n at)) (get_d_listing n at i (at i) h)

pub set_more : (k : Kind) (n : ℕ) (at : ℕ → Field) (i m : ℕ) → i < n
    → set_fits k (drop i (listing n at)) m ≡ ((eqb (m % 2) 0 || may_withhold k (at i)) && set_fits k (drop (i + 1) (listing n at)) (m / 2))
set_more k n at i m h = ap (λ fs. set_fits k fs m) (drop_listing n at i h)

pub set_all : (k : Kind) (n : ℕ) (at : ℕ → Field) (i m : ℕ) → n ≤ i → set_fits k (drop i (listing n at)) m ≡ eqb m 0
set_all k n at i m h =
    let e : length (listing n at) ≡ n = length_listing n at in
    ap (λ fs. set_fits k fs m) (drop_all i (listing n at) (omega arith))

-- one field on: whether its set may withhold it, and the fields behind it
pub set_turn : (k : Kind) (n : ℕ) (at : ℕ → Field) (i m : ℕ) (field : Field) (all b : Bool) → i < n → field ≡ at i → set_fits k (drop i (listing n at)) m ≡ all
    → b ≡ (eqb (m % 2) 0 || may_withhold k field) → (b && set_fits k (drop (i + 1) (listing n at)) (m / 2)) ≡ all
set_turn k n at i m field all b h f inv e =
    let s : b ≡ (eqb (m % 2) 0 || may_withhold k (at i)) = e ∙ ap (λ x. eqb (m % 2) 0 || may_withhold k x) f in
    ap (λ x. x && set_fits k (drop (i + 1) (listing n at)) (m / 2)) s ∙ sym (set_more k n at i m h) ∙ inv

-- a reference to a struct that is there, and to one that is not
pub keeps_reference : (b : List ℕ) (t : Ty) (r : Bool) → t.barred ≡ 0 → is_number t.kind ≡ false → t.strukt < struct_total b
    → r ≡ set_fits t.kind (struct_at b t.strukt) t.withheld → r ≡ keeps (contents b).structs t
keeps_reference b t r z k h e =
    let n : length (contents b).structs ≡ struct_total b = length_listing (struct_total b) (struct_at b) in
    let x : eqb t.barred 0 ≡ true = grind (arith, nat_tests) in
    let y : ltb t.strukt (length (contents b).structs) ≡ true = grind (arith, nat_tests) in
    let g : get_or (contents b).structs t.strukt [] ≡ struct_at b t.strukt = get_d_listing (struct_total b) (struct_at b) t.strukt [] h in
    rw (x, k, y, g) e

pub lacks_struct : (b : List ℕ) (t : Ty) → t.barred ≡ 0 → is_number t.kind ≡ false → struct_total b ≤ t.strukt → false ≡ keeps (contents b).structs t
lacks_struct b t z k h =
    let n : length (contents b).structs ≡ struct_total b = length_listing (struct_total b) (struct_at b) in
    let x : eqb t.barred 0 ≡ true = grind (arith, nat_tests) in
    let y : ltb t.strukt (length (contents b).structs) ≡ false = grind (arith, nat_tests) in
    rw (x, k, y) refl
