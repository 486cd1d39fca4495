-- What the check reads of a table.
use Rattle.std.proofs.Common.{◌≡◌, ℕ, ◌≤◌, List, [], length, get_or, Some, None, Ok, Err, Option, Result, refl, ap, ◌∙◌, arith}
use Rattle.std.specs.List.{slice_get}
use Rattle.std.specs.Option.{option_map, unwrap_or}
use Rattle.std.specs.Result.{result_ok}
use Rattle.std.proofs.lemmas.Option.{unwrap_or-slice_get}
use Rattle.table.specs.declared.types.Ty.{Ty}
use Rattle.table.specs.declared.types.Field.{Field}
use Rattle.table.specs.declared.records.Record.{Record}
use Rattle.table.specs.declared.view.Table.{Table}
use Rattle.table.specs.declared.view.Lacking.{Lacking}
use Rattle.table.specs.Records.{Op, meant_by}
use Rattle.table.specs.Program.{Function, Program, struct_total, field_total, function_total, param_total, type_at, param_place, field_at, struct_at, function_at, contents}
use Rattle.table.specs.Reading.{bytes_of, program_of, fields_of, function_of, field_of, param_of, result_of, present, record_of, found}
use Rattle.table.proofs.Listing.{length_listing}
use Rattle.table.proofs.Each.{listing_all}
use Rattle.rules.specs.Rules.{number, no_field, no_function, callee, declared}
use Rattle.rules.specs.Seen.{seen}

-- what a record that was found says
abbrev pub said : Result Op Lacking → Option Op
said (Ok op) = Some op
said (Err e) = None

pub seen_is : (t : Table) → seen t ≡ program_of t
unfolding seen
seen_is t = refl

-- every table keeps these bounds
pub contents_narrow : (b : List ℕ) (s : ℕ) → length (get_or (contents b).structs s []) ≤ 8
contents_narrow b s =
    listing_all (λ (fs : List Field). length fs ≤ 8) [] (struct_total b) (struct_at b) (λ i l. let e = length_listing (field_total b i) (field_at b i) in omega arith) (omega arith) s

pub contents_few : (b : List ℕ) (n : ℕ) → length (callee (contents b) n).params ≤ 4
contents_few b n =
    listing_all (λ (fn : Function). length fn.params ≤ 4) no_function (function_total b) (function_at b)
    (λ i l. let e = length_listing (param_total b i) (λ k. type_at b (param_place b i k)) in omega arith) (omega arith) n

pub seen_narrow : (t : Table) (s : ℕ) → length (get_or (seen t).structs s []) ≤ 8
unfolding seen
seen_narrow t s = contents_narrow (bytes_of t) s

pub seen_few : (t : Table) (n : ℕ) → length (callee (seen t) n).params ≤ 4
unfolding seen
seen_few t n = contents_few (bytes_of t) n

pub seen_functions : (t : Table) → length (seen t).functions ≡ length (program_of t).functions
seen_functions t = ap (λ (p : Program). length p.functions) (seen_is t)

-- the answers of a table, as the check reads them
pub unwrap_map : {X Y : Type 0} (f : X → Y) (o : Option X) (d : X) → unwrap_or (option_map f o) (f d) ≡ f (unwrap_or o d)
unwrap_map f None d = refl
unwrap_map f (Some x) d = refl

pub field_seen : (t : Table) (s f : ℕ) → unwrap_or (field_of (program_of t) s f) no_field ≡ declared (seen t) s f
unfolding seen
field_seen t s f = unwrap_or-slice_get (fields_of (program_of t) s) f no_field

pub param_seen : (t : Table) (n i : ℕ) → unwrap_or (param_of (program_of t) n i) number ≡ get_or (callee (seen t) n).params i number
unfolding seen
param_seen t n i = unwrap_or-slice_get (function_of (program_of t) n).params i number

pub result_seen : (t : Table) (n : ℕ) → unwrap_or (result_of (program_of t) n) number ≡ (callee (seen t) n).result
unfolding seen
result_seen t n =
    unwrap_map (λ (fn : Function). fn.result) (slice_get (program_of t).functions n) no_function
    ∙ ap (λ (fn : Function). fn.result) (unwrap_or-slice_get (program_of t).functions n no_function)

pub param_some : (t : Table) (n i : ℕ) (x : Ty) → Some x ≡ param_of (program_of t) n i → x ≡ get_or (callee (seen t) n).params i number
param_some t n i x e = ap (λ (o : Option Ty). unwrap_or o number) e ∙ param_seen t n i

pub param_none : (t : Table) (n i : ℕ) → None ≡ param_of (program_of t) n i → number ≡ get_or (callee (seen t) n).params i number
param_none t n i e = ap (λ (o : Option Ty). unwrap_or o number) e ∙ param_seen t n i

pub result_some : (t : Table) (n : ℕ) (x : Ty) → Some x ≡ result_of (program_of t) n → x ≡ (callee (seen t) n).result
result_some t n x e = ap (λ (o : Option Ty). unwrap_or o number) e ∙ result_seen t n

pub result_none : (t : Table) (n : ℕ) → None ≡ result_of (program_of t) n → number ≡ (callee (seen t) n).result
result_none t n e = ap (λ (o : Option Ty). unwrap_or o number) e ∙ result_seen t n

pub present_read : (rs : List (Option Op)) (i : ℕ) (o : Result Op Lacking) → o ≡ present (slice_get rs i) → said o ≡ get_or rs i None
present_read rs i o e = ap said e ∙ of (slice_get rs i) ∙ unwrap_or-slice_get rs i None
  where
    of : (r : Option (Option Op)) → said (present r) ≡ unwrap_or r None
    of None = refl
    of (Some None) = refl
    of (Some (Some op)) = refl

pub record_seen : (t : Table) (n i : ℕ) (r : Result Record Lacking) → found r ≡ record_of (program_of t) n i → meant_by (result_ok r) ≡ get_or (callee (seen t) n).records i None
unfolding seen
record_seen t n i r e = of r ∙ present_read (function_of (program_of t) n).records i (found r) e
  where
    of : (o : Result Record Lacking) → meant_by (result_ok o) ≡ said (found o)
    of (Ok x) = refl
    of (Err x) = refl
