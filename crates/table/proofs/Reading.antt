-- What the places of a table's bytes give of its program.
use Rattle.std.proofs.Common.{◌≡◌, ℕ, ◌<◌, false, eqb, List, [], length, Some, None, Ok, Err, Option, Result, IsErrAnd, refl, ap, ◌∙◌, arith}
use Rattle.std.proofs.lemmas.Bool.Decides.{nat_tests}
use Rattle.std.proofs.lemmas.Result.{err_from_is_err_and}
use Rattle.std.specs.Option.{option_map, ok_or}
use Rattle.table.specs.declared.records.Record.{Record}
use Rattle.table.specs.declared.view.Lacking.{Lacking}
use Rattle.table.specs.declared.view.Lacking.TheVariants.{Missing, Undecodable}
use Rattle.table.specs.Records.{meant_by, decoded}
use Rattle.table.specs.Program.{contents, struct_total, struct_at, field_total, field_at, function_total, function_at, param_total, param_place, result_place, record_total, record_at, type_at}
use Rattle.table.specs.Reading.{no_function, fields_of, function_of, field_of, param_of, result_of, present, record_of, within, found}
use Rattle.table.proofs.Listing.{found_nth, missed_listing, missed_nth, part_counts, part_found, part_missed}

-- counts
pub field_counts : (b : List ℕ) (s m k : ℕ) → m ≡ struct_total b → Some k ≡ within s m → length (fields_of (contents b) s) ≡ field_total b k
field_counts b s m k e h = part_counts (λ fs. fs) (struct_total b) (struct_at b) [] s m k (field_total b k) (field_at b k) e h refl

pub param_counts : (b : List ℕ) (n m k : ℕ) → m ≡ function_total b → Some k ≡ within n m → length (function_of (contents b) n).params ≡ param_total b k
param_counts b n m k e h = part_counts (λ fn. fn.params) (function_total b) (function_at b) no_function n m k (param_total b k) (λ i. type_at b (param_place b k i)) e h refl

pub record_counts : (b : List ℕ) (n m k : ℕ) → m ≡ function_total b → Some k ≡ within n m → length (function_of (contents b) n).records ≡ record_total b k
record_counts b n m k e h = part_counts (λ fn. fn.records) (function_total b) (function_at b) no_function n m k (record_total b k) (record_at b k) e h refl

-- what is at a place that there is
pub field_read : (b : List ℕ) (s m k f p q : ℕ) → m ≡ struct_total b → Some k ≡ within s m → p ≡ field_total b k → Some q ≡ within f p → field_of (contents b) s f ≡ Some (field_at b k q)
field_read b s m k f p q e h g l = part_found (λ fs. fs) (struct_total b) (struct_at b) [] s m k (field_total b k) (field_at b k) f p q e h refl g l

pub param_read : (b : List ℕ) (n m k i p q : ℕ) → m ≡ function_total b → Some k ≡ within n m → p ≡ param_total b k → Some q ≡ within i p → param_of (contents b) n i ≡ Some (type_at b (param_place b k q))
param_read b n m k i p q e h g l = part_found (λ fn. fn.params) (function_total b) (function_at b) no_function n m k (param_total b k) (λ j. type_at b (param_place b k j)) i p q e h refl g l

pub result_read : (b : List ℕ) (n m k : ℕ) → m ≡ function_total b → Some k ≡ within n m → result_of (contents b) n ≡ Some (type_at b (result_place b k))
result_read b n m k e h = ap (option_map (λ fn. fn.result)) (found_nth (function_total b) (function_at b) n m k e h)

pub record_read : (b : List ℕ) (n m k i p q : ℕ) → m ≡ function_total b → Some k ≡ within n m → p ≡ record_total b k → Some q ≡ within i p → record_of (contents b) n i ≡ present (Some (record_at b k q))
record_read b n m k i p q e h g l = ap present (part_found (λ fn. fn.records) (function_total b) (function_at b) no_function n m k (record_total b k) (record_at b k) i p q e h refl g l)

-- and where there is none
pub no_fields : (b : List ℕ) (s m : ℕ) → m ≡ struct_total b → None ≡ within s m → fields_of (contents b) s ≡ []
no_fields b s m e h = missed_listing (struct_total b) (struct_at b) [] s m e h

pub no_function_there : (b : List ℕ) (n m : ℕ) → m ≡ function_total b → None ≡ within n m → function_of (contents b) n ≡ no_function
no_function_there b n m e h = missed_listing (function_total b) (function_at b) no_function n m e h

pub field_lacks : (b : List ℕ) (s m k f p : ℕ) → m ≡ struct_total b → Some k ≡ within s m → p ≡ field_total b k → None ≡ within f p → field_of (contents b) s f ≡ None
field_lacks b s m k f p e h g l = part_missed (λ fs. fs) (struct_total b) (struct_at b) [] s m k (field_total b k) (field_at b k) f p e h refl g l

pub param_lacks : (b : List ℕ) (n m k i p : ℕ) → m ≡ function_total b → Some k ≡ within n m → p ≡ param_total b k → None ≡ within i p → param_of (contents b) n i ≡ None
param_lacks b n m k i p e h g l = part_missed (λ fn. fn.params) (function_total b) (function_at b) no_function n m k (param_total b k) (λ j. type_at b (param_place b k j)) i p e h refl g l

pub result_lacks : (b : List ℕ) (n m : ℕ) → m ≡ function_total b → None ≡ within n m → result_of (contents b) n ≡ None
result_lacks b n m e h = ap (option_map (λ fn. fn.result)) (missed_nth (function_total b) (function_at b) n m e h)

pub record_lacks : (b : List ℕ) (n m k i p : ℕ) → m ≡ function_total b → Some k ≡ within n m → p ≡ record_total b k → None ≡ within i p → record_of (contents b) n i ≡ Err Missing
record_lacks b n m k i p e h g l = ap present (part_missed (λ fn. fn.records) (function_total b) (function_at b) no_function n m k (record_total b k) (record_at b k) i p e h refl g l)

-- A number that is not there leaves a record missing; what twelve bytes say is the record there.
pub ok_or_some : {X : Type 0} (o : Option X) (e : Lacking) (x : X) → Ok x ≡ ok_or o e → Some x ≡ o
ok_or_some None e x h = cc
ok_or_some (Some y) e x h = cc

pub ok_or_none : {X : Type 0} (o : Option X) (e d : Lacking) → Err d ≡ ok_or o e → None ≡ o
ok_or_none None e d h = refl
ok_or_none (Some y) e d h = cc

pub missing : {X : Type 0} (o : Option X) (d : Lacking) (r : Result Record Lacking) → Err d ≡ ok_or o Missing → IsErrAnd r (λ e. e ≡ d) → found r ≡ Err Missing
missing None d r h k =
    let p = err_from_is_err_and r k in
    let e : d ≡ Missing = cc in
    ap found p.1 ∙ ap Err (p.2 ∙ e)
missing (Some x) d r h k = cc

pub found_said : (o : Option Record) → found (ok_or o Undecodable) ≡ present (Some (meant_by o))
found_said None = refl
found_said (Some r) = refl

-- fewer than twelve bytes say nothing
pub short_says_nothing : (b : List ℕ) → length b < 12 → decoded b ≡ None
short_says_nothing b h = let e : eqb (length b) 12 ≡ false = grind (arith, nat_tests) in rw e refl
