-- What a table has where a frame stands.
use Rattle.std.proofs.Common.{◌≡◌, ℕ, ◌<◌, List, length, None, Ok, Err, Option, Result, sym, refl, ap, ◌∙◌, inl, inr, arith}
use Rattle.std.specs.Result.{result_ok}
use Rattle.std.specs.Option.{option_map, unwrap_or}
use Rattle.std.proofs.lemmas.Option.{slice_get-get_or, slice_get_past}
use Rattle.std.proofs.lemmas.List.{get_or_past}
use Rattle.std.proofs.lemmas.Bool.{cases_lt, lt-ltb, and_from, cond-true}
use Rattle.table.specs.declared.view.Lacking.{Lacking}
use Rattle.table.specs.declared.records.Record.{Record}
use Rattle.table.specs.Records.{Op, meant_by}
use Rattle.table.specs.Program.{Program, Function}
use Rattle.table.specs.Reading.{found, record_of, result_of}
use Rattle.rules.specs.Rules.{number, callee, no_function, record_at}
use Rattle.rules.proofs.Seen.{said, present_read}
use Rattle.machine.specs.declared.threads.Frame.{Frame}
use Rattle.machine.specs.World.{in_table, op_at}

pub meant_ok : (r : Result Record Lacking) → meant_by (result_ok r) ≡ said (found r)
meant_ok (Ok r) = refl
meant_ok (Err e) = refl

-- the type that a function returns, if it is there
pub result_there : (p : Program) (n : ℕ) → unwrap_or (result_of p n) number ≡ (callee p n).result
result_there p n =
    elim (cases_lt n (length p.functions)) [
      | inl l ↦ ap (λ (o : Option Function). unwrap_or (option_map (λ (fn : Function). fn.result) o) number) (slice_get-get_or p.functions n no_function l)
      | inr g ↦
          ap (λ (o : Option Function). unwrap_or (option_map (λ (fn : Function). fn.result) o) number) (slice_get_past p.functions n g)
          ∙ sym (ap (λ (fn : Function). fn.result) (get_or_past p.functions n no_function g))
    ]

module _ (p : Program) (F : Frame) where
  abbrev records : List (Option Op)
  records = (callee p F.function).records

  -- a function with a record is there
  pub known : F.index < length records → F.function < length p.functions
  known h =
      elim (cases_lt F.function (length p.functions)) [
        | inl l ↦ l
        | inr g ↦
            let e : length records ≡ 0 = ap (λ (fn : Function). length fn.records) (get_or_past p.functions F.function no_function g) in
            absurd (omega arith)
      ]

  pub op_there : F.index < length records → op_at p F ≡ record_at (callee p F.function) F.index
  op_there h = cond-true (in_table p F) (record_at (callee p F.function) F.index) None (and_from _ _ (lt-ltb _ _ (known h)) (lt-ltb _ _ h))

  -- what the table answers of the record
  pub op_found : (o : Result Op Lacking) → o ≡ record_of p F.function F.index → F.index < length records → said o ≡ op_at p F
  op_found o e h = present_read records F.index o e ∙ sym (op_there h)
