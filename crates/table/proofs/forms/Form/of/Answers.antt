use Rattle.std.proofs.Common.{◌≡◌, ◌≤◌, sym, ap, ◌∙◌, inl, inr, arith}
use Rattle.std.proofs.lemmas.Bool.{cases_lt}
use Rattle.std.proofs.lemmas.List.{get_or_past}
use Rattle.table.specs.Records.{forms, form_of, no_op}
use Rattle.table.proofs.forms.Form.of.Goals as goal

pub returns-in-23 : goal.returns-in-23
returns-in-23 c =
    elim (cases_lt c.args.op 24) [
      | inl l ↦ let e : c.args.op ≡ 23 = omega arith in c.asking-in-23.ensures ∙ sym (ap form_of e)
      | inr l ↦ let e : c.args.op ≡ 24 = omega arith in c.asking-in-23.ensures ∙ sym (ap form_of e)
    ]

-- no op is 0, and none is past the list
pub returns-in_default-2 : goal.returns-in_default-2
returns-in_default-2 c =
    elim (cases_lt c.args.op 1) [
      | inl l ↦ let e : c.args.op ≡ 0 = omega arith in sym (ap form_of e)
      | inr l ↦ let h : 26 ≤ c.args.op = omega arith in sym (get_or_past forms c.args.op no_op h)
    ]
