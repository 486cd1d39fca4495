use Rattle.std.proofs.Common.{◌≡◌, ◌+◌, ◌-◌, ◌<◌, length, take, drop, sym, ap, ◌∙◌, arith}
use Rattle.std.proofs.lemmas.List.{length-take, length-drop}
use Rattle.table.specs.Records.{meant_by, decoded}
use Rattle.table.specs.Reading.{bytes_of}
use Rattle.table.proofs.Reading.{short_says_nothing}
use Rattle.table.proofs.view.Table.decode_at.Goals as goal

pub returns-in_err-record : goal.returns-in_err-record
returns-in_err-record c =
    let h : length (take 12 (drop c.args.place (bytes_of c.args.self.now))) < 12 = simp (length-take, length-drop) (omega (arith, c.in_err-record.ensures.lookup)) in
    ap meant_by c.from_residual.ensures ∙ sym (short_says_nothing (take 12 (drop c.args.place (bytes_of c.args.self.now))) h)

pub returns : goal.returns
returns c =
    let e : c.args.place + 12 - c.args.place ≡ 12 = omega arith in
    c.decode.ensures ∙ ap decoded c.in_ok-record.ensures.lookup.0.2 ∙ ap (λ n. decoded (take n (drop c.args.place (bytes_of c.args.self.now)))) e
