use Rattle.std.proofs.Common.{◌++◌, get_or, take, is_ok, codes, decimal, ap, rules}
use Rattle.std.specs.Fmt.{WritesOnOk}
use Rattle.std.proofs.lemmas.List.{take_all}
use Rattle.std.proofs.Output.{writes_in_calls_nil, has_written_append, has_written_of_eq}
use Rattle.rehearsing.specs.Reports.{lines}
use Rattle.rehearsing.proofs.Lines.{lines_more}
use Rattle.rehearsing.proofs.shown.write_lines.Goals as goal

pub loop-number-init : goal.loop-number-init
loop-number-init g c = λ plain. record { wrote = writes_in_calls_nil g.W.Write.write_str_gives c.args.f.now.writer; plain = plain }

pub loop-number-preserved : goal.loop-number-preserved
loop-number-preserved g c = λ plain.
    let ns = c.args.numbers.now in
    let i = c.loop-number.number-index in
    let before = c.loop-number.invariant plain in
    let here : WritesOnOk g.W.Write.write_str_gives c.loop-number.f c.writeln.result (decimal (get_or c.args.numbers.now c.loop-number.number-index 0) ++ codes "\n") c.writeln.new.self = search rules in
    let now = here before.plain (ap is_ok c.in_ok-writeln.was) in
    has_written_of_eq g.W.Write.write_str_gives c.args.f.now _ _ c.writeln.new.self (lines_more ns i c.loop-number-test.true)
    (has_written_append g.W.Write.write_str_gives c.args.f.now (lines (take i ns)) c.loop-number.f (decimal (get_or ns i 0) ++ codes "\n") c.writeln.new.self before now)

pub returns : goal.returns
returns g c = λ plain e. has_written_of_eq g.W.Write.write_str_gives c.args.f.now _ _ c.loop-number.f (ap lines (take_all c.loop-number.number-index c.args.numbers.now c.loop-number-test.false)) (c.loop-number.invariant plain)
