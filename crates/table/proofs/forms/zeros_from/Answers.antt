use Rattle.std.proofs.Common.{◌≡◌, ◌+◌, ◌<◌, ◌≤◌, ◌&&◌, eqb, length, get_or, drop, sym, ◌∙◌, arith}
use Rattle.std.proofs.lemmas.List.{at_drop_more, at_drop_all}
use Rattle.std.proofs.lemmas.Bool.Decides.{nat_tests}
use Rattle.table.specs.Records.{zeros}
use Rattle.table.proofs.forms.zeros_from.Goals as goal

pub returns-then-bytes-i-ne0 : goal.returns-then-bytes-i-ne0
returns-then-bytes-i-ne0 c =
    let h : c.loop-i.i < length c.args.bytes.now = omega arith in
    let e : zeros (drop c.loop-i.i c.args.bytes.now) ≡ (eqb (get_or c.args.bytes.now c.loop-i.i 0) 0 && zeros (drop (c.loop-i.i + 1) c.args.bytes.now)) =
    at_drop_more zeros c.args.bytes.now c.loop-i.i 0 h in
    grind (arith, nat_tests)

pub loop-i-preserved : goal.loop-i-preserved
loop-i-preserved c =
    let h : c.loop-i.i < length c.args.bytes.now = omega arith in
    let e : zeros (drop c.loop-i.i c.args.bytes.now) ≡ (eqb (get_or c.args.bytes.now c.loop-i.i 0) 0 && zeros (drop (c.loop-i.i + 1) c.args.bytes.now)) =
    at_drop_more zeros c.args.bytes.now c.loop-i.i 0 h in
    grind (arith, nat_tests)

pub returns : goal.returns
returns c =
    let h : length c.args.bytes.now ≤ c.loop-i.i = omega arith in
    sym (at_drop_all zeros c.args.bytes.now c.loop-i.i h) ∙ c.loop-i.invariant
