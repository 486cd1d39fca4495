use Rattle.std.proofs.Common.{length, ap, ◌∙◌, arith, length-take}
use Rattle.table.specs.Reading.{program_of}
use Rattle.rules.specs.Rules.{callee}
use Rattle.stepping.specs.Calling.{handed}
use Rattle.stepping.proofs.Arguments.{all_given_is, all_suit_first, handed_front}
use Rattle.stepping.proofs.calls.hand_over.Goals as goal

pub pass-requires-clause-each : goal.pass-requires-clause-each
pass-requires-clause-each c =
    let ts = (callee (program_of c.args.table.now) c.args.n).params in
    omega (arith, ap length c.operands-handed.ensures.value, length-take (length ts) c.args.args.now)

pub returns-in_err-require : goal.returns-in_err-require
returns-in_err-require c = grind (arith, all_given_is, all_suit_first)

pub returns-in_err-require-2 : goal.returns-in_err-require-2
returns-in_err-require-2 c = grind (arith, all_given_is, all_suit_first)

pub returns : goal.returns
returns c =
    let p = program_of c.args.table.now in
    let h = c.pass.ensures ∙ ap (handed p c.args.frame c.args.n) c.operands-handed.ensures.value ∙ handed_front p c.args.frame c.args.n c.args.args.now in
    grind (arith, all_given_is, all_suit_first, h)
