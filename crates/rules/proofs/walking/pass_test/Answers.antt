use Rattle.std.proofs.Common.{◌+◌, ap, add-one, arith}
use Rattle.rules.specs.Seen.{program_in, function_in}
use Rattle.rules.specs.InScope.{in_scope}
use Rattle.rules.proofs.Walk.{toward_yes, toward_no, toward_behind}
use Rattle.rules.proofs.walking.pass_test.Goals as goal

pub returns-then-ahead-yes-clause-leads : goal.returns-then-ahead-yes-clause-leads
returns-then-ahead-yes-clause-leads c = λ way tests ok there.
    let b = c.args.body in
    toward_yes (program_in b) (function_in b) c.args.index ok there c.args.place (in_scope c.args.types.now) c.args.test c.args.yes c.args.no (way ok there) tests
    (c.args.place + 1) (in_scope c.change.new.self) (add-one c.args.place) (omega arith) c.change.ensures.types

pub returns-then-ahead-yes-2-clause-leads : goal.returns-then-ahead-yes-2-clause-leads
returns-then-ahead-yes-2-clause-leads c = λ way tests ok there.
    let b = c.args.body in
    toward_no (program_in b) (function_in b) c.args.index ok there c.args.place (in_scope c.args.types.now) c.args.test c.args.yes c.args.no (way ok there) tests
    (c.args.place + 1 + c.args.yes) (ap (λ n. n + c.args.yes) (add-one c.args.place)) (omega arith) (omega arith)

pub returns-else-ahead-yes-2-clause-leads : goal.returns-else-ahead-yes-2-clause-leads
returns-else-ahead-yes-2-clause-leads c = λ way tests ok there.
    let b = c.args.body in
    toward_behind (program_in b) (function_in b) c.args.index ok there c.args.place (in_scope c.args.types.now) c.args.test c.args.yes c.args.no (way ok there) tests
    (c.args.place + 1 + c.args.yes + c.args.no) (ap (λ n. n + c.args.yes + c.args.no) (add-one c.args.place)) (omega arith)
