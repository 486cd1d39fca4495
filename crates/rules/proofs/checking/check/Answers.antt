use Rattle.std.proofs.Common.{◌<◌, ◌≤◌, leb, length, Err, ap, ◌∙◌, arith}
use Rattle.std.proofs.lemmas.Result.{err_from_is_err_and}
use Rattle.std.proofs.lemmas.Bool.{leb-true, leb-false}
use Rattle.rules.specs.Seen.{seen}
use Rattle.rules.proofs.Seen.{seen_functions}
use Rattle.rules.proofs.Judging.{required_ok, required_err}
use Rattle.rules.proofs.Checked.{checked_small, checked_large, bodies_stop, bodies_go, bodies_end, answer}
use Rattle.rules.proofs.checking.check.Goals as goal

pub returns-in_err-require : goal.returns-in_err-require
returns-in_err-require c =
    let t = c.args.table.now in
    let n = length c.args.scratch.now in
    let p = err_from_is_err_and c.from_residual.result c.from_residual.ensures.1 in
    let k = required_err (leb 128 n) c.at.result c.in_err-require.field-0.0 c.in_err-require.ensures in
    let a = answer t n _ (p.1 ∙ ap Err (p.2 ∙ k.1 ∙ c.at.ensures) ∙ checked_small n (seen t) (leb-false 128 n k.0)) in
    record { value = a.0; opened = a.1 }

pub loop-function-preserved : goal.loop-function-preserved
loop-function-preserved c =
    let t = c.args.table.now in
    let i = c.loop-function.function in
    let low : i < length (seen t).functions = omega (arith, seen_functions t) in
    bodies_go (seen t) i low c.loop-function.invariant c.in_ok-check_body.ensures

pub returns-in_err-check_body : goal.returns-in_err-check_body
returns-in_err-check_body c =
    let t = c.args.table.now in
    let n = length c.args.scratch.now in
    let i = c.loop-function.function in
    let low : i < length (seen t).functions = omega (arith, seen_functions t) in
    let p = err_from_is_err_and c.from_residual-in_err-check_body.result c.from_residual-in_err-check_body.ensures.1 in
    let large = checked_large n (seen t) (leb-true 128 n (required_ok (leb 128 n) c.at.result c.in_ok-require.field-0 c.in_ok-require.ensures)) in
    let a = answer t n _ (p.1 ∙ ap Err p.2 ∙ bodies_stop (seen t) i _ low c.loop-function.invariant c.in_err-check_body.ensures ∙ large) in
    record { value = a.0; opened = a.1 }

pub returns : goal.returns
returns c =
    let t = c.args.table.now in
    let n = length c.args.scratch.now in
    let i = c.loop-function.function in
    let all : length (seen t).functions ≤ i = omega (arith, seen_functions t) in
    let large = checked_large n (seen t) (leb-true 128 n (required_ok (leb 128 n) c.at.result c.in_ok-require.field-0 c.in_ok-require.ensures)) in
    let a = answer t n _ (bodies_end (seen t) i all c.loop-function.invariant ∙ large) in
    record { value = a.0; opened = a.1 }
