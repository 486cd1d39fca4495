use Rattle.std.proofs.Common.{Err, ap, ◌∙◌}
use Rattle.std.proofs.lemmas.Result.{err_from_is_err_and}
use Rattle.rules.specs.InScope.{in_scope}
use Rattle.rules.proofs.InScope.{same_then}
use Rattle.rules.proofs.Before.{reached_refused, reached_next}
use Rattle.rules.proofs.scoping.read_up_to.Goals as goal

pub returns-in_err-pass-clause-value : goal.returns-in_err-pass-clause-value
returns-in_err-pass-clause-value c =
    let p = err_from_is_err_and c.from_residual.result c.from_residual.ensures.1 in
    p.1 ∙ ap Err p.2
    ∙ reached_refused c.args.body c.args.index c.requires.there c.loop-place.place (in_scope c.loop-place.types) _ c.loop-place.invariant.0 c.loop-place-test.true _
    c.in_err-pass.ensures.value

pub loop-place-preserved : goal.loop-place-preserved
loop-place-preserved c = (
  reached_next c.args.body c.args.index c.requires.there c.loop-place.place (in_scope c.loop-place.types) _ c.loop-place.invariant.0 c.loop-place-test.true _ _ c.in_ok-pass.ensures.value,
  same_then _ _ _ c.loop-place.invariant.1 c.pass.ensures.same,
)
