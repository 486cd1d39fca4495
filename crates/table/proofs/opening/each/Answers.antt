use Rattle.std.proofs.Common.{◌<◌, Err, arith}
use Rattle.table.proofs.Listing.{each_refused}
use Rattle.table.proofs.opening.each.Goals as goal

pub returns-in_err-passes : goal.returns-in_err-passes
returns-in_err-passes g c = λ at h.
    let l : c.loop-i.i < c.args.n = omega arith in
    each_refused c.args.n at c.loop-i.i c.in_err-passes.field-0.0 c.from_residual.result l (c.loop-i.invariant at (λ i r k. h i r (omega arith))) (h c.loop-i.i (Err c.in_err-passes.field-0.0) l c.in_err-passes.ensures) c.from_residual.ensures.1
