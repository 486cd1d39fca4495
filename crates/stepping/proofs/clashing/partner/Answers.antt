use Rattle.std.proofs.Common.{Some, None, ◌∙◌, arith}
use Rattle.table.specs.Reading.{program_of}
use Rattle.stepping.proofs.Touching.{partner_by}
use Rattle.stepping.proofs.clashing.partner.Goals as goal

pub returns-in_err-between : goal.returns-in_err-between
returns-in_err-between g c =
    c.from_residual-in_err-between.ensures
    ∙ partner_by (program_of c.args.table.now) (g.M.Memory.model c.args.memory.now) c.args.lower (c.in_ok-object.object, c.in_ok-object.field) _ c.args.behind.now None c.in_ok-object.ensures c.in_err-between.ensures.value

pub overflow_add-result-2 : goal.overflow_add-result-2
overflow_add-result-2 g c = omega (arith, c.in_ok-between.ensures.within)

pub returns : goal.returns
returns g c =
    partner_by (program_of c.args.table.now) (g.M.Memory.model c.args.memory.now) c.args.lower (c.in_ok-object.object, c.in_ok-object.field) _ c.args.behind.now (Some c.in_ok-between.between) c.in_ok-object.ensures c.in_ok-between.ensures.value
