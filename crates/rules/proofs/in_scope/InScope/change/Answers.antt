use Rattle.std.proofs.Common.{List, get_or, refl, ap}
use mathlib.Core.Path.{subst⁻¹}
use Rattle.table.specs.declared.types.Ty.{Ty}
use Rattle.rules.specs.Rules.{number}
use Rattle.rules.specs.Scoped.{Changes}
use Rattle.rules.specs.Seen.{program_in, function_in}
use Rattle.rules.specs.InScope.{in_scope}
use Rattle.rules.proofs.Seen.{seen_narrow}
use Rattle.rules.proofs.InScope.{back_set}
use Rattle.rules.proofs.Judging.{accepted_changes}
use Rattle.rules.proofs.in_scope.InScope.change.Goals as goal

pub changes-change-requires : goal.changes-change-requires
changes-change-requires c =
    let b = c.args.body in
    let k = accepted_changes (program_in b) (function_in b) (seen_narrow b.table) (in_scope c.args.self.now) c.args.test c.requires.allowed in
    subst⁻¹ (λ (ts : List Ty). Changes ts c.args.test) c.all.ensures k

pub returns-clause-back : goal.returns-clause-back
returns-clause-back c =
    let x = c.changes-change.result.slot in
    back_set (in_scope c.args.self.now) _ x c.changes-change.result.ty _ c.set.ensures.held c.len-depth.ensures.value refl
    (ap (λ (ts : List Ty). get_or ts x number) c.all-2.ensures)
