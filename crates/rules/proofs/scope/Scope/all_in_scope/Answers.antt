use Rattle.std.proofs.Common.{ltb, length, sym, ◌∙◌, rules, tests}
use Rattle.std.proofs.lemmas.Iterator.{YieldsList-from_slice}
use Rattle.std.proofs.lemmas.Iterator.Search.{all_from_yields_List}
use Rattle.rules.proofs.Lists.{below_all}
use Rattle.rules.proofs.scope.Scope.all_in_scope.Goals as goal

pub returns : goal.returns
returns c =
    let d = length c.args.self.types.now in
    all_from_yields_List (λ x. ltb x d) _ _ c.all.result c.all.ensures.ran (YieldsList-from_slice c.args.slots.now cc) (λ x b q k. search (rules, tests))
    ∙ sym (below_all d c.args.slots.now)
