use Rattle.std.proofs.Common.{◌≡◌, sym, ap, ◌∙◌, rules, tests}
use Rattle.std.specs.Option.{option_map}
use Rattle.std.proofs.lemmas.Iterator.{YieldsList-from_slice}
use Rattle.std.proofs.lemmas.Iterator.Search.{find_from_yields_List}
use Rattle.rules.specs.Scoped.{refusal_of}
use Rattle.rules.proofs.Lists.{fails, failed, first_found}
use Rattle.rules.proofs.scope.require_all.Goals as goal

pub returns : goal.returns
returns c =
    let e = find_from_yields_List fails _ _ c.find.result c.find.ensures.ran (YieldsList-from_slice c.args.premises.now cc) (λ x b q k. search (rules, tests)) in
    let k : refusal_of c.map_or.result ≡ failed (option_map (λ x. x.now) c.find.result) = search rules in
    k ∙ ap failed e ∙ sym (first_found c.args.premises.now)
