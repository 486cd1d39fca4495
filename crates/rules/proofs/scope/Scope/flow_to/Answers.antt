use Rattle.std.proofs.Common.{ℕ, get_or, sym, ◌∙◌, rules, tests, arith}
use Rattle.std.proofs.lemmas.Iterator.{YieldsList-from_slice}
use Rattle.std.proofs.lemmas.Iterator.Consumers.{YieldsList-from_enumerate}
use Rattle.std.proofs.lemmas.Iterator.Search.{all_from_yields_List}
use Rattle.rules.specs.Rules.{callee, flows, slot, number}
use Rattle.rules.specs.Seen.{program_in}
use Rattle.rules.proofs.Lists.{flow_all}
use Rattle.rules.proofs.scope.Scope.flow_to.Goals as goal

pub returns : goal.returns
returns c =
    let ts = c.args.self.types.now in
    let ps = (callee (program_in c.args.self.body) c.args.n).params in
    all_from_yields_List (λ (q : ℕ × ℕ). flows (slot ts q.1) (get_or ps q.0 number)) _ _ c.all.result c.all.ensures.ran
    (YieldsList-from_enumerate (YieldsList-from_slice c.args.slots.now cc) cc) (λ x b q k. search (rules, tests))
    ∙ sym (flow_all ts ps 0 c.args.slots.now (omega arith))
