use Rattle.std.proofs.Common.{◌≡◌, suc, length, refl, ap, ◌∙◌, arith}
use Rattle.rules.specs.declared.parts.Part.{Part}
use Rattle.rules.specs.Seen.{program_in, function_in}
use Rattle.rules.specs.Parts.{scanned}
use Rattle.rules.specs.InScope.{in_scope}
use Rattle.rules.proofs.Checked.{body_read}
use Rattle.rules.proofs.checking.check_body.Goals as goal

pub returns : goal.returns
returns c =
    let b = c.args.body in
    let n = length (function_in b).records in
    let end : c.whole.result.end ≡ n = ap (λ (q : Part). q.end) c.whole.ensures in
    body_read (program_in b) (function_in b) b.function n c.check_block.result (in_scope c.enter.new.self) c.enter.ensures.types refl
    (c.check_block.ensures.value (suc n) (omega arith) ∙ ap (scanned (suc n) b (in_scope c.enter.new.self)) c.whole.ensures)
