use Rattle.std.proofs.Common.{◌≡◌, ◌+◌, ◌-◌, ◌<◌, ◌≤◌, length, take, None, Err, ap, ◌∙◌, sym, arith, rules}
use Rattle.std.proofs.lemmas.Result.{err_from_is_err_and}
use Rattle.table.specs.Records.{meant}
use Rattle.list.specs.Held.{held}
use Rattle.rules.specs.Rules.{record_at, first, asks}
use Rattle.rules.specs.Seen.{program_in, function_in}
use Rattle.rules.specs.InScope.{in_scope}
use Rattle.rules.proofs.InScope.{kept_grown}
use Rattle.rules.proofs.Judging.{accepted, accepted_test}
use Rattle.rules.proofs.Blocking.{part_refused, part_asks, part_goes, yes_refused, no_refused, behind_said}
use Rattle.rules.proofs.checking.+check_block_check_test_check_yes.Goals as goal

pub check_block-returns-in_err-said-clause-value : goal.check_block-returns-in_err-said-clause-value
check_block-returns-in_err-said-clause-value t c = λ f h.
    let b = c.args.body in
    let ts = in_scope c.args.types.now in
    let p = err_from_is_err_and c.from_residual.result c.from_residual.ensures.1 in
    p.1 ∙ ap Err p.2
    ∙ part_refused b ts c.args.part c.requires.stands.inside (omega arith) f h _ c.in_err-said.ensures

pub check_block-check_test-requires : goal.check_block-check_test-requires
check_block-check_test-requires t c =
    let b = c.args.body in
    let q = c.args.part in
    let ts = in_scope c.args.types.now in
    let low : q.place < q.end = omega arith in
    let k : (q.place + 1 + c.in-Ask.yes + c.in-Ask.no ≤ q.end) × (1 ≤ q.levels) × (first (asks (program_in b) (function_in b) ts c.in-Ask.test) ≡ None) =
    accepted_test (program_in b) (function_in b) b.function q.levels q.place q.end q.sort ts (record_at (function_in b) q.place)
    (meant c.in_ok-said.said) c.in-Ask.test c.in-Ask.yes c.in-Ask.no low (ap meant c.in-Ask.is) c.in_ok-said.ensures
    in
    search rules

pub check_block-bind-requires : goal.check_block-bind-requires
check_block-bind-requires t c =
    let b = c.args.body in
    let q = c.args.part in
    let ts = in_scope c.args.types.now in
    let k =
    accepted (program_in b) (function_in b) b.function q.levels (q.end - (q.place + 1)) q.sort ts q.place (record_at (function_in b) q.place) (meant c.in_ok-said.said)
    c.in_ok-said.ensures
    in
    record { allowed = k.0 }

pub check_block-returns-in-Ask-clause-value : goal.check_block-returns-in-Ask-clause-value
check_block-returns-in-Ask-clause-value t c = λ f h.
    let b = c.args.body in
    let ts = in_scope c.args.types.now in
    part_asks b ts c.args.part c.requires.stands.inside (omega arith) f h (meant c.in_ok-said.said) c.in-Ask.test c.in-Ask.yes c.in-Ask.no _ (ap meant c.in-Ask.is)
    c.in_ok-said.ensures c.check_test.ensures.value

pub check_block-returns-in_default : goal.check_block-returns-in_default
check_block-returns-in_default t c =
    let b = c.args.body in
    let ts = in_scope c.args.types.now in
    record {
      value = λ f h.
          part_goes b ts c.args.part c.requires.stands.inside (omega arith) f h c.in_ok-said.said (in_scope c.bind.new.self) _ c.in_default.not-Ask c.bind.ensures.types
          c.in_ok-said.ensures c.check_block.ensures.value;
      kept = kept_grown ts (in_scope c.bind.new.self) (in_scope c.check_block.new.types) _ c.bind.ensures.types c.check_block.ensures.kept;
    }

pub check_test-returns-in_err-check_yes-clause-value : goal.check_test-returns-in_err-check_yes-clause-value
check_test-returns-in_err-check_yes-clause-value t c = λ f h.
    let p = err_from_is_err_and c.from_residual.result c.from_residual.ensures.1 in
    p.1 ∙ ap Err p.2
    ∙ yes_refused c.args.body (in_scope c.args.types.now) c.args.part c.args.test c.args.yes c.args.no c.requires.inside f _ (c.in_err-check_yes.ensures.value f (omega (arith, c.requires.inside)))

pub check_test-returns-in_err-no_block-clause-value : goal.check_test-returns-in_err-no_block-clause-value
check_test-returns-in_err-no_block-clause-value t c = λ f h.
    let p = err_from_is_err_and c.from_residual-in_err-no_block.result c.from_residual-in_err-no_block.ensures.1 in
    p.1 ∙ ap Err p.2
    ∙ no_refused c.args.body (in_scope c.args.types.now) c.args.part c.args.test c.args.yes c.args.no c.requires.inside f (in_scope c.check_yes.new.types) c.check_yes.ensures.same
    (c.in_ok-check_yes.ensures.value f (omega (arith, c.requires.inside))) _ (c.in_err-no_block.ensures.value f (omega (arith, c.requires.inside)))

pub check_test-returns-clause-value : goal.check_test-returns-clause-value
check_test-returns-clause-value t c = λ f h.
    let cut : held c.truncate.new.self ≡ in_scope c.check_yes.new.types =
    c.truncate.ensures.held ∙ ap (λ n. take n (in_scope c.check_block-no_block.new.types)) (c.len-depth.ensures.value ∙ ap length (sym c.check_yes.ensures.same)) ∙ c.check_block-no_block.ensures.kept
    in
    behind_said c.args.body (in_scope c.args.types.now) c.args.part c.args.test c.args.yes c.args.no c.requires.inside f (in_scope c.check_yes.new.types) c.check_yes.ensures.same
    (c.in_ok-check_yes.ensures.value f (omega (arith, c.requires.inside))) (held c.truncate.new.self) _ cut (c.in_ok-no_block.ensures.value f (omega (arith, c.requires.inside)))
    (c.check_block.ensures.value f (omega (arith, c.requires.inside)))
