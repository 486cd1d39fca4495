use Rattle.std.proofs.Common.{◌≡◌, ltb, length, take, Err, refl, ap, ◌∙◌, arith, rules}
use Rattle.std.proofs.lemmas.Result.{err_from_is_err_and}
use Rattle.std.proofs.lemmas.Bool.{ltb-true, ltb-false}
use Rattle.table.specs.Reading.{program_of}
use Rattle.list.specs.Held.{held}
use Rattle.list.proofs.Ends.{front_is}
use Rattle.rules.specs.Rules.{callee}
use Rattle.rules.specs.Scopes.{before}
use Rattle.rules.specs.Seen.{seen}
use Rattle.rules.specs.Before.{counted}
use Rattle.rules.proofs.Judging.{required_ok, required_err}
use Rattle.rules.proofs.Seen.{seen_is}
use Rattle.rules.proofs.Before.{counted_missing, counted_refused, counted_found}
use Rattle.rules.proofs.scoping.scope_in.Goals as goal

pub returns-in_err-require-clause-value : goal.returns-in_err-require-clause-value
returns-in_err-require-clause-value c =
    let p = err_from_is_err_and c.from_residual.result c.from_residual.ensures.1 in
    let k = required_err (ltb c.args.index c.records.result) c.at.result c.in_err-require.field-0.0 c.in_err-require.ensures in
    p.1 ∙ ap Err (p.2 ∙ k.1 ∙ c.at.ensures)
    ∙ counted_missing c.args.function c.args.index (seen c.args.table.now) (omega (arith, ltb-false c.args.index c.records.result k.0, c.records.ensures.value))
    ∙ ap (λ p. counted p c.args.function c.args.index) (seen_is c.args.table.now)

pub returns-in_err-read_up_to-clause-value : goal.returns-in_err-read_up_to-clause-value
returns-in_err-read_up_to-clause-value c =
    let p = err_from_is_err_and c.from_residual-in_err-read_up_to.result c.from_residual-in_err-read_up_to.ensures.1 in
    let k = required_ok (ltb c.args.index c.records.result) c.at.result c.in_ok-require.field-0 c.in_ok-require.ensures in
    p.1 ∙ ap Err p.2
    ∙ counted_refused c.args.function c.args.index (seen c.args.table.now) _ (omega (arith, ltb-true c.args.index c.records.result k, c.records.ensures.value))
    c.in_err-read_up_to.ensures.value
    ∙ ap (λ q. counted q c.args.function c.args.index) (seen_is c.args.table.now)

pub returns-clause-value : goal.returns-clause-value
returns-clause-value c =
    let j = c.args.index in
    let k = required_ok (ltb j c.records.result) c.at.result c.in_ok-require.field-0 c.in_ok-require.ensures in
    counted_found c.args.function j (seen c.args.table.now) c.len.result (omega (arith, ltb-true j c.records.result k, c.records.ensures.value)) c.in_ok-read_up_to.ensures.value
    (c.len.ensures.value ∙ ap length (c.in_ok-read_up_to.ensures.types refl))
    ∙ ap (λ q. counted q c.args.function j) (seen_is c.args.table.now)

pub returns-clause-types : goal.returns-clause-types
returns-clause-types c =
    let j = c.args.index in
    let t = c.args.table.now in
    let list = c.read_up_to.new.types.list.now in
    let types : held c.read_up_to.new.types.list.now ≡ (before (seen c.args.table.now) (callee (seen c.args.table.now) c.args.function) c.args.index).types = c.in_ok-read_up_to.ensures.types refl in
    let front : take c.len.result c.read_up_to.new.types.list.now.items.now ≡ (before (program_of c.args.table.now) (callee (program_of c.args.table.now) c.args.function) c.args.index).types =
    ap (λ n. take n list.items.now) c.len.ensures.value ∙ front_is list.len list.items.now ∙ types
    ∙ ap (λ q. (before q (callee q c.args.function) j).types) (seen_is t)
    in
    search rules
