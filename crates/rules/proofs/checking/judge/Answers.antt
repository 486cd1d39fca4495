use Rattle.std.proofs.Common.{◌≡◌, ◌+◌, ◌-◌, Some, Err, sym, ap, ◌∙◌, rules}
use Rattle.std.proofs.lemmas.Result.{err_from_is_err_and}
use Rattle.table.specs.Records.{meant, meant_by}
use Rattle.rules.specs.Rules.{record_at}
use Rattle.rules.specs.Scopes.{settled}
use Rattle.rules.specs.Scoped.{refusal_of}
use Rattle.rules.specs.Parts.{said_by, refused_in}
use Rattle.rules.specs.InScope.{in_scope}
use Rattle.rules.specs.Seen.{program_in, function_in}
use Rattle.rules.proofs.Judging.{judged_settled, judged_misplaced, settled_none, required_err}
use Rattle.rules.proofs.checking.judge.Goals as goal

pub returns-in_err-map_err : goal.returns-in_err-map_err
returns-in_err-map_err c =
    let b = c.args.body in
    let q = c.args.part in
    let said : Some (meant c.in_ok-said.said) ≡ record_at (function_in b) q.place = ap meant_by (sym c.in_ok-said.ensures.ok_part) ∙ c.record_at.ensures in
    let s : c.map_err.result ≡ settled (refusal_of c.allow.result) b.function q.place = search rules in
    let p = err_from_is_err_and c.from_residual-in_err-map_err.result c.from_residual-in_err-map_err.ensures.1 in
    ap said_by (p.1 ∙ ap Err p.2)
    ∙ judged_settled (program_in b) (function_in b) b.function q.levels (q.end - (q.place + 1)) q.sort (in_scope c.args.types.now) q.place (record_at (function_in b) q.place)
    (meant c.in_ok-said.said) (refusal_of c.allow.result) c.in_err-map_err.field-0.0 said (c.allow.ensures ∙ ap (λ ts. refused_in b ts (meant c.in_ok-said.said)) c.all.ensures) (sym c.in_err-map_err.was ∙ s)

pub returns-in_err-require : goal.returns-in_err-require
returns-in_err-require c =
    let b = c.args.body in
    let q = c.args.part in
    let said : Some (meant c.in_ok-said.said) ≡ record_at (function_in b) q.place = ap meant_by (sym c.in_ok-said.ensures.ok_part) ∙ c.record_at.ensures in
    let s : c.map_err.result ≡ settled (refusal_of c.allow.result) b.function q.place = search rules in
    let none = settled_none (refusal_of c.allow.result) b.function q.place c.in_ok-map_err.field-0 (sym c.in_ok-map_err.was ∙ s) in
    let p = err_from_is_err_and c.from_residual-in_err-require.result c.from_residual-in_err-require.ensures.1 in
    let k = required_err c.fits.result c.at-2.result c.in_err-require.field-0.0 c.in_err-require.ensures in
    ap said_by (p.1 ∙ ap Err (p.2 ∙ k.1 ∙ c.at-2.ensures))
    ∙ judged_misplaced (program_in b) (function_in b) b.function q.levels (q.end - (q.place + 1)) q.sort (in_scope c.args.types.now) q.place (record_at (function_in b) q.place)
    (meant c.in_ok-said.said) said (sym none ∙ c.allow.ensures ∙ ap (λ ts. refused_in b ts (meant c.in_ok-said.said)) c.all.ensures) (sym c.fits.ensures ∙ k.0)
