use Rattle.std.proofs.Common.{◌+◌, ◌-◌, Err, ap, ◌∙◌, add-one}
use mathlib.Core.Path.{subst⁻¹}
use Rattle.std.proofs.lemmas.Result.{err_from_is_err_and}
use Rattle.table.specs.Records.{meant}
use Rattle.rules.specs.Rules.{record_at}
use Rattle.rules.specs.Seen.{program_in, function_in}
use Rattle.rules.specs.InScope.{in_scope}
use Rattle.rules.specs.Stacks.{state_of, stack, Passed}
use Rattle.rules.proofs.InScope.{same_then}
use Rattle.rules.proofs.Judging.{accepted}
use Rattle.rules.proofs.Stacks.{first_of, passed_not, asked_here, behind_test, behind_plain}
use Rattle.rules.proofs.scoping.pass.Goals as goal

pub returns-in_err-said-clause-value : goal.returns-in_err-said-clause-value
returns-in_err-said-clause-value c =
    let b = c.args.body in
    let ts = in_scope c.args.types.now in
    let os = stack c.args.blocks.now in
    let w = first_of b c.args.place ts c.args.blocks.now c.innermost-part.result c.innermost-part.ensures c.requires.deep c.requires.before_end in
    let p = err_from_is_err_and c.from_residual.result c.from_residual.ensures.1 in
    subst⁻¹ (Passed b c.args.place (state_of ts os) ts os) (p.1 ∙ ap Err p.2) (passed_not b c.args.place ts os c.innermost-part.result w _ c.in_err-said.ensures)

pub open_yes-requires : goal.open_yes-requires
open_yes-requires c =
    let b = c.args.body in
    let ts = in_scope c.args.types.now in
    let os = stack c.args.blocks.now in
    let w = first_of b c.args.place ts c.args.blocks.now c.innermost-part.result c.innermost-part.ensures c.requires.deep c.requires.before_end in
    let a = asked_here b c.args.place ts os c.innermost-part.result w (meant c.in_ok-said.said) c.in-Ask.test c.in-Ask.yes c.in-Ask.no (ap meant c.in-Ask.is) c.in_ok-said.ensures in
    record { less = a.1; allowed = a.2 }

pub bind-requires : goal.bind-requires
bind-requires c =
    let b = c.args.body in
    let q = c.innermost-part.result in
    let k =
    accepted (program_in b) (function_in b) b.function q.levels (q.end - (q.place + 1)) q.sort (in_scope c.args.types.now) q.place (record_at (function_in b) q.place) (meant c.in_ok-said.said) c.in_ok-said.ensures
    in
    record { allowed = k.0 }

pub returns-in-Ask-clause-value : goal.returns-in-Ask-clause-value
returns-in-Ask-clause-value c =
    let b = c.args.body in
    let ts = in_scope c.args.types.now in
    let os = stack c.args.blocks.now in
    let w = first_of b c.args.place ts c.args.blocks.now c.innermost-part.result c.innermost-part.ensures c.requires.deep c.requires.before_end in
    behind_test b c.args.place ts os c.innermost-part.result w (meant c.in_ok-said.said) c.in-Ask.test c.in-Ask.yes c.in-Ask.no (c.args.place + 1 + c.in-Ask.yes) _ _
    (ap meant c.in-Ask.is) c.in_ok-said.ensures (ap (λ n. n + c.in-Ask.yes) (add-one c.args.place)) c.open_yes.ensures.state (c.open_yes.ensures.deep c.requires.deep)

pub returns-in_default : goal.returns-in_default
returns-in_default c =
    let b = c.args.body in
    let ts = in_scope c.args.types.now in
    let os = stack c.args.blocks.now in
    let w = first_of b c.args.place ts c.args.blocks.now c.innermost-part.result c.innermost-part.ensures c.requires.deep c.requires.before_end in
    record {
      value =
          behind_plain b c.args.place ts os c.innermost-part.result w c.in_ok-said.said (c.args.place + 1) (in_scope c.bind.new.self) _ _ c.in_default.not-Ask c.in_ok-said.ensures (add-one c.args.place)
          c.bind.ensures.types c.end_blocks.ensures.state c.end_blocks.ensures.deep;
      same = same_then _ _ _ c.bind.ensures.same c.end_blocks.ensures.same;
    }
