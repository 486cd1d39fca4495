use Rattle.std.proofs.Common.{◌+◌, ◌∙◌, add-one, arith}
use Rattle.table.specs.Records.{meant}
use Rattle.rules.specs.Rules.{record_at}
use Rattle.rules.specs.Seen.{program_in, function_in}
use Rattle.rules.specs.InScope.{in_scope}
use Rattle.rules.proofs.Walk.{none_meant, allowed_some, never_refused, toward_plain}
use Rattle.rules.proofs.walking.advance.Goals as goal

pub returns-in_default-clause-leads : goal.returns-in_default-clause-leads
returns-in_default-clause-leads c = λ way ok there.
    let b = c.args.body in
    never_refused (program_in b) (function_in b) c.args.index ok there c.args.place (in_scope c.args.types.now) c.requires.before (way ok there)
    (none_meant c.allowed.result c.in_default.not-Some ∙ c.allowed.ensures)

pub bind-requires : goal.bind-requires
bind-requires c =
    let b = c.args.body in
    let a = allowed_some (program_in b) (function_in b) (in_scope c.args.types.now) (record_at (function_in b) c.args.place) (meant c.in-Some.said) c.in-Some.ensures in
    record { allowed = a.1 }

pub returns-in_default-said : goal.returns-in_default-said
returns-in_default-said c =
    let b = c.args.body in
    let ts = in_scope c.args.types.now in
    let a = allowed_some (program_in b) (function_in b) ts (record_at (function_in b) c.args.place) (meant c.in-Some.said) c.in-Some.ensures in
    record {
      nearer = (omega arith, omega (arith, c.requires.before));
      leads = λ way ok there.
          toward_plain (program_in b) (function_in b) c.args.index ok there c.args.place (c.args.place + 1) ts (in_scope c.bind.new.self) c.in-Some.said
          (add-one c.args.place) c.requires.before (way ok there) a.0 c.in_default-said.not-Ask c.bind.ensures.types;
      same = c.bind.ensures.same;
    }
