use Rattle.table.specs.Records.{meant}
use Rattle.rules.specs.Seen.{program_in, function_in}
use Rattle.rules.specs.InScope.{in_scope}
use Rattle.rules.proofs.Seen.{seen_narrow}
use Rattle.rules.proofs.Judging.{accepted_low}
use Rattle.rules.proofs.in_scope.InScope.bind.Goals as goal

pub binds-requires : goal.binds-requires
binds-requires c =
    let b = c.args.body in
    accepted_low (program_in b) (function_in b) (seen_narrow b.table) (in_scope c.args.self.now) (meant c.args.said) c.requires.allowed
