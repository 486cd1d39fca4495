use Rattle.std.proofs.Common.{length, take, ◌∙◌, ap, arith}
use Rattle.table.specs.Reading.{program_of}
use Rattle.rules.proofs.Before.{scoped_accepted}
use Rattle.safety.specs.Owners.{types_before, slots_owning}
use Rattle.owning.proofs.Sums.{record_there, types_front}
use Rattle.owning.proofs.counting.Owning.in_frame.Goals as goal

pub returns-clause-value : goal.returns-clause-value
returns-clause-value c =
    let p = program_of c.args.self.now.table.now in
    let F = c.args.frame.now in
    let found = c.scope_at.ensures.value ∙ scoped_accepted (length c.args.scratch.now) F.function F.index p (omega arith) c.args.self.now.accepted (record_there p F c.requires) in
    let front = ap (λ d. take d c.scope_at.new.scratch) c.unwrap_or-depth.ensures ∙ types_front (types_before p F.function F.index) c.scope_at.new.scratch c.scope_at.result found c.scope_at.ensures.types in
    c.slots_owning.ensures.value ∙ ap (λ ts. slots_owning ts F.slots c.args.self.now.object) front
