use Rattle.std.proofs.Common.{◌≡◌, ℕ, Some, Result, sym, ap, ◌∙◌, subst, rules}
use Rattle.table.specs.Faults.{number_of, numbered}
use Rattle.table.specs.Records.{meant}
use Rattle.table.specs.Reading.{program_of}
use Rattle.machine.specs.Stacks.{frames_of}
use Rattle.stepping.specs.declared.turning.Outcome.{Outcome}
use Rattle.stepping.specs.Turns.{FitsIn}
use Rattle.stepping.proofs.Frames.{stands_at}
use Rattle.stepping.proofs.Takes.{takes, acted_fits, acted_kept}
use Rattle.stepping.proofs.turning.turn.Goals as goal

pub returns-clause-value : goal.returns-clause-value
returns-clause-value g c =
    let p = program_of c.args.table.now in
    let m = g.M.Memory.model c.args.memory.now in
    let fs = frames_of c.args.thread.now in
    let found : Some c.in_ok-frame.frame ≡ c.from_end.result = search rules in
    let s = stands_at p fs c.in_ok-frame.frame (found ∙ c.from_end.ensures) in
    takes p fs m c.args.threads c.args.room (g.M.Memory.model c.act.new.memory) c.in-Some.stood.0 c.from_end-2.result c.len.result (meant c.in-Some.stood.1) (numbered c.act.result)
    (c.in-Some.ensures.same ∙ s.0) c.from_end-2.ensures c.len.ensures.value (c.in-Some.ensures.value ∙ s.1) c.act.ensures.value c.act.ensures.after

pub returns-clause-kept : goal.returns-clause-kept
returns-clause-kept g c =
    let m = g.M.Memory.model c.args.memory.now in
    λ r e.
    c.act.ensures.after
    ∙ acted_kept (program_of c.args.table.now) m c.in-Some.stood.0 c.from_end-2.result c.len.result c.args.threads c.args.room (meant c.in-Some.stood.1) (number_of r) (sym c.act.ensures.value ∙ ap numbered e)

pub returns-clause-fits : goal.returns-clause-fits
returns-clause-fits g c =
    let m = g.M.Memory.model c.args.memory.now in
    subst (λ (k : ℕ). FitsIn k c.args.threads c.args.room (numbered c.act.result)) c.len.ensures.value
    (subst (λ (r : Result Outcome ℕ). FitsIn c.len.result c.args.threads c.args.room r) (sym c.act.ensures.value)
    (acted_fits (program_of c.args.table.now) m c.in-Some.stood.0 c.from_end-2.result c.len.result c.args.threads c.args.room (meant c.in-Some.stood.1)))
