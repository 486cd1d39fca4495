use Rattle.std.proofs.Common.{Err, ap, ◌∙◌}
use Rattle.std.proofs.lemmas.Result.{err_from_is_err_and}
use Rattle.table.specs.Faults.{number_of, numbered}
use Rattle.table.specs.Reading.{program_of}
use Rattle.machine.specs.declared.threads.Frame.{Frame}
use Rattle.machine.specs.Trying.{answered, answered_store}
use Rattle.machine.specs.Tests.{trial}
use Rattle.machine.proofs.Answering.{ask_done}
use Rattle.machine.proofs.standing.Standing.ask.Goals as goal

pub returns-in_err-answer : goal.returns-in_err-answer
returns-in_err-answer g c =
    let p = program_of c.args.table.now in
    let m = g.M.Memory.model c.args.memory.now in
    let d = err_from_is_err_and c.from_residual.result c.from_residual.ensures.1 in
    let done = ask_done p m (g.M.Memory.model c.answer.new.memory) c.args.self c.args.test c.args.yes c.args.no
    (Err (number_of c.in_err-answer.field-0.0)) (numbered c.from_residual.result)
    (c.in_err-answer.ensures.value ∙ ap (λ (F : Frame). answered F (trial p m F.slots c.args.test)) c.frame-frame.ensures)
    (c.in_err-answer.ensures.after ∙ ap (λ (F : Frame). answered_store m (trial p m F.slots c.args.test)) c.frame-frame.ensures)
    (ap numbered (d.1 ∙ ap Err d.2)) in
    record { value = done.0; after = done.1 }
