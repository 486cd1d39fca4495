use Rattle.std.proofs.Common.{◌≡◌, true, None, sym, ◌∙◌, rules}
use Rattle.std.proofs.lemmas.Bool.{cond-true}
use Rattle.table.specs.Reading.{program_of}
use Rattle.machine.specs.World.{is_running, task_of}
use Rattle.machine.specs.Ways.{standing}
use Rattle.machine.specs.Clashes.{touch_by}
use Rattle.stepping.proofs.Touching.{touch_newest}
use Rattle.stepping.proofs.clashing.touch.Goals as goal

pub returns : goal.returns
returns g c =
    let p = program_of c.args.table.now in
    let m = g.M.Memory.model c.args.memory.now in
    let t = task_of c.args.thread.now in
    let running : is_running t.status ≡ true = search rules in
    c.touch_from.ensures
    ∙ touch_newest p m t.frames c.in_ok-from_end.field-0 (sym c.in_ok-from_end.was ∙ c.from_end.ensures)
    ∙ sym (cond-true (is_running t.status) (touch_by p m t.frames (standing p t.frames)) None running)
