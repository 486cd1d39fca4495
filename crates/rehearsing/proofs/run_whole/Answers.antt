use Rattle.std.proofs.Common.{◌≡◌, Ok, sym, ◌∙◌}
use Rattle.list.specs.Held.{room}
use Rattle.table.specs.Reading.{program_of}
use Rattle.table.specs.Program.{program}
use Rattle.rules.specs.Scopes.{verdict}
use Rattle.machine.specs.World.{started}
use Rattle.runner.specs.Runners.{found}
use Rattle.rehearsing.proofs.Running.{held_most, told_of, ran_over}
use Rattle.rehearsing.proofs.run_whole.Goals as goal

pub returns : goal.returns
returns g c =
    let p = program_of c.in_ok-table.table in
    let m = g.M.Memory.model c.args.memory.now in
    let R = found c.in_ok-machine.machine m c.new-out.result in
    let size : room c.new-out.result ≡ 256 = c.new-out.ensures.room in
    let opens : program c.args.bytes.now ≡ Ok p = sym c.in_ok-table.ensures in
    let accepts : verdict p ≡ Ok tt = sym c.in_ok-check.ensures.value in
    let starts : started m ≡ Ok R.world = sym c.in_ok-machine.ensures in
    let left = c.rounds-steps.new in
    let run = c.rounds-steps.ensures in
    let numbers = c.copied.ensures.numbers (held_most left.out 256 (run.room ∙ size)) in
    let tally = c.copied.ensures.tally ∙ c.of.ensures in
    let ends = told_of c.args.limit p (room c.new-out.result) R left.machine (g.M.Memory.model left.memory) left.out c.rounds-steps.result _ _ size c.new-out.ensures.held run.left run.taken numbers tally in
    ran_over c.args.limit m c.args.bytes.now p R.world _ opens accepts starts ends
