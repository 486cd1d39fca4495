use Rattle.std.proofs.Common.{rules, tests, ◌∙◌}
use Rattle.std.proofs.lemmas.Iterator.{YieldsList-from_slice}
use Rattle.std.proofs.lemmas.Iterator.Search.{all_from_yields_List}
use Rattle.table.specs.Reading.{program_of}
use Rattle.machine.specs.World.{in_table}
use Rattle.owning.proofs.Sums.{all_known}
use Rattle.owning.proofs.known.all_in_table.Goals as goal

pub returns : goal.returns
returns c =
    let p = program_of c.args.table.now in
    all_from_yields_List (in_table p) _ _ c.all.result c.all.ensures.ran (YieldsList-from_slice c.args.frames.now cc) (λ x b q k. search (rules, tests)) ∙ all_known p c.args.frames.now
