use Rattle.std.proofs.Common.{rules, tests, ◌==◌, ◌∙◌}
use Rattle.std.specs.Prelude.{zip}
use Rattle.std.proofs.lemmas.Iterator.{YieldsList-from_slice, YieldsList-from_zip}
use Rattle.std.proofs.lemmas.Iterator.Consumers.{YieldsList-at, YieldsList-from_filter, count_from_yields_List}
use Rattle.std.proofs.lemmas.List.Sums.{length-filter}
use Rattle.table.specs.declared.types.Ty.{Ty}
use Rattle.machine.specs.declared.threads.Slot.{Slot}
use Rattle.safety.specs.Owners.{owns}
use Rattle.owning.proofs.Sums.{slots_counted}
use Rattle.owning.proofs.counting.slots_owning.Goals as goal

pub returns-clause-value : goal.returns-clause-value
returns-clause-value c =
    let ts = c.args.types.now in
    let vs = c.args.slots.now in
    let o = c.args.object in
    let test = λ (x : Ty × Slot). owns x.0 x.1 o == 1 in
    let pairs = YieldsList-from_zip (YieldsList-at c.zip.ensures.first (YieldsList-from_slice ts cc)) (YieldsList-at c.zip.ensures.second (YieldsList-from_slice vs cc)) in
    count_from_yields_List _ c.count.result c.count.ensures.ran (YieldsList-from_filter _ test (YieldsList-at c.filter.ensures.source pairs) c.filter.ensures.closure (λ x b q k. search (rules, tests)))
    ∙ length-filter test (zip ts vs)
    ∙ slots_counted ts vs o
