use Rattle.std.proofs.Common.{rules, ◌≡◌, List, cond, map, refl, sym, ◌∙◌}
use Rattle.std.specs.Prelude.{count_by}
use Rattle.std.proofs.lemmas.List.Recursion.{is_sum_by}
use Rattle.machine.specs.declared.threads.Thread.{Thread}
use Rattle.machine.specs.World.{task_of}
use Rattle.rehearsing.specs.Reports.{is_status, how_many}
use Rattle.rehearsing.proofs.tally.how_many.Goals as goal

pub returns : goal.returns
returns c =
    let s = c.args.status in
    let counted : c.count.result ≡ count_by (λ (t : Thread). is_status s t.status) c.args.threads.now = search rules in
    counted ∙ sym (is_sum_by (λ (ts : List Thread). how_many s (map task_of ts)) (λ (t : Thread). cond (is_status s t.status) 1 0) refl (λ t ts. refl) c.args.threads.now)
