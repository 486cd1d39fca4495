use Rattle.std.proofs.Common.{◌≡◌, ◌<◌, map, length, ap, ◌∙◌, arith}
use Rattle.std.proofs.lemmas.List.{length-map}
use Rattle.table.specs.declared.fault.Place.TheVariants.{Thread}
use Rattle.table.specs.Faults.{need as demanded, required}
use Rattle.table.specs.Reading.{program_of}
use Rattle.table.proofs.Listing.{each_next, each_refused, each_ends}
use Rattle.machine.specs.World.{task_of}
use Rattle.owning.proofs.Sums.{known_at, known_by}
use Rattle.owning.proofs.known.require_frames.Goals as goal

pub returns-in_err-require : goal.returns-in_err-require
returns-in_err-require c =
    let p = program_of c.args.table.now in
    let ts = c.args.threads.now in
    let i = c.loop-i.i in
    let size : length (map task_of ts) ≡ length ts = length-map ts task_of in
    let there : i < length (map task_of ts) = omega arith in
    let asked = c.in_err-require.ensures ∙ ap (required c.all_in_table.result) c.at.ensures ∙ ap (λ b. demanded b 69 (Thread i)) c.all_in_table.ensures ∙ known_by p ts i c.all.result.now c.loop-i-test.true c.all.ensures.value in
    λ m. each_refused (length (map task_of ts)) (known_at p ts) i c.in_err-require.field-0.0 c.from_residual.result there c.loop-i.invariant asked c.from_residual.ensures.1

pub loop-i-preserved : goal.loop-i-preserved
loop-i-preserved c =
    let p = program_of c.args.table.now in
    let ts = c.args.threads.now in
    let i = c.loop-i.i in
    each_next (known_at p ts) i c.in_ok-require.field-0 c.loop-i.invariant
    (c.in_ok-require.ensures ∙ ap (required c.all_in_table.result) c.at.ensures ∙ ap (λ b. demanded b 69 (Thread i)) c.all_in_table.ensures ∙ known_by p ts i c.all.result.now c.loop-i-test.true c.all.ensures.value)

pub returns : goal.returns
returns c =
    let p = program_of c.args.table.now in
    let ts = c.args.threads.now in
    let size : length (map task_of ts) ≡ length ts = length-map ts task_of in
    let end : c.loop-i.i ≡ length (map task_of ts) = omega arith in
    λ m. each_ends (length (map task_of ts)) (known_at p ts) c.loop-i.i end c.loop-i.invariant
