use Rattle.std.proofs.Common.{◌+◌, [], map, drop, sym, ap, ◌∙◌, arith}
use Rattle.std.proofs.lemmas.List.{at_drop_more, at_drop_all}
use Rattle.table.specs.Reading.{program_of}
use Rattle.memory.specs.Model.{Store}
use Rattle.machine.specs.World.{task_of, no_thread}
use Rattle.safety.specs.Owners.{frames_owning, tasks_owning, types_before, all_in_table}
use Rattle.owning.proofs.Sums.{moves, ends, frames_there}
use Rattle.owning.proofs.counting.Owning.in_threads.Goals as goal

pub in_frames-total-requires : goal.in_frames-total-requires
in_frames-total-requires c =
    let p = program_of c.args.self.now.table.now in
    let m : Store = record { capacity = 0; objects = [] } in
    record {
      known = ap (all_in_table p) c.all.ensures.value ∙ frames_there p c.args.threads.now m c.loop-thread.thread-index (c.requires.known m) c.loop-thread-test.true;
      few = c.all.ensures.few;
    }

pub loop-thread-preserved : goal.loop-thread-preserved
loop-thread-preserved c =
    let ts = c.args.threads.now in
    let i = c.loop-thread.thread-index in
    let o = c.args.self.now.object in
    let types = types_before (program_of c.args.self.now.table.now) in
    let more = tasks_owning types (map task_of (drop (i + 1) ts)) o in (
      omega arith,
      moves c.loop-thread.total c.in_frames-total.result more (tasks_owning types (map task_of (drop i ts)) o) (tasks_owning types (map task_of ts) o) c.loop-thread.invariant.1
          (at_drop_more (λ us. tasks_owning types (map task_of us) o) ts i no_thread c.loop-thread-test.true
          ∙ ap (λ n. n + more) (sym (c.in_frames-total.ensures.value ∙ ap (λ Fs. frames_owning types Fs o) c.all.ensures.value))),
    )

pub returns : goal.returns
returns c =
    let ts = c.args.threads.now in
    let i = c.loop-thread.thread-index in
    let o = c.args.self.now.object in
    let types = types_before (program_of c.args.self.now.table.now) in
    ends c.loop-thread.total (tasks_owning types (map task_of (drop i ts)) o) (tasks_owning types (map task_of ts) o) c.loop-thread.invariant.1 (at_drop_all (λ us. tasks_owning types (map task_of us) o) ts i c.loop-thread-test.false)
