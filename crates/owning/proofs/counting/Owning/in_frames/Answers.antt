use Rattle.std.proofs.Common.{◌+◌, drop, sym, ap, ◌∙◌, arith}
use Rattle.std.proofs.lemmas.List.{at_drop_more, at_drop_all}
use Rattle.table.specs.Reading.{program_of}
use Rattle.machine.specs.World.{no_frame}
use Rattle.safety.specs.Owners.{frames_owning, types_before}
use Rattle.owning.proofs.Sums.{moves, ends, in_table_at}
use Rattle.owning.proofs.counting.Owning.in_frames.Goals as goal

pub in_frame-total-requires : goal.in_frame-total-requires
in_frame-total-requires c = in_table_at (program_of c.args.self.now.table.now) c.args.frames.now c.loop-frame.frame-index c.requires.known c.loop-frame-test.true

pub loop-frame-preserved : goal.loop-frame-preserved
loop-frame-preserved c =
    let Fs = c.args.frames.now in
    let i = c.loop-frame.frame-index in
    let o = c.args.self.now.object in
    let types = types_before (program_of c.args.self.now.table.now) in
    let more = frames_owning types (drop (i + 1) Fs) o in (
      omega arith,
      moves c.loop-frame.total c.in_frame-total.result more (frames_owning types (drop i Fs) o) (frames_owning types Fs o) c.loop-frame.invariant.1
          (at_drop_more (λ Gs. frames_owning types Gs o) Fs i no_frame c.loop-frame-test.true ∙ ap (λ n. n + more) (sym c.in_frame-total.ensures.value)),
    )

pub returns : goal.returns
returns c =
    let Fs = c.args.frames.now in
    let i = c.loop-frame.frame-index in
    let o = c.args.self.now.object in
    let types = types_before (program_of c.args.self.now.table.now) in
    record {
      value = ends c.loop-frame.total (frames_owning types (drop i Fs) o) (frames_owning types Fs o) c.loop-frame.invariant.1 (at_drop_all (λ Gs. frames_owning types Gs o) Fs i c.loop-frame-test.false);
      few = omega arith;
    }
