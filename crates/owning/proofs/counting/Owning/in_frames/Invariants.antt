use Rattle.std.proofs.Common.{◌≡◌, ◌+◌, ◌*◌, ◌≤◌, drop}
use Rattle.table.specs.Reading.{program_of}
use Rattle.safety.specs.Owners.{frames_owning, types_before}
use Rattle.owning.proofs.counting.Owning.in_frames.Given as goal

abbrev pub invariant-loop-frame : goal.invariant-loop-frame
invariant-loop-frame l =
    let types = types_before (program_of l.self.table.now) in
    (l.total ≤ 16 * l.frame-index)
    × (l.total + frames_owning types (drop l.frame-index l.frames) l.self.object ≡ frames_owning types l.frames l.self.object)
