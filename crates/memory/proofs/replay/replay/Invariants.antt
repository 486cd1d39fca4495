use Rattle.std.proofs.Common.{◌≡◌, ◌+◌, ◌≤◌, drop}
use Rattle.memory.specs.Calls.{accepted_of, after_calls}
use Rattle.memory.proofs.replay.replay.Given as goal

-- what is left to do answers, and leaves, what the whole list does
abbrev pub invariant-loop-call : goal.invariant-loop-call
invariant-loop-call g l =
    let m = g.M.Memory.model in
    record {
      few : l.accepted ≤ l.call-index;
      value : l.accepted + accepted_of (m l.memory) (drop l.call-index l.calls) ≡ accepted_of (m l.initial.memory) l.calls;
      after : after_calls (m l.memory) (drop l.call-index l.calls) ≡ after_calls (m l.initial.memory) l.calls;
    }
