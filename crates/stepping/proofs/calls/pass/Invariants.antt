use Rattle.std.proofs.Common.{◌≡◌, drop, replicate}
use Rattle.table.specs.Reading.{program_of}
use Rattle.rules.specs.Rules.{callee}
use Rattle.machine.specs.declared.threads.Slot.TheVariants.{Empty}
use Rattle.machine.specs.Values.{leaving}
use Rattle.stepping.proofs.Arguments.{filled}
use Rattle.stepping.proofs.calls.pass.Given as goal

abbrev pub invariant-loop-i : goal.invariant-loop-i
invariant-loop-i l = record {
  caller_function : l.caller.function ≡ l.frame.function;
  caller_index : l.caller.index ≡ l.frame.index;
  leaves : leaving l.caller.slots (drop l.i l.operands) (drop l.i (callee (program_of l.table) l.n).params) ≡ leaving l.frame.slots l.operands (callee (program_of l.table) l.n).params;
  callee_function : l.callee.function ≡ l.n;
  callee_index : l.callee.index ≡ 0;
  fills : filled l.callee.slots l.i l.frame.slots (drop l.i l.operands) (drop l.i (callee (program_of l.table) l.n).params) ≡ filled (replicate 16 Empty) 0 l.frame.slots l.operands (callee (program_of l.table) l.n).params;
}
