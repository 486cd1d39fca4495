use Rattle.std.proofs.Common.{◌≡◌, ℕ, ◌<◌, ◌≤◌, List, [], length, drop, replicate, sym, ap, ◌∙◌, arith}
use Rattle.std.proofs.lemmas.List.{drop_all}
use Rattle.table.specs.Reading.{program_of}
use Rattle.rules.specs.Rules.{callee}
use Rattle.machine.specs.declared.threads.Slot.{Slot}
use Rattle.machine.specs.declared.threads.Slot.TheVariants.{Empty}
use Rattle.machine.specs.declared.threads.Frame.{Frame}
use Rattle.machine.specs.Values.{leaving, passing}
use Rattle.stepping.specs.declared.calls.Passed.{Passed}
use Rattle.stepping.proofs.Arguments.{filled, filled_passing, leaves_more, fills_more, none_leave, none_fill}
use Rattle.stepping.proofs.calls.pass.Goals as goal

pub loop-i-preserved : goal.loop-i-preserved
loop-i-preserved c =
    let xs = c.args.operands.now in
    let ts = (callee (program_of c.args.table.now) c.args.n).params in
    let i = c.loop-i.i in
    let l : c.loop-i.i < length c.args.operands.now = c.loop-i-test.true in
    let t : c.loop-i.i < length (callee (program_of c.args.table.now) c.args.n).params = omega arith in
    record {
      caller_function = ap (λ (F : Frame). F.function) c.with-caller.ensures ∙ c.loop-i.invariant.caller_function;
      caller_index = ap (λ (F : Frame). F.index) c.with-caller.ensures ∙ c.loop-i.invariant.caller_index;
      leaves = leaves_more xs ts i l t c.loop-i.caller.slots c.with-caller.result.slots (leaving c.args.frame.slots xs ts) c.at-in-loop-i.result c.left.result c.param-ty.result
          (ap (λ (F : Frame). F.slots) c.with-caller.ensures) c.left.ensures c.at-in-loop-i.ensures c.param-ty.ensures c.loop-i.invariant.leaves;
      callee_function = ap (λ (F : Frame). F.function) c.with-callee.ensures ∙ c.loop-i.invariant.callee_function;
      callee_index = ap (λ (F : Frame). F.index) c.with-callee.ensures ∙ c.loop-i.invariant.callee_index;
      fills = fills_more xs ts i l t c.loop-i.callee.slots c.with-callee.result.slots c.args.frame.slots (filled (replicate 16 Empty) 0 c.args.frame.slots xs ts) c.at.result
          (ap (λ (F : Frame). F.slots) c.with-callee.ensures) c.at.ensures c.loop-i.invariant.fills;
    }

-- a frame, and two, by their parts
by_parts : (a b i j : ℕ) (us vs : List Slot) → a ≡ b → i ≡ j → us ≡ vs → ◌≡◌ {A = Frame} (record { function = a; index = i; slots = us }) (record { function = b; index = j; slots = vs })
by_parts a b i j us vs e f g = cc

both_frames : (C D : Frame) (a i b : ℕ) (us vs : List Slot) → C.function ≡ a → C.index ≡ i → C.slots ≡ us → D.function ≡ b → D.index ≡ 0 → D.slots ≡ vs
    → ◌≡◌ {A = Passed} (record { caller = C; callee = D }) (record { caller = record { function = a; index = i; slots = us }; callee = record { function = b; index = 0; slots = vs } })
both_frames C D a i b us vs e f g h j k =
    let x : C ≡ record { function = a; index = i; slots = us } = by_parts C.function a C.index i C.slots us e f g in
    let y : D ≡ record { function = b; index = 0; slots = vs } = by_parts D.function b D.index 0 D.slots vs h j k in
    cc

pub returns : goal.returns
returns c =
    let vs = c.args.frame.slots in
    let xs = c.args.operands.now in
    let ts = (callee (program_of c.args.table.now) c.args.n).params in
    let i = c.loop-i.i in
    let e = drop_all c.loop-i.i c.args.operands.now c.loop-i-test.false in
    let few : length c.args.operands.now ≤ 16 = omega arith in
    both_frames c.loop-i.caller c.loop-i.callee c.args.frame.function c.args.frame.index c.args.n (leaving vs xs ts) (passing vs xs ts 16)
    c.loop-i.invariant.caller_function c.loop-i.invariant.caller_index
    (sym (ap (λ ys. leaving c.loop-i.caller.slots ys (drop i ts)) e ∙ none_leave c.loop-i.caller.slots (drop i ts)) ∙ c.loop-i.invariant.leaves)
    c.loop-i.invariant.callee_function c.loop-i.invariant.callee_index
    (sym (ap (λ ys. filled c.loop-i.callee.slots i vs ys (drop i ts)) e ∙ none_fill c.loop-i.callee.slots i vs (drop i ts)) ∙ c.loop-i.invariant.fills ∙ filled_passing [] 16 vs xs ts few)
