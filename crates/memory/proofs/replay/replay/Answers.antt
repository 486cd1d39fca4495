use Rattle.std.proofs.Common.{◌≡◌, ℕ, Bool, cond, sym, ap, ◌∙◌, arith, rules}
use Rattle.std.proofs.lemmas.List.{at_drop_more, at_drop_all}
use Rattle.memory.specs.Calls.{accepted_of, after_calls}
use Rattle.memory.specs.declared.replay.Call.{Call}
use Rattle.memory.specs.declared.replay.Call.TheVariants.{Add}
use Rattle.memory.proofs.Lasting.{calls_keep}
use Rattle.memory.proofs.replay.replay.Goals as goal

abbrev none : Call
none = Add 0

pub loop-call-preserved : goal.loop-call-preserved
loop-call-preserved g c =
    let m = g.M.Memory.model c.loop-call.memory in
    let xs = c.args.calls.now in
    let i = c.loop-call.call-index in
    let a = at_drop_more (accepted_of m) xs i none c.loop-call-test.true in
    let b = at_drop_more (after_calls m) xs i none c.loop-call-test.true in
    let one : c.from-accepted.result ≡ cond c.make.result 1 0 = search rules in
    let made = one ∙ ap (λ (b : Bool). cond {A = ℕ} b 1 0) c.make.ensures.value in
    rw c.make.ensures.after (record {
      few = grind (arith, one);
      value = omega (arith, made, a, c.loop-call.invariant.value);
      after = sym b ∙ c.loop-call.invariant.after;
    })

pub returns : goal.returns
returns g c =
    let m = g.M.Memory.model c.loop-call.memory in
    let start = g.M.Memory.model c.args.memory.now in
    let xs = c.args.calls.now in
    let i = c.loop-call.call-index in
    let a = at_drop_all (accepted_of m) xs i c.loop-call-test.false in
    let after = sym (at_drop_all (after_calls m) xs i c.loop-call-test.false) ∙ c.loop-call.invariant.after in
    record {
      value = omega (arith, a, c.loop-call.invariant.value);
      after = after;
      keeps = rw after (calls_keep start xs);
    }
