use Rattle.std.proofs.Common.{ℕ, ◌<◌, ◌-◌, set, take, ap, ◌∙◌, arith, length-take}
use Rattle.std.proofs.Math.Seq.{take-set-lt}
use Rattle.list.proofs.fronts.Front.put_last.Goals as goal

pub returns-then-len-gt0 : goal.returns-then-len-gt0
returns-then-len-gt0 g c =
    let f = c.args.self.now in
    let h : c.len-len.result - 1 < f.len = omega (arith, length-take f.len f.items, c.len-len.ensures.value) in
    take-set-lt f.len f.items (c.len-len.result - 1) c.args.x h ∙ ap (λ (n : ℕ). set (take f.len f.items) (n - 1) c.args.x) c.len-len.ensures.value
