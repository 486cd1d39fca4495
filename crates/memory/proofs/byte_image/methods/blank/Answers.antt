use Rattle.std.proofs.Common.{◌≡◌, ℕ, ◌+◌, ◌*◌, ◌-◌, ◌≤◌, List, take, drop, length, replicate, refl, sym, ap, ◌∙◌, arith, length-drop, length-take}
use Rattle.std.proofs.lemmas.Slice.{put_mid-paste}
use Rattle.memory.specs.Images.{zeroed}
use Rattle.memory.specs.Words.{with_word}
use Rattle.memory.proofs.Encoding.{zeroed_pasted, length_with_word}
use Rattle.memory.proofs.byte_image.methods.blank.Goals as goal

pub returns : goal.returns
returns c =
    let p = 36 * c.args.o in
    let bs = c.put.new.bytes in
    let written = c.put.ensures ∙ ap (with_word c.args.bytes.now p) c.from.ensures in
    let room : p + 36 ≤ length bs = omega (arith, ap length written, length_with_word c.args.bytes.now p c.args.kind) in
    let cells : length (take (p + 36 - (p + 4)) (drop (p + 4) bs)) ≡ 32 = simp (length-take, length-drop) (omega arith) in
    let filled : c.fill.new.self ≡ replicate 32 0 = c.fill.ensures.after (λ y e. e) ∙ ap (λ (n : ℕ). replicate n 0) cells in
    put_mid-paste (p + 4) (p + 36 - (p + 4)) bs c.fill.new.self (replicate 32 0) 32 filled (omega arith) refl
    ∙ sym (zeroed_pasted 8 bs p (omega arith))
    ∙ ap (λ (xs : List ℕ). zeroed 8 xs p) written
