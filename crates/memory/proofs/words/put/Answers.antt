use Rattle.std.proofs.Common.{◌+◌, ◌-◌, refl, sym, ◌∙◌, arith}
use Rattle.std.proofs.lemmas.Slice.{put_mid-paste}
use Rattle.memory.proofs.Encoding.{four_bytes, word_pasted}
use Rattle.memory.proofs.words.put.Goals as goal

pub returns : goal.returns
returns c =
    let p = c.args.at in
    let bs = c.args.bytes.now in
    put_mid-paste p (p + 4 - p) bs c.copy_from_slice.new.self (four_bytes c.args.number) 4 (c.copy_from_slice.ensures.after ∙ c.to_le_bytes.ensures) (omega arith) refl ∙ sym (word_pasted bs p c.args.number c.requires)
