use Rattle.std.proofs.Common.{arith, ◌*◌, ◌%◌, ◌^◌, ◌∙◌, bit_or, ap}
use Rattle.std.proofs.lemmas.Nat.{or_shifted, shl_whole}
use Rattle.bit_ops.proofs.MaskBits.{size_half}
use Rattle.bit_ops.proofs.masks.doubled.Goals as goal

pub overflow_shl-result : goal.overflow_shl-result
overflow_shl-result c =
    let small = size_half c.args.log c.requires.log in
    let size = c.element_size.ensures.value in
    omega arith

pub returns : goal.returns
returns c =
    let small = size_half c.args.log c.requires.log in
    ap (λ k. bit_or (c.args.word * 2 ^ k % 2 ^ 64) c.args.word) c.element_size.ensures.value
    ∙ ap (λ m. bit_or m c.args.word) (shl_whole c.args.word (2 ^ c.args.log) (2 ^ c.args.log) 64 c.requires.word (omega arith))
    ∙ or_shifted c.args.word (2 ^ c.args.log) c.args.word c.requires.word
