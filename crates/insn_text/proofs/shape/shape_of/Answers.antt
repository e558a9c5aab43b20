use Rattle.std.proofs.Common.{ℕ, List, ap, ◌∙◌, ◌<◌, ◌^◌, arith}
use Rattle.insn_text.specs.declared.shapes.TheConstants.{SHAPES}
use Rattle.insn_text.specs.Indices.{first_at}
use Rattle.insn_text.proofs.Listed.{first_printed}
use Rattle.insn_text.proofs.shape.shape_of.Goals as goal

pub returns : goal.returns
returns c =
    let small : c.args.word < 2 ^ 32 = omega arith in
    c.first_at.ensures ∙ ap (λ (indices : List ℕ). first_at c.args.word SHAPES indices) c.part_of.ensures ∙ first_printed c.args.word small
