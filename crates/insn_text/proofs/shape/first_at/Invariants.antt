use Rattle.std.proofs.Common.{◌≡◌, drop}
use Rattle.insn_text.specs.Indices.{first_at}
use Rattle.insn_text.proofs.shape.first_at.Given as goal

abbrev pub invariant-loop-index : goal.invariant-loop-index
invariant-loop-index l = first_at l.word l.shapes l.indices ≡ first_at l.word l.shapes (drop l.index-index l.indices)
