use Rattle.std.proofs.Common.{◌≡◌, drop}
use Rattle.asm_operands.specs.Operands.{first_word, target_of}
use Rattle.asm_operands.proofs.reading.first_said.Given as goal

abbrev pub invariant-loop-shape : goal.invariant-loop-shape
invariant-loop-shape l = record {
  words : first_word (drop l.shape-index l.shapes) l.tokens ≡ first_word l.shapes l.tokens;
  targets : target_of (drop l.shape-index l.shapes) l.tokens ≡ target_of l.shapes l.tokens;
}
