use Rattle.std.proofs.Common.{◌≡◌, drop, max}
use Rattle.asm_operands.specs.Operands.{furthest}
use Rattle.asm_operands.proofs.faults.furthest.Given as goal

abbrev pub invariant-loop-shape : goal.invariant-loop-shape
invariant-loop-shape l = max l.most (furthest (drop l.shape-index l.shapes) l.tokens) ≡ furthest l.shapes l.tokens
