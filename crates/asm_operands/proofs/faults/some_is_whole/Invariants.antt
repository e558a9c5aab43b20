use Rattle.std.proofs.Common.{◌≡◌, drop}
use Rattle.std.specs.List.{list_any}
use Rattle.asm_operands.specs.Operands.{is_whole}
use Rattle.asm_operands.proofs.faults.some_is_whole.Given as goal

abbrev pub invariant-loop-shape : goal.invariant-loop-shape
invariant-loop-shape l = list_any (is_whole l.count l.tokens) (drop l.shape-index l.shapes) ≡ list_any (is_whole l.count l.tokens) l.shapes
