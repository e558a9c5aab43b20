use Rattle.std.proofs.Common.{◌≡◌, drop}
use Rattle.std.specs.List.{list_any}
use Rattle.asm_operands.specs.Operands.{wants_number}
use Rattle.asm_operands.proofs.faults.some_wants_number.Given as goal

abbrev pub invariant-loop-shape : goal.invariant-loop-shape
invariant-loop-shape l =
    list_any (wants_number l.count l.tokens) (drop l.shape-index l.shapes) ≡ list_any (wants_number l.count l.tokens) l.shapes
