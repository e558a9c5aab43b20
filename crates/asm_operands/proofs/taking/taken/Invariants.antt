use Rattle.std.proofs.Common.{◌≡◌, drop}
use Rattle.asm_operands.specs.Operands.{taken}
use Rattle.asm_operands.specs.Views.{partial_of}
use Rattle.asm_operands.proofs.taking.taken.Given as goal

abbrev pub invariant-loop-index : goal.invariant-loop-index
invariant-loop-index l =
    taken (drop l.index l.items) (partial_of l.partial) (drop l.index l.tokens) ≡ taken l.items (partial_of l.fn.partial) l.tokens
