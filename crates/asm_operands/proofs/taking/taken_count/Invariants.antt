use Rattle.std.proofs.Common.{◌≡◌, ◌+◌, drop}
use Rattle.asm_operands.specs.Operands.{taken_count}
use Rattle.asm_operands.specs.Views.{partial_of}
use Rattle.asm_operands.proofs.taking.taken_count.Given as goal

abbrev pub invariant-loop-index : goal.invariant-loop-index
invariant-loop-index l =
    l.index + taken_count (drop l.index l.items) (partial_of l.partial) (drop l.index l.tokens)
    ≡ taken_count l.items (partial_of l.fn.partial) l.tokens
