use Rattle.std.proofs.Common.{◌≡◌, None}
use Rattle.std.specs.List.{find, range_with_len}
use Rattle.asm_operands.specs.Fields.{is_halfword_at}
use Rattle.asm_operands.proofs.fields.halfword_index.Given as goal

abbrev pub invariant-loop-index : goal.invariant-loop-index
invariant-loop-index l = find (is_halfword_at l.number) (range_with_len 0 l.index) ≡ None
