use Rattle.std.proofs.Common.{arith}
use Rattle.asm_operands.proofs.Halfwords.{halfword-lt}
use Rattle.asm_operands.proofs.fields.halfword_field.Goals as goal

pub overflow_cast-result-in-Some : goal.overflow_cast-result-in-Some
overflow_cast-result-in-Some c = omega (arith, halfword-lt c.args.number c.in-Some.index c.in-Some.ensures.passes)

pub overflow_add-result : goal.overflow_add-result
overflow_add-result c = omega (arith, halfword-lt c.args.number c.in-Some.index c.in-Some.ensures.passes, c.in-Some.ensures.in_range)
