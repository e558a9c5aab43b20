use Rattle.asm_operands.proofs.Alone.{bare-alone}
use Rattle.asm_operands.proofs.laws.bare_operand_law.Goals as goal

pub returns : goal.returns
returns c = bare-alone c.texts_are_those_of_rows.ensures.room
