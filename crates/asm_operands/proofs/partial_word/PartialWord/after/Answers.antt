use Rattle.std.proofs.Common.{arith}
use Rattle.insn_forms.proofs.Bits.{a_field}
use Rattle.asm_operands.proofs.Tables.{in_word}
use Rattle.asm_operands.proofs.partial_word.PartialWord.after.Goals as goal

pub field_said-requires-clause-few : goal.field_said-requires-clause-few
field_said-requires-clause-few c = let few = (a_field c.args.item.now.field (in_word c.args.item.now c.requires)).few in omega arith
