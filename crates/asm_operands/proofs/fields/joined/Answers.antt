use Rattle.std.proofs.Common.{arith}
use Rattle.asm_operands.proofs.Registers.{sized_small}
use Rattle.asm_operands.proofs.fields.joined.Goals as goal

pub overflow_add-result : goal.overflow_add-result
overflow_add-result c =
    omega (
      arith,
      sized_small c.args.size c.args.few c.args.bits c.args.number c.requires.few c.requires.bits
          c.requires.number c.requires.size,
    )

pub returns : goal.returns
returns c =
    omega (
      arith,
      sized_small c.args.size c.args.few c.args.bits c.args.number c.requires.few c.requires.bits
          c.requires.number c.requires.size,
    )
