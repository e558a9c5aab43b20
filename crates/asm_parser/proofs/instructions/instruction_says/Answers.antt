use Rattle.std.proofs.Common.{◌∙◌}
use Rattle.asm_tokens.specs.Characters.{column_at}
use Rattle.asm_parser.proofs.Operands.{instruction-ok, instruction-err}
use Rattle.asm_parser.proofs.instructions.instruction_says.Goals as goal

pub returns-in-Ok-clause-said : goal.returns-in-Ok-clause-said
returns-in-Ok-clause-said c =
    rw (c.target_at.ensures, c.column_at.ensures)
    (instruction-ok c.args.line.now c.args.text.now c.args.offset c.args.mnemonic (column_at c.args.line.now c.args.start)
    c.as_slice.result.now
    c.in-Ok.operands.word c.in-Ok.operands.target (c.as_slice.ensures.value ∙ c.first_tokens-tokens.ensures) c.in-Ok.ensures)

pub returns-in-Err-clause-said : goal.returns-in-Err-clause-said
returns-in-Err-clause-said c =
    rw c.fault_at.ensures
    (instruction-err c.args.line.now c.args.text.now c.args.offset c.args.mnemonic (column_at c.args.line.now c.args.start)
    c.as_slice.result.now
    (record { index = c.in-Err.fault.index; kind = c.in-Err.fault.kind }) (c.as_slice.ensures.value ∙ c.first_tokens-tokens.ensures)
    c.in-Err.ensures)
