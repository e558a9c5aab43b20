use Rattle.asm_parser.specs.Statements.{line_said}
use Rattle.asm_core.proofs.SmallAligns.{small_align}
use Rattle.asm_core.proofs.Scanning.{read_fault}
use Rattle.asm_core.proofs.first_pass.read_line.Goals as goal

pub returns-in-Ok-clause-align : goal.returns-in-Ok-clause-align
returns-in-Ok-clause-align c = small_align c.args.text.now (line_said c.in-Ok.line) c.in-Ok.ensures.ok

pub returns-in-Err-clause-err : goal.returns-in-Err-clause-err
returns-in-Err-clause-err c =
    rw c.fault_at.ensures (λ other counter list. read_fault c.args.number counter list c.args.text.now c.in-Err.fault c.in-Err.ensures.err
    other)
