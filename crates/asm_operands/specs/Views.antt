-- What the code's results stand for.
use Rattle.std.specs.Prelude.{Result, Ok, Err}
use Rattle.asm_operands.specs.declared.partial_word.PartialWord.{PartialWord}
use Rattle.asm_operands.specs.declared.operands.Operands.{Operands}
use Rattle.asm_operands.specs.declared.operands.OperandFault.{OperandFault}
use Rattle.asm_operands.specs.Operands.{Fault, OperandsSaid, Says, Fails}
use Rattle.asm_operands.specs.Operands as operands

abbrev pub partial_of : PartialWord → operands.PartialWord
partial_of partial = record { mask = partial.mask; value = partial.value }

abbrev pub fault_of : OperandFault → Fault
fault_of fault = record { index = fault.index; kind = fault.kind }

-- a result is what the operands say
abbrev pub said_by : Result Operands OperandFault → OperandsSaid
said_by (Ok operands) = Says operands.word operands.target
said_by (Err fault) = Fails (fault_of fault)
