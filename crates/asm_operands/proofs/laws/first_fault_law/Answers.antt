use Rattle.asm_operands.proofs.Completions.{goes-on}
use Rattle.asm_operands.proofs.FaultStops.{stops}
use Rattle.asm_operands.proofs.laws.first_fault_law.Goals as goal

pub returns-clause-goes_on : goal.returns-clause-goes_on
returns-clause-goes_on c = goes-on

pub returns-clause-stops : goal.returns-clause-stops
returns-clause-stops c = stops
