use Rattle.script_reader.proofs.Faults.{is_fault, fault_is}
use Rattle.script_reader.proofs.laws.one_fault.Goals as goal

pub returns : goal.returns
returns c = λ bytes fault. (is_fault bytes fault, fault_is bytes fault)
