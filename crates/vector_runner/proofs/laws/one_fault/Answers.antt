use Rattle.vector_runner.proofs.Vectors.{fault_is, fault_reads}
use Rattle.vector_runner.proofs.laws.one_fault.Goals as goal

pub returns : goal.returns
returns c = λ vl svl bytes fault. (fault_is vl svl bytes fault, fault_reads vl svl bytes fault)
