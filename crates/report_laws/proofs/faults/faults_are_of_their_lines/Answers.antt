use Rattle.report_laws.proofs.FirstFaults.{fault_first}
use Rattle.report_laws.proofs.faults.faults_are_of_their_lines.Goals as goal

pub returns : goal.returns
returns c = fault_first
