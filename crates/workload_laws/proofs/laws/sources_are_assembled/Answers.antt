use Rattle.workload_laws.proofs.Sources.{accepted}
use Rattle.workload_laws.proofs.laws.sources_are_assembled.Goals as goal

pub returns : goal.returns
returns c = accepted
