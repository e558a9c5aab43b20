use Rattle.run_laws.proofs.AnyCores.{same_run}
use Rattle.run_laws.proofs.laws.cores_change_no_run.Goals as goal

pub returns : goal.returns
returns c = same_run
