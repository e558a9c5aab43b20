use Rattle.mem_access.proofs.Touched.{touched_shared}
use Rattle.mem_access.proofs.shared_access.touched_is_shared.Goals as goal

pub returns : goal.returns
returns c = touched_shared
