use Rattle.shared_region.proofs.Growth.{begins, grows}
use Rattle.shared_region.proofs.laws.one_history_grows.Goals as goal

pub returns-clause-begins : goal.returns-clause-begins
returns-clause-begins c = begins

pub returns-clause-grows : goal.returns-clause-grows
returns-clause-grows c = grows
