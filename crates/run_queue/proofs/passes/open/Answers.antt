use Rattle.run_queue.proofs.Moves.{forks_open}
use Rattle.run_queue.proofs.passes.open.Goals as goal

pub another-spare-requires-clause-rule : goal.another-spare-requires-clause-rule
another-spare-requires-clause-rule g c = rw c.requires.unopened (forks_open _ _ g.N.Opening.origin)
