use Rattle.run_queue.proofs.Moves.{forks}
use Rattle.run_queue.proofs.queue.ContextQueue.split_pass.Goals as goal

pub another-requires-clause-rule : goal.another-requires-clause-rule
another-requires-clause-rule g c = forks _ _ _ c.requires.first
