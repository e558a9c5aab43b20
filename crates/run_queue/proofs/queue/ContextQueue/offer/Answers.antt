use Rattle.run_queue.proofs.Moves.{puts, roomy}
use Rattle.run_queue.proofs.queue.ContextQueue.offer.Goals as goal

pub push_as-requires-clause-rule : goal.push_as-requires-clause-rule
push_as-requires-clause-rule g c = (puts _ _ _ _ _ c.requires.holds c.requires.known, roomy _ _ _ _ c.requires.holds)
