use Rattle.run_queue.proofs.Moves.{merges}
use Rattle.run_queue.proofs.queue.ContextQueue.join_pass.Goals as goal

pub absorb-requires-clause-rule : goal.absorb-requires-clause-rule
absorb-requires-clause-rule g c = merges _ _ _ _ _ c.requires.first c.requires.split
