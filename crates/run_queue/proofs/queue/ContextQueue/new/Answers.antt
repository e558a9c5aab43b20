use Rattle.run_queue.proofs.Moves.{begins}
use Rattle.run_queue.proofs.queue.ContextQueue.new.Goals as goal

pub ruled-requires-clause-rule : goal.ruled-requires-clause-rule
ruled-requires-clause-rule g c = begins
