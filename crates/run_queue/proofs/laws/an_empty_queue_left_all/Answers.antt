use Rattle.run_queue.proofs.Moves.{rest_when_empty}
use Rattle.run_queue.proofs.laws.an_empty_queue_left_all.Goals as goal

pub returns : goal.returns
returns c = rest_when_empty
