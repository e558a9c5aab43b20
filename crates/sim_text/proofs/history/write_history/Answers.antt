use Rattle.edge_io.proofs.Gathering.{flushed}
use Rattle.sim_text.proofs.history.write_history.Goals as goal

pub returns : goal.returns
returns g c = flushed c.new-piece.ensures c.in_ok-put_history.ensures c.flush.ensures.written
