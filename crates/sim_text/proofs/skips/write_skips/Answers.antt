use Rattle.edge_io.proofs.Gathering.{flushed}
use Rattle.sim_text.proofs.skips.write_skips.Goals as goal

pub returns : goal.returns
returns g c = flushed c.new-piece.ensures c.in_ok-put_skips.ensures c.flush.ensures.written
