use Rattle.edge_io.proofs.Gathering.{flushed}
use Rattle.edge_io.proofs.piece.write_parts.Goals as goal

pub returns : goal.returns
returns g c = flushed c.new-piece.ensures c.in_ok-put_all.ensures c.flush.ensures.written
