use Rattle.edge_io.proofs.Gathering.{flushed}
use Rattle.smemu.proofs.lines.write_lines.Goals as goal

pub returns : goal.returns
returns g c = flushed c.new-piece.ensures c.in_ok-put_lines.ensures c.flush.ensures.written
