use Rattle.edge_io.proofs.Gathering.{flushed}
use Rattle.command_lines.proofs.source_line.write_source_fault.Goals as goal

pub returns : goal.returns
returns g c = flushed c.new-piece.ensures c.in_ok-put_source_fault.ensures c.flush.ensures.written
