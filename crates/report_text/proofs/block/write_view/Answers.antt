use Rattle.edge_io.proofs.Gathering.{flushed}
use Rattle.report_text.proofs.block.write_view.Goals as goal

pub returns : goal.returns
returns g c = flushed c.new-piece.ensures c.in_ok-put_view.ensures c.flush.ensures.written
