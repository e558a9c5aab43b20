use Rattle.edge_io.proofs.Gathering.{flushed}
use Rattle.report_compare.proofs.parting.write_parting.Goals as goal

pub returns : goal.returns
returns g c = flushed c.new-piece.ensures c.in_ok-put_parting.ensures c.flush.ensures.written
