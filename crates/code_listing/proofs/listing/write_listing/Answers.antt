use Rattle.edge_io.proofs.Gathering.{flushed}
use Rattle.code_listing.proofs.listing.write_listing.Goals as goal

pub returns : goal.returns
returns g c = flushed c.new-piece.ensures c.in_ok-put_lines.ensures c.flush.ensures.written
