use Rattle.edge_io.proofs.Gathering.{flushed}
use Rattle.sme_debugger.proofs.texts.write_state.Goals as goal

pub returns : goal.returns
returns g c = flushed c.new-piece.ensures c.in_ok-put_state.ensures c.flush.ensures.written
