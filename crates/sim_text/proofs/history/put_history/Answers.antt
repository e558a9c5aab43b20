use Rattle.edge_io.proofs.Gathering.{and_then, and_stop, and_end}
use Rattle.sim_text.specs.History.{history_text}
use Rattle.sim_text.proofs.history.put_history.Goals as goal

pub returns-in_err-put_number_line : goal.returns-in_err-put_number_line
unfolding history_text
returns-in_err-put_number_line g c = and_stop _ c.in_err-put_number_line.ensures c.from_residual.ensures.0

pub returns : goal.returns
unfolding history_text
returns g c = and_then c.in_ok-put_number_line.ensures (and_end c.put_entries.ensures)
