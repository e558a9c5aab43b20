use Rattle.edge_io.proofs.Gathering.{and_then, and_stop, and_end}
use Rattle.report_text.specs.Block.{event_line}
use Rattle.report_text.proofs.journal.put_event_line.Goals as goal

pub returns-in_err-put : goal.returns-in_err-put
unfolding event_line
returns-in_err-put g c = and_stop _ c.in_err-put.ensures c.from_residual.ensures.0

pub returns-in_err-put_event_words : goal.returns-in_err-put_event_words
unfolding event_line
returns-in_err-put_event_words g c =
    and_then c.in_ok-put.ensures (and_stop _ c.in_err-put_event_words.ensures c.from_residual-in_err-put_event_words.ensures.0)

pub returns : goal.returns
unfolding event_line
returns g c = and_then c.in_ok-put.ensures (and_then c.in_ok-put_event_words.ensures (and_end c.put-2.ensures))
