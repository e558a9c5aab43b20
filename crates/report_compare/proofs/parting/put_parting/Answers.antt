use Rattle.edge_io.proofs.Gathering.{and_then, and_stop, and_end}
use Rattle.report_compare.specs.DifferLines.{parting_line}
use Rattle.report_compare.proofs.parting.put_parting.Goals as goal

pub returns-in_err-put : goal.returns-in_err-put
unfolding parting_line
returns-in_err-put g c = and_stop _ c.in_err-put.ensures c.from_residual.ensures.0

pub returns-in_err-put_parting_words : goal.returns-in_err-put_parting_words
unfolding parting_line
returns-in_err-put_parting_words g c =
    and_then c.in_ok-put.ensures (and_stop _ c.in_err-put_parting_words.ensures c.from_residual-in_err-put_parting_words.ensures.0)

pub returns : goal.returns
unfolding parting_line
returns g c = and_then c.in_ok-put.ensures (and_then c.in_ok-put_parting_words.ensures (and_end c.put-2.ensures))
