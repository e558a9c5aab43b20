use Rattle.edge_io.proofs.Gathering.{and_then, and_stop, and_end}
use Rattle.report_compare.proofs.parting.put_early_end.Goals as goal

pub returns-in_err-put : goal.returns-in_err-put
returns-in_err-put g c = and_stop _ c.in_err-put.ensures c.from_residual.ensures.0

pub returns-in_err-put-2 : goal.returns-in_err-put-2
returns-in_err-put-2 g c =
    rw (← c.format.ensures.text, ← c.as_bytes.ensures.value)
    (and_then c.in_ok-put.ensures (and_stop _ c.in_err-put-2.ensures c.from_residual-in_err-put-2.ensures.0))

pub returns-in_err-put-3 : goal.returns-in_err-put-3
returns-in_err-put-3 g c =
    rw (← c.format.ensures.text, ← c.as_bytes.ensures.value)
    (and_then c.in_ok-put.ensures (and_then c.in_ok-put-2.ensures
    (and_stop _ c.in_err-put-3.ensures c.from_residual-in_err-put-3.ensures.0)))

pub returns : goal.returns
returns g c =
    rw (← c.format.ensures.text, ← c.as_bytes.ensures.value)
    (and_then c.in_ok-put.ensures (and_then c.in_ok-put-2.ensures
    (and_then c.in_ok-put-3.ensures (and_end c.put_stop_words.ensures))))
