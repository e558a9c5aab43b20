use Rattle.edge_io.proofs.Gathering.{and_then, and_stop, and_end}
use Rattle.command_lines.specs.SourceLines.{source_line}
use Rattle.command_lines.proofs.source_line.put_source_fault.Goals as goal

pub returns-in_err-put : goal.returns-in_err-put
unfolding source_line
returns-in_err-put g c = and_stop _ c.in_err-put.ensures c.from_residual.ensures.0

pub returns-in_err-put-2 : goal.returns-in_err-put-2
unfolding source_line
returns-in_err-put-2 g c =
    rw (← c.line_number.ensures, ← c.format.ensures.text, ← c.as_bytes.ensures.value)
    (and_then c.in_ok-put.ensures (and_stop _ c.in_err-put-2.ensures c.from_residual-in_err-put-2.ensures.0))

pub returns-in_err-put-3 : goal.returns-in_err-put-3
unfolding source_line
returns-in_err-put-3 g c =
    rw (← c.line_number.ensures, ← c.format.ensures.text, ← c.as_bytes.ensures.value)
    (and_then c.in_ok-put.ensures (and_then c.in_ok-put-2.ensures
    (and_stop _ c.in_err-put-3.ensures c.from_residual-in_err-put-3.ensures.0)))

pub returns-in_err-put_source_words : goal.returns-in_err-put_source_words
unfolding source_line
returns-in_err-put_source_words g c =
    rw (← c.line_number.ensures, ← c.format.ensures.text, ← c.as_bytes.ensures.value)
    (and_then c.in_ok-put.ensures (and_then c.in_ok-put-2.ensures
    (and_then c.in_ok-put-3.ensures (and_stop _ c.in_err-put_source_words.ensures c.from_residual-in_err-put_source_words.ensures.0))))

pub returns : goal.returns
unfolding source_line
returns g c =
    rw (← c.line_number.ensures, ← c.format.ensures.text, ← c.as_bytes.ensures.value)
    (and_then c.in_ok-put.ensures (and_then c.in_ok-put-2.ensures
    (and_then c.in_ok-put-3.ensures (and_then c.in_ok-put_source_words.ensures (and_end c.put-4.ensures)))))
