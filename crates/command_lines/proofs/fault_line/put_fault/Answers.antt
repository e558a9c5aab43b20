use Rattle.edge_io.proofs.Gathering.{and_then, and_stop, and_end}
use Rattle.command_lines.specs.FaultLines.{fault_line}
use Rattle.command_lines.proofs.fault_line.put_fault.Goals as goal

pub returns-in_err-put : goal.returns-in_err-put
unfolding fault_line
returns-in_err-put g c = and_stop _ c.in_err-put.ensures c.from_residual.ensures.0

pub returns-in_err-put_fault_words : goal.returns-in_err-put_fault_words
unfolding fault_line
returns-in_err-put_fault_words g c =
    and_then c.in_ok-put.ensures (and_stop _ c.in_err-put_fault_words.ensures c.from_residual-in_err-put_fault_words.ensures.0)

pub returns : goal.returns
unfolding fault_line
returns g c = and_then c.in_ok-put.ensures (and_then c.in_ok-put_fault_words.ensures (and_end c.put-2.ensures))
