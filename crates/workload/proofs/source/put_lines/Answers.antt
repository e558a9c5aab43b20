use Rattle.edge_io.proofs.Gathering.{as_text, and_then, and_stop}
use Rattle.workload.proofs.Rest.{source-parts}
use Rattle.workload.proofs.source.put_lines.Goals as goal

pub returns-in_err-put_first_lines : goal.returns-in_err-put_first_lines
returns-in_err-put_first_lines g c =
    as_text (source-parts c.args.number) (and_stop _ c.in_err-put_first_lines.ensures c.from_residual.ensures.0)

pub returns-in_err-put_chosen_lines : goal.returns-in_err-put_chosen_lines
returns-in_err-put_chosen_lines g c =
    as_text (source-parts c.args.number) (and_then c.in_ok-put_first_lines.ensures
    (and_stop _ c.in_err-put_chosen_lines.ensures c.from_residual-in_err-put_chosen_lines.ensures.0))

pub returns : goal.returns
returns g c =
    as_text (source-parts c.args.number)
    (and_then c.in_ok-put_first_lines.ensures (and_then c.in_ok-put_chosen_lines.ensures c.put_last_lines.ensures))
