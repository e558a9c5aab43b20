use Rattle.std.proofs.Common.{List, ℕ, ap, ◌++◌}
use Rattle.edge_io.proofs.Gathering.{and_stop, and_then, as_text}
use Rattle.text_lines.specs.Words.{exception_values}
use Rattle.text_lines.proofs.words.put_exception.Goals as goal

pub returns-in_err-put : goal.returns-in_err-put
returns-in_err-put g c =
    as_text (ap (λ (name : List ℕ). name ++ exception_values c.args.exception) c.exception_name.ensures)
    (and_stop _ c.in_err-put.ensures c.from_residual.ensures.0)

pub returns : goal.returns
returns g c =
    as_text (ap (λ (name : List ℕ). name ++ exception_values c.args.exception) c.exception_name.ensures)
    (and_then c.in_ok-put.ensures c.put_exception_values.ensures)
