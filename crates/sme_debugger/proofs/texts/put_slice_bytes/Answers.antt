use Rattle.std.proofs.Common.{ap}
use Rattle.hex.specs.Hex.{encode_lower}
use Rattle.edge_io.proofs.Gathering.{as_text, and_then, and_stop, and_end}
use Rattle.sme_debugger.proofs.texts.put_slice_bytes.Goals as goal

pub returns-in_err-put_digits : goal.returns-in_err-put_digits
returns-in_err-put_digits g c =
    and_stop _ (as_text (ap encode_lower c.read_slice.ensures) c.in_err-put_digits.ensures) c.from_residual.ensures.0

pub returns : goal.returns
returns g c = and_then (as_text (ap encode_lower c.read_slice.ensures) c.in_ok-put_digits.ensures) (and_end c.put.ensures)
