use Rattle.command_lines.specs.ReportLines.{difference_lines}
use Rattle.command_lines.proofs.difference_line.write_difference_lines.Goals as goal

pub returns : goal.returns
unfolding difference_lines
returns g c =
    rw (← c.format.ensures.text, ← c.as_bytes-digits.ensures.value, ← c.shown.ensures, ← c.shown-2.ensures) c.write_parts.ensures
