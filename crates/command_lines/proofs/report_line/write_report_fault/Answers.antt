use Rattle.command_lines.specs.ReportLines.{report_line}
use Rattle.command_lines.proofs.report_line.write_report_fault.Goals as goal

pub returns : goal.returns
unfolding report_line
returns g c = rw (← c.format.ensures.text, ← c.as_bytes-digits.ensures.value, ← c.part_word.ensures) c.write_parts.ensures
