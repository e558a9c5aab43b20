use Rattle.command_lines.proofs.numbered_line.write_numbered.Goals as goal

pub returns : goal.returns
returns g c = rw (← c.format.ensures.text, ← c.as_bytes-digits.ensures.value) c.write_parts.ensures
