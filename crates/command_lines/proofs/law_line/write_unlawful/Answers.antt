use Rattle.command_lines.specs.LawLines.{unlawful_line}
use Rattle.command_lines.proofs.law_line.write_unlawful.Goals as goal

pub returns : goal.returns
unfolding unlawful_line
returns g c =
    rw (← c.format.ensures.text, ← c.as_bytes-digits.ensures.value, ← c.hex64_digits.ensures) c.write_parts.ensures
