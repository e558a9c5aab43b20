use Rattle.command_lines.specs.LawLines.{lawful_line}
use Rattle.command_lines.proofs.law_line.write_lawful.Goals as goal

pub returns : goal.returns
unfolding lawful_line
returns g c =
    rw (c.as_bytes.ensures.value, c.as_bytes-2.ensures.value, c.format.ensures.text, c.format-2.ensures.text) at c.write_parts.ensures
