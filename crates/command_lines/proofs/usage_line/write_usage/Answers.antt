use Rattle.command_lines.specs.Texts.{usage_line}
use Rattle.command_lines.proofs.usage_line.write_usage.Goals as goal

pub returns : goal.returns
unfolding usage_line
returns g c = rw (← c.format.ensures.text, ← c.as_bytes-place_digits.ensures.value, ← c.kind_word.ensures) c.write_parts.ensures
