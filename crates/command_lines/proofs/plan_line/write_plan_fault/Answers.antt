use Rattle.command_lines.specs.PlanLines.{plan_line}
use Rattle.command_lines.proofs.plan_line.write_plan_fault.Goals as goal

pub returns : goal.returns
unfolding plan_line
returns g c = rw (← c.format.ensures.text, ← c.as_bytes-digits.ensures.value, ← c.fault_word.ensures) c.write_parts.ensures
