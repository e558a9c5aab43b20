use Rattle.command_lines.proofs.fault_line.put_unlisted.Goals as goal

pub returns : goal.returns
returns g c = rw (← c.hex64_digits.ensures, ← c.hex32_digits.ensures) c.put_all.ensures
