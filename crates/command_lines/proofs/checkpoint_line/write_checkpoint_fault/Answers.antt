use Rattle.command_lines.specs.CheckpointLines.{checkpoint_line}
use Rattle.command_lines.proofs.checkpoint_line.write_checkpoint_fault.Goals as goal

pub returns-in-Field : goal.returns-in-Field
unfolding checkpoint_line
returns-in-Field g c = rw c.in-Field.is c.write_numbered.ensures

pub returns-in-Count : goal.returns-in-Count
unfolding checkpoint_line
returns-in-Count g c = rw (c.in-Count.is, ← c.from.ensures) c.write_numbered-in-Count.ensures
