use Rattle.command_lines.specs.VectorsLines.{vectors_line}
use Rattle.command_lines.proofs.vectors_line.write_vectors_fault.Goals as goal

pub returns-in-Line : goal.returns-in-Line
unfolding vectors_line
returns-in-Line g c = rw (c.in-Line.is, ← c.from.ensures) c.write_numbered.ensures
