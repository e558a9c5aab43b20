use Rattle.std.proofs.Common.{◌≡◌, ◌+◌, length}
use Rattle.line_reader.specs.Told.{left_of}
use Rattle.line_reader.specs.File.{all_said, some_lines}
use Rattle.line_reader.proofs.FileLines.{behind}
use Rattle.line_reader.proofs.file.read_lines.Given as goal

abbrev pub invariant-lines : goal.invariant-lines
invariant-lines g l =
    behind l.values.items (all_said g.F.LineFormat.said_by (some_lines (left_of l.lines).line (left_of l.lines).lines))
    ≡ all_said g.F.LineFormat.said_by (some_lines (left_of l.initial.lines).line (left_of l.initial.lines).lines)

abbrev pub decreases-lines : goal.decreases-lines
decreases-lines g l = length l.lines.line.now + length l.lines.rest.now
