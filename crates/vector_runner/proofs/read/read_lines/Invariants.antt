use Rattle.std.proofs.Common.{◌≡◌, map}
use Rattle.line_reader.specs.Told.{left_of}
use Rattle.vector_runner.specs.Grammar.{lines_said}
use Rattle.vector_runner.specs.Told.{vector_told}
use Rattle.vector_runner.proofs.Said.{behind}
use Rattle.vector_runner.proofs.read.read_lines.Given as goal

abbrev pub invariant-loop-number : goal.invariant-loop-number
invariant-loop-number l =
    ((left_of l.lines).line ≡ l.number)
    × (behind (map vector_told l.vectors.items) (lines_said l.vl l.svl (left_of l.lines).line (left_of l.lines).lines)
    ≡ lines_said l.vl l.svl 0 (left_of l.initial.lines).lines)
