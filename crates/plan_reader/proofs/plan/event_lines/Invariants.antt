use Rattle.std.proofs.Common.{◌≡◌, ◌+◌, ◌≤◌, ◌++◌, length, map}
use Rattle.line_reader.specs.Lines.{lines_of}
use Rattle.line_reader.specs.File.{NumberedLine, some_lines}
use Rattle.plan_reader.proofs.plan.event_lines.Given as goal

abbrev pub invariant-lines : goal.invariant-lines
invariant-lines l = record {
  so_far : l.numbers.items ++ map (λ (it : NumberedLine). it.number) (some_lines l.number (lines_of l.left))
      ≡ map (λ (it : NumberedLine). it.number) (some_lines 0 (lines_of l.fn.bytes));
  counted : l.number + length l.left ≤ length l.fn.bytes;
}

abbrev pub decreases-lines : goal.decreases-lines
decreases-lines l = length l.left
