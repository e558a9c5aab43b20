use Rattle.std.proofs.Common.{◌≡◌, ◌+◌, ◌/◌}
use Rattle.report_reader.specs.Block.{out_lines}
use Rattle.line_reader.specs.Told.{left_of}
use Rattle.report_reader.proofs.block.pass_out_lines.Given as goal

abbrev pub invariant-loop-left : goal.invariant-loop-left
invariant-loop-left l =
    out_lines ((l.left + 31) / 32) l.left (left_of l.lines) ≡ out_lines ((l.size + 31) / 32) l.size (left_of l.initial.lines)

abbrev pub decreases-loop-left : goal.decreases-loop-left
decreases-loop-left l = l.left
