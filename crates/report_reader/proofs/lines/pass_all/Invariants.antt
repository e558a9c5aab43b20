use Rattle.std.proofs.Common.{◌≡◌, ◌+◌, length}
use Rattle.report_reader.specs.Forms.{is_line}
use Rattle.line_reader.specs.Reading.{past_all}
use Rattle.line_reader.specs.Told.{left_of}
use Rattle.report_reader.proofs.lines.pass_all.Given as goal

abbrev pub invariant-loop-kind : goal.invariant-loop-kind
invariant-loop-kind l = past_all (is_line l.kind) (left_of l.lines) ≡ past_all (is_line l.kind) (left_of l.initial.lines)

abbrev pub decreases-loop-kind : goal.decreases-loop-kind
decreases-loop-kind l = length l.lines.line.now + length l.lines.rest.now
