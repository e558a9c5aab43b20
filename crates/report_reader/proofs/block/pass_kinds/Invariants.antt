use Rattle.std.proofs.Common.{◌≡◌, drop}
use Rattle.report_reader.specs.Block.{lines_of_kinds}
use Rattle.line_reader.specs.Told.{left_of}
use Rattle.report_reader.proofs.block.pass_kinds.Given as goal

abbrev pub invariant-loop-kind : goal.invariant-loop-kind
invariant-loop-kind l =
    lines_of_kinds (drop l.kind-index l.kinds) (left_of l.lines) ≡ lines_of_kinds l.kinds (left_of l.initial.lines)
