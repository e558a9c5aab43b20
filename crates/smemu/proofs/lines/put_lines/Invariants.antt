use Rattle.std.proofs.Common.{take, Ok}
use Rattle.std.specs.List.{flat_map}
use Rattle.edge_io.specs.Pieces.{gathered, Gathers}
use Rattle.smemu.specs.Vectors.{with_line_feed}
use Rattle.smemu.proofs.lines.put_lines.Given as goal

abbrev pub invariant-loop-line : goal.invariant-loop-line
invariant-loop-line g l =
    Gathers (gathered (g.K.Sink.view l.initial.out) l.initial.piece) (gathered (g.K.Sink.view l.out) l.piece) (Ok tt)
    (flat_map with_line_feed (take l.line-index l.lines))
