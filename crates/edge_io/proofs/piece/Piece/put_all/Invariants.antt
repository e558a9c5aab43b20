use Rattle.std.proofs.Common.{take, Ok}
use Rattle.std.specs.List.{flat_map}
use Rattle.edge_io.specs.Pieces.{gathered, Gathers}
use Rattle.edge_io.proofs.piece.Piece.put_all.Given as goal

abbrev pub invariant-loop-part : goal.invariant-loop-part
invariant-loop-part g l =
    Gathers (gathered (g.K.Sink.view l.initial.out) l.initial.self) (gathered (g.K.Sink.view l.out) l.self) (Ok tt)
    (flat_map (λ part. part.now) (take l.part-index l.parts))
