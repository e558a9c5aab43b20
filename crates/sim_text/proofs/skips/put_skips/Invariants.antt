use Rattle.std.specs.Iterator.Adapters.{zip_first, zip_second}
use Rattle.std.specs.Slice.Iter.{iter_rest}
use Rattle.edge_io.specs.Pieces.{gathered}
use Rattle.edge_io.specs.Sofar.{SoFar}
use Rattle.sim_text.specs.Skips.{skips_text}
use Rattle.sim_text.proofs.skips.put_skips.Given as goal

abbrev pub invariant-loop-line : goal.invariant-loop-line
invariant-loop-line g l =
    SoFar (gathered (g.K.Sink.view l.initial.out) l.initial.piece) (gathered (g.K.Sink.view l.out) l.piece)
    (skips_text (iter_rest (zip_first l.line-iterator)) (iter_rest (zip_second l.line-iterator))) (skips_text l.lines l.answers)
