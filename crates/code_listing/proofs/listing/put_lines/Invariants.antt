use Rattle.std.proofs.Common.{drop}
use Rattle.edge_io.specs.Pieces.{gathered}
use Rattle.edge_io.specs.Sofar.{SoFar}
use Rattle.code_listing.specs.Listing.{listing_text}
use Rattle.code_listing.proofs.listing.put_lines.Given as goal

abbrev pub invariant-loop-k : goal.invariant-loop-k
invariant-loop-k g l =
    SoFar (gathered (g.K.Sink.view l.initial.out) l.initial.piece) (gathered (g.K.Sink.view l.out) l.piece) (listing_text (drop l.k l.code))
    (listing_text l.code)
