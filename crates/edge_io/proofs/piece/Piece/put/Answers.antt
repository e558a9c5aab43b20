use Rattle.std.proofs.Common.{◌∙◌, refl}
use Rattle.edge_io.specs.Pieces.{gathered}
use Rattle.edge_io.proofs.Writing.{writes_as}
use Rattle.edge_io.proofs.Gathering.{gathers_after, gathers_past, gathers_not}
use Rattle.edge_io.proofs.piece.Piece.put.Goals as goal

pub returns-in_err-flush : goal.returns-in_err-flush
returns-in_err-flush g c =
    gathers_not _ _ _ _ c.args.bytes.now (c.gather.ensures.full c.if-gather.false)
    (writes_as (c.gather.ensures.same c.if-gather.false) c.in_err-flush.ensures.written) c.from_residual.ensures.0

pub returns-then-gather-2 : goal.returns-then-gather-2
returns-then-gather-2 g c =
    gathers_after _ (gathered (g.K.Sink.view c.flush.new.out) c.flush.new.self) _ c.args.bytes.now (c.gather.ensures.full c.if-gather.false)
    (writes_as (c.gather.ensures.same c.if-gather.false) c.in_ok-flush.ensures.written)
    c.in_ok-flush.ensures.nothing_left refl (c.gather-2.ensures.more c.if-gather-2.true)

pub returns : goal.returns
returns g c =
    gathers_past _ (gathered (g.K.Sink.view c.flush.new.out) c.flush.new.self) _ _ c.args.bytes.now
    (c.gather.ensures.full c.if-gather.false) (writes_as (c.gather.ensures.same c.if-gather.false) c.in_ok-flush.ensures.written)
    (c.gather-2.ensures.same c.if-gather-2.false ∙ c.in_ok-flush.ensures.nothing_left) c.put.ensures
