use Rattle.std.proofs.Common.{refl}
use Rattle.edge_io.proofs.Gathering.{parts_more, parts_cut}
use Rattle.edge_io.proofs.piece.Piece.put_all.Goals as goal

pub returns-in_err-put : goal.returns-in_err-put
returns-in_err-put g c =
    parts_cut (λ part. part.now) _ _ _ _ _ _ _ _ c.loop-part-test.true c.loop-part.invariant c.in_err-put.ensures refl
    c.from_residual.ensures.0

pub loop-part-preserved : goal.loop-part-preserved
loop-part-preserved g c = parts_more (λ part. part.now) _ _ _ _ _ _ c.loop-part-test.true c.loop-part.invariant c.in_ok-put.ensures
