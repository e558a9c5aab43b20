use Rattle.std.proofs.Common.{refl, ap}
use Rattle.edge_io.proofs.Gathering.{as_text, parts_more, parts_cut}
use Rattle.smemu.specs.Vectors.{with_line_feed}
use Rattle.smemu.proofs.lines.put_lines.Goals as goal

pub returns-in_err-put_all : goal.returns-in_err-put_all
returns-in_err-put_all g c =
    parts_cut with_line_feed _ _ _ _ _ _ _ c.line-item.result c.loop-line-test.true c.loop-line.invariant
    (as_text (ap with_line_feed c.line-item.is) (rw c.as_slice.ensures.value at c.in_err-put_all.ensures)) refl c.from_residual.ensures.0

pub loop-line-preserved : goal.loop-line-preserved
loop-line-preserved g c =
    parts_more with_line_feed _ _ _ _ _ c.line-item.result c.loop-line-test.true c.loop-line.invariant
    (as_text (ap with_line_feed c.line-item.is) (rw c.as_slice.ensures.value at c.in_ok-put_all.ensures))
