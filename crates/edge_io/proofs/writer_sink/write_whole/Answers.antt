use Rattle.std.proofs.Common.{arith}
use Rattle.std.proofs.lemmas.Grind.{common_steps}
use Rattle.edge_io.proofs.Appending.{appends_more}
use Rattle.edge_io.proofs.writer_sink.write_whole.Goals as goal

pub loop-preserved : goal.loop-preserved
loop-preserved g c =
    record { within = grind (arith, common_steps); appended = appends_more _ _ _ _ _ _ c.loop.invariant.appended c.in-Ok.ensures.ok }
