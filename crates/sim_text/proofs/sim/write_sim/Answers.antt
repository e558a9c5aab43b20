use Rattle.std.proofs.Common.{refl, sym}
use Rattle.std.proofs.lemmas.List.{append-nil}
use Rattle.edge_io.proofs.Writing.{writes_then, writes_stop, writes_as}
use Rattle.sim_text.specs.Sim.{sim_text}
use Rattle.sim_text.proofs.sim.write_sim.Goals as goal

pub returns-in_err-write_skips : goal.returns-in_err-write_skips
unfolding sim_text
returns-in_err-write_skips g c = writes_stop _ _ _ _ _ _ c.from_residual.ensures.0 refl c.in_err-write_skips.ensures

pub returns-in_err-write_report : goal.returns-in_err-write_report
unfolding sim_text
returns-in_err-write_report g c =
    writes_then _ _ _ _ _ _ c.in_ok-write_skips.ensures
    (writes_stop _ _ _ _ _ _ c.from_residual-in_err-write_report.ensures.0 refl c.in_err-write_report.ensures)

pub returns : goal.returns
unfolding sim_text
returns g c =
    writes_then _ _ _ _ _ _ c.in_ok-write_skips.ensures
    (writes_then _ _ _ _ _ _ c.in_ok-write_report.ensures (writes_as (sym (append-nil _)) c.write_history.ensures))
