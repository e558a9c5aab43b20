use Rattle.std.proofs.Common.{refl}
use Rattle.edge_io.proofs.Gathering.{parts_more, parts_cut}
use Rattle.sim_text.specs.History.{entry_line}
use Rattle.sim_text.proofs.history.put_entries.Goals as goal

pub returns-in_err-put_entry_line : goal.returns-in_err-put_entry_line
returns-in_err-put_entry_line g c =
    parts_cut entry_line _ _ _ _ _ _ _ _ c.loop-entry-test.true c.loop-entry.invariant c.in_err-put_entry_line.ensures refl
    c.from_residual.ensures.0

pub loop-entry-preserved : goal.loop-entry-preserved
loop-entry-preserved g c =
    parts_more entry_line _ _ _ _ _ _ c.loop-entry-test.true c.loop-entry.invariant c.in_ok-put_entry_line.ensures
