use Rattle.std.proofs.Common.{◌≡◌, ℕ, List, sym, ◌∙◌}
use Rattle.report_reader.specs.Report.{Report}
use Rattle.field_table.proofs.Tables.{one_filling}
use Rattle.kernel_contexts.specs.State.{State}
use Rattle.ckpt_fields.specs.Rows.{checkpoint_table}
use Rattle.ckpt_file.specs.Checkpoint.{checkpoint, checkpoint_values, ReadsCheckpoint}
use Rattle.ckpt_file.proofs.One.{same_state, same_thread, same_events}
use Rattle.ckpt_file.proofs.laws.one_state_a_file.Goals as goal

same_values : (bytes : List ℕ) (report : Report) (s r : State) (thread number events used : ℕ)
    → ReadsCheckpoint bytes report s thread events → ReadsCheckpoint bytes report r number used
    → checkpoint_values report.image report.options s thread events ≡ checkpoint_values report.image report.options r number used
unfolding checkpoint
same_values bytes report s r thread number events used h k =
    one_filling (checkpoint_table report) (checkpoint_values report.image report.options s thread events)
    (checkpoint_values report.image report.options r number used) h.fields k.fields (sym h.file ∙ k.file)

pub returns-clause-state : goal.returns-clause-state
returns-clause-state c bytes report s r thread number events used h k =
    same_state report.image report.options s r thread number events used h.widths k.widths
    (same_values bytes report s r thread number events used h k)

pub returns-clause-thread : goal.returns-clause-thread
returns-clause-thread c bytes report s r thread number events used h k =
    same_thread report.image report.options s r thread number events used h.widths k.widths
    (same_values bytes report s r thread number events used h k)

pub returns-clause-events : goal.returns-clause-events
returns-clause-events c bytes report s r thread number events used h k =
    same_events report.image report.options s r thread number events used h.widths k.widths
    (same_values bytes report s r thread number events used h k)
