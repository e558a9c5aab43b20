use Rattle.std.proofs.Common.{ap, ◌∙◌}
use Rattle.field_table.specs.Table.{first_bad}
use Rattle.field_table.proofs.Tables.{filled_reads}
use Rattle.ckpt_fields.specs.Rows.{checkpoint_table}
use Rattle.ckpt_file.specs.Checkpoint.{checkpoint, checkpoint_values}
use Rattle.ckpt_file.proofs.laws.checkpoints_have_good_fields.Goals as goal

pub returns : goal.returns
unfolding checkpoint
returns c bytes report state thread events h =
    ap (λ b. first_bad (checkpoint_table report) b 0) h.file
    ∙ filled_reads (checkpoint_table report) (checkpoint_values report.image report.options state thread events) 0 h.fields
