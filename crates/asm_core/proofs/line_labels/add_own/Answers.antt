use Rattle.asm_core.proofs.LineLabels.{added_none}
use Rattle.asm_core.proofs.line_labels.add_own.Goals as goal

pub returns-in_default-clause-ok : goal.returns-in_default-clause-ok
returns-in_default-clause-ok c = rw c.in_default.is (added_none c.args.labels.now)
