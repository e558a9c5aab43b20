use Rattle.sve_exec.proofs.Counts.{changes_fit}
use Rattle.sve_exec.proofs.count.changes.Goals as goal

pub returns-clause-small : goal.returns-clause-small
returns-clause-small c = changes_fit _ _ _ c.requires c.without_top.ensures.small
