use Rattle.plan_reader.proofs.Plans.{as_many}
use Rattle.plan_reader.proofs.laws.one_line_each.Goals as goal

pub returns : goal.returns
returns c = as_many
