use Rattle.plan_reader.proofs.Plans.{is_plan, plan_is}
use Rattle.plan_reader.proofs.laws.one_plan.Goals as goal

pub returns : goal.returns
returns c = λ bytes events. (is_plan bytes events, plan_is bytes events)
