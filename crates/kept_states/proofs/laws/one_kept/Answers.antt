use Rattle.kept_states.proofs.OneKept.{one}
use Rattle.kept_states.proofs.laws.one_kept.Goals as goal

pub returns : goal.returns
returns c = one
