use Rattle.std.proofs.Common.{refl}
use Rattle.workload.specs.Source.{number_at, chosen_line, chosen_lines}
use Rattle.workload.proofs.laws.first_source.Goals as goal

pub returns-clause-number : goal.returns-clause-number
unfolding number_at
returns-clause-number c = refl

pub returns-clause-lines : goal.returns-clause-lines
unfolding number_at chosen_line chosen_lines
returns-clause-lines c = refl
