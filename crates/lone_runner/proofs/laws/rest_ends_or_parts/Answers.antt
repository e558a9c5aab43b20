use Rattle.lone_runner.proofs.Partings.{one_rest_fault, rest_ends, rest_ends_unless}
use Rattle.lone_runner.proofs.laws.rest_ends_or_parts.Goals as goal

pub returns-clause-one : goal.returns-clause-one
returns-clause-one c config thread from done events count f g h k = one_rest_fault config thread from done events count f g h k

pub returns-clause-ends : goal.returns-clause-ends
returns-clause-ends c config thread from done events count fault ends = rest_ends config thread from done events count fault ends

pub returns-clause-parts : goal.returns-clause-parts
returns-clause-parts c config thread from done events count within handlers none =
    rest_ends_unless config thread from done events count within handlers none
