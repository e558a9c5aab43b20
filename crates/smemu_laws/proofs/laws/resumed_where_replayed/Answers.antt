use Rattle.smemu_laws.proofs.Commands.{resumed_where}
use Rattle.smemu_laws.proofs.laws.resumed_where_replayed.Goals as goal

pub returns : goal.returns
returns c files program report name thread count checkpoint text written stands =
    resumed_where files program report name thread count checkpoint text written stands
