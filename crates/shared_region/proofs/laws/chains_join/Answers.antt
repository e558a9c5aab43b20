use Rattle.shared_region.proofs.Chains.{chain_join}
use Rattle.shared_region.proofs.laws.chains_join.Goals as goal

pub returns : goal.returns
returns g c = chain_join g.P.Port.gives
