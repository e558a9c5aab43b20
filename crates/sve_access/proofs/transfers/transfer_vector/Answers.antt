use Rattle.paged_memory.proofs.Owned.{owns_none}
use Rattle.mem_access.specs.Transfer.{raised_by}
use Rattle.sve_access.specs.After.{stored}
use Rattle.sve_access.proofs.transfers.transfer_vector.Goals as goal

pub returns-in-Load-clause-owned : goal.returns-in-Load-clause-owned
unfolding stored
returns-in-Load-clause-owned c = rw c.in-Load.is (owns_none raised_by c.args.pages.now c.transfer_load.result)
