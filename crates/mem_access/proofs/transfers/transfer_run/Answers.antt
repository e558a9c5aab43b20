use Rattle.mem_access.specs.Transfer.{raised_by}
use Rattle.paged_memory.proofs.Owned.{owns_none}
use Rattle.mem_access.proofs.transfers.transfer_run.Goals as goal

pub returns-in-LoadLiteral-clause-owned : goal.returns-in-LoadLiteral-clause-owned
returns-in-LoadLiteral-clause-owned c =
    rw c.in-LoadLiteral.is (owns_none raised_by c.args.pages.now c.transfer_load_literal.result)
