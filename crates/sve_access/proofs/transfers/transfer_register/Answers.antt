use Rattle.sve_vectors.specs.State.{length_of}
use Rattle.paged_memory.proofs.Owned.{owns_none}
use Rattle.mem_access.specs.Transfer.{raised_by}
use Rattle.mem_access.proofs.Owned.{owns_as}
use Rattle.sve_access.proofs.Registers.{load_writes}
use Rattle.sve_access.proofs.transfers.transfer_register.Goals as goal

pub returns-else-store-clause-owned : goal.returns-else-store-clause-owned
returns-else-store-clause-owned c =
    let v = c.args.vectors.now in
    rw c.if-store.false
    (owns_as _ _ _ _ c.load_register.result (load_writes c.args.register c.args.times c.args.rn c.args.s.now (length_of v) v.registers)
    (owns_none raised_by c.args.pages.now c.load_register.result))
