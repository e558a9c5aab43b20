use Rattle.paged_memory.proofs.Owned.{owned_kept}
use Rattle.mem_access.specs.Transfer.{raised_by}
use Rattle.mem_access.proofs.Faults.{transfers_as}
use Rattle.mem_access.proofs.Lists.{transfer_fault-is, after_access-is, room-is}
use Rattle.mem_access.proofs.transfers.transfer.Goals as goal

pub returns-clause-made : goal.returns-clause-made
returns-clause-made c =
    let it = c.args.insn.now in
    let s = c.args.scalars.now in
    let m = c.args.pages.now.memory in
    transfers_as _ _ _ _ _ _ c.transfer_run.result (transfer_fault-is it s m) (after_access-is it s m) c.transfer_run.ensures.made

pub returns-clause-room : goal.returns-clause-room
returns-clause-room c room = c.transfer_run.ensures.room (room-is c.args.insn.now c.args.scalars.now c.args.pages.now room)

pub returns-clause-kept : goal.returns-clause-kept
returns-clause-kept c = owned_kept raised_by _ _ _ c.transfer_run.result c.transfer_run.ensures.owned
