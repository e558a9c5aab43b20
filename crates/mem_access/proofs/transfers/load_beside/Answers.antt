use Rattle.sm_types.specs.declared.insn.Insn.TheVariants as insn
use Rattle.mem_access.proofs.Faults.{transfers_as}
use Rattle.mem_access.proofs.Lists.{transfer_fault-is, after_access-is}
use Rattle.mem_access.proofs.transfers.load_beside.Goals as goal

pub returns-clause-made : goal.returns-clause-made
returns-clause-made c =
    let it = insn.LoadLiteral c.args.x.now in
    let s = c.args.s.now in
    let m = c.args.pages.now.memory in
    transfers_as _ _ _ _ _ _ c.transfer_load_literal.result (transfer_fault-is it s m) (after_access-is it s m)
    c.transfer_load_literal.ensures.made
