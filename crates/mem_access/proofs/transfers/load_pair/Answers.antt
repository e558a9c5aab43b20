use Rattle.std.proofs.Common.{◌*◌, refl, ap, ◌∙◌}
use Rattle.sm_types.specs.declared.insn.Insn.TheVariants as insn
use Rattle.sm_types.specs.declared.insn.PairOp.TheVariants.{Ldp}
use Rattle.mem_access.specs.Access.{register_size, is_ldp, is_stp, pair_access}
use Rattle.mem_access.specs.Runs.{after_pair}
use Rattle.mem_access.proofs.Faults.{raised, made_reading, made_as, transfers_as}
use Rattle.mem_access.proofs.Lists.{transfer_fault-is, after_access-is}
use Rattle.mem_access.proofs.transfers.load_pair.Goals as goal

pub returns-in-Some-clause-made : goal.returns-in-Some-clause-made
returns-in-Some-clause-made c =
    let it = insn.LoadStorePair c.args.x.now in (
      transfer_fault-is it c.args.s.now c.args.pages.now.memory
          ∙ raised (pair_access c.args.x.now c.args.s.now) _ c.args.s.now c.args.pages.now.memory _
          c.pair_access-access.ensures.value c.in-Some.ensures,
      refl,
    )

pub returns-in-None-clause-made : goal.returns-in-None-clause-made
unfolding pair_access
returns-in-None-clause-made c =
    let x = c.args.x.now in
    let s = c.args.s.now in
    let m = c.args.pages.now.memory in
    let it = insn.LoadStorePair x in
    transfers_as _ _ _ _ _ _ c.load_registers.result (transfer_fault-is it s m) (after_access-is it s m)
    (made_as _ _ _ _ _ c.load_registers.result
    (ap (λ op. after_pair op x (pair_access x s).address s m) c.requires.load)
    (made_reading (pair_access x s) _ s m (2 * register_size x.wide) (λ a. after_pair Ldp x a s m) _ _
    c.load_registers.result c.pair_access-access.ensures.value c.in-None.ensures (ap is_ldp c.requires.load)
    (ap is_stp c.requires.load) refl c.load_registers.ensures.made))
