use Rattle.std.proofs.Common.{◌*◌, refl, ap}
use Rattle.sm_types.specs.declared.insn.PairOp.TheVariants.{Stp, Ldp}
use Rattle.mem_access.specs.Access.{register_size, is_ldp, is_stp, pair_access}
use Rattle.mem_access.specs.Runs.{after_pair}
use Rattle.mem_access.proofs.Faults.{raised, made_reading, made_writing, made_as}
use Rattle.mem_access.proofs.Room.{owned_bytes}
use Rattle.mem_access.specs.Transfer.{raised_by}
use Rattle.paged_memory.proofs.Owned.{owns_none}
use Rattle.mem_access.proofs.Owned.{owns_as, store_pair_writes, load_pair_writes}
use Rattle.mem_access.proofs.transfers.transfer_pair.Goals as goal

pub returns-in-Some-clause-made : goal.returns-in-Some-clause-made
returns-in-Some-clause-made c = (
  raised (pair_access c.args.x.now c.args.s.now) _ c.args.s.now c.args.pages.now.memory _ c.pair_access-access.ensures.value
      c.in-Some.ensures,
  refl,
)

pub returns-in-Stp-clause-made : goal.returns-in-Stp-clause-made
unfolding pair_access
returns-in-Stp-clause-made c =
    let x = c.args.x.now in
    made_as _ _ _ _ _ c.store_registers.result (ap
    (λ op. after_pair op x (pair_access x c.args.s.now).address c.args.s.now c.args.pages.now.memory) c.in-Stp.is)
    (made_writing (pair_access x c.args.s.now) _ c.args.s.now c.args.pages.now.memory (2 * register_size x.wide)
    (λ a. after_pair Stp x a c.args.s.now c.args.pages.now.memory) _ _ c.store_registers.result c.pair_access-access.ensures.value
    c.in-None.ensures (ap is_ldp c.in-Stp.is) (ap is_stp c.in-Stp.is) refl c.store_registers.ensures.made)

pub returns-in-Ldp-clause-made : goal.returns-in-Ldp-clause-made
unfolding pair_access
returns-in-Ldp-clause-made c =
    let x = c.args.x.now in
    made_as _ _ _ _ _ c.load_registers.result (ap
    (λ op. after_pair op x (pair_access x c.args.s.now).address c.args.s.now c.args.pages.now.memory) c.in-Ldp.is)
    (made_reading (pair_access x c.args.s.now) _ c.args.s.now c.args.pages.now.memory (2 * register_size x.wide)
    (λ a. after_pair Ldp x a c.args.s.now c.args.pages.now.memory) _ _ c.load_registers.result c.pair_access-access.ensures.value
    c.in-None.ensures (ap is_ldp c.in-Ldp.is) (ap is_stp c.in-Ldp.is) refl c.load_registers.ensures.made)

pub returns-in-Stp-clause-room : goal.returns-in-Stp-clause-room
unfolding pair_access
returns-in-Stp-clause-room c room =
    let x = c.args.x.now in
    c.store_registers.ensures.room (owned_bytes (pair_access x c.args.s.now) _ c.args.pages.now (2 * register_size x.wide)
    c.pair_access-access.ensures.value (ap is_stp c.in-Stp.is) refl room)

pub returns-in-Stp-clause-owned : goal.returns-in-Stp-clause-owned
returns-in-Stp-clause-owned c =
    owns_as _ _ _ _ c.store_registers.result
    (store_pair_writes c.args.x.now _ c.args.s.now c.args.pages.now.memory c.pair_access-access.ensures.value c.in-Stp.is)
    c.store_registers.ensures.owned

pub returns-in-Ldp-clause-owned : goal.returns-in-Ldp-clause-owned
returns-in-Ldp-clause-owned c =
    owns_as _ _ _ _ c.load_registers.result (load_pair_writes c.args.x.now c.args.s.now c.args.pages.now.memory c.in-Ldp.is)
    (owns_none raised_by c.args.pages.now c.load_registers.result)
