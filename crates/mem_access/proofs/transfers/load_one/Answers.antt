use Rattle.std.proofs.Common.{refl, ◌∙◌}
use Rattle.sm_types.specs.declared.insn.Insn.TheVariants as insn
use Rattle.mem_access.specs.Access.{bytes_in, load_store_access}
use Rattle.mem_access.specs.Runs.{after_load_store}
use Rattle.mem_access.proofs.Faults.{raised, made_reading, transfers_as}
use Rattle.mem_access.proofs.OneRegister.{loads_only}
use Rattle.mem_access.proofs.Lists.{transfer_fault-is, after_access-is}
use Rattle.mem_access.proofs.transfers.load_one.Goals as goal

pub returns-in-Some-clause-made : goal.returns-in-Some-clause-made
returns-in-Some-clause-made c =
    let it = insn.LoadStore c.args.x.now in (
      transfer_fault-is it c.args.s.now c.args.pages.now.memory
          ∙ raised (load_store_access c.args.x.now c.args.s.now) _ c.args.s.now c.args.pages.now.memory _
          c.load_store_access-access.ensures.value c.in-Some.ensures,
      refl,
    )

pub returns-in-None-clause-made : goal.returns-in-None-clause-made
unfolding load_store_access
returns-in-None-clause-made c =
    let x = c.args.x.now in
    let it = insn.LoadStore x in
    transfers_as _ _ _ _ _ _ c.load.result (transfer_fault-is it c.args.s.now c.args.pages.now.memory)
    (after_access-is it c.args.s.now c.args.pages.now.memory)
    (made_reading (load_store_access x c.args.s.now) _ c.args.s.now c.args.pages.now.memory (bytes_in x.size)
    (λ a. after_load_store x.op x a c.args.s.now c.args.pages.now.memory) _ _ c.load.result c.load_store_access-access.ensures.value
    c.in-None.ensures c.requires.load (loads_only x.op c.requires.load) refl c.load.ensures.made)
