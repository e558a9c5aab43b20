use Rattle.std.proofs.Common.{refl, ap}
use Rattle.sm_types.specs.declared.insn.LoadStoreOp.TheVariants.{Store}
use Rattle.mem_access.specs.Access.{bytes_in, is_load, is_store, load_store_access}
use Rattle.mem_access.specs.Runs.{after_load_store}
use Rattle.mem_access.proofs.Faults.{raised, made_reading, made_writing, made_as}
use Rattle.mem_access.proofs.OneRegister.{no_store, a_load}
use Rattle.mem_access.proofs.Room.{owned_bytes}
use Rattle.mem_access.specs.Transfer.{raised_by}
use Rattle.paged_memory.proofs.Owned.{owns_none}
use Rattle.mem_access.proofs.Owned.{owns_as, store_writes, load_writes}
use Rattle.mem_access.proofs.transfers.transfer_load_store.Goals as goal

pub returns-in-Some-clause-made : goal.returns-in-Some-clause-made
returns-in-Some-clause-made c = (
  raised (load_store_access c.args.x.now c.args.s.now) _ c.args.s.now c.args.pages.now.memory _ c.load_store_access-access.ensures.value
      c.in-Some.ensures,
  refl,
)

pub returns-in-Store-clause-made : goal.returns-in-Store-clause-made
unfolding load_store_access
returns-in-Store-clause-made c =
    let x = c.args.x.now in
    made_as _ _ _ _ _ c.store.result (ap (λ op. after_load_store op x (load_store_access x c.args.s.now).address c.args.s.now
    c.args.pages.now.memory) c.in-Store.is)
    (made_writing (load_store_access x c.args.s.now) _ c.args.s.now c.args.pages.now.memory (bytes_in x.size)
    (λ a. after_load_store Store x a c.args.s.now c.args.pages.now.memory) _ _ c.store.result c.load_store_access-access.ensures.value
    c.in-None.ensures (ap is_load c.in-Store.is) (ap is_store c.in-Store.is) refl c.store.ensures.made)

pub returns-in_default-clause-made : goal.returns-in_default-clause-made
unfolding load_store_access
returns-in_default-clause-made c =
    let x = c.args.x.now in
    made_reading (load_store_access x c.args.s.now) _ c.args.s.now c.args.pages.now.memory (bytes_in x.size)
    (λ a. after_load_store x.op x a c.args.s.now c.args.pages.now.memory) _ _ c.load.result c.load_store_access-access.ensures.value
    c.in-None.ensures (a_load x.op c.in_default.not-Store) (no_store x.op c.in_default.not-Store) refl c.load.ensures.made

pub returns-in-Store-clause-room : goal.returns-in-Store-clause-room
unfolding load_store_access
returns-in-Store-clause-room c room =
    let x = c.args.x.now in
    c.store.ensures.room (owned_bytes (load_store_access x c.args.s.now) _ c.args.pages.now (bytes_in x.size)
    c.load_store_access-access.ensures.value (ap is_store c.in-Store.is) refl room)

pub returns-in-Store-clause-owned : goal.returns-in-Store-clause-owned
returns-in-Store-clause-owned c =
    owns_as _ _ _ _ c.store.result
    (store_writes c.args.x.now _ c.args.s.now c.args.pages.now.memory c.load_store_access-access.ensures.value c.in-Store.is)
    c.store.ensures.owned

pub returns-in_default-clause-owned : goal.returns-in_default-clause-owned
returns-in_default-clause-owned c =
    owns_as _ _ _ _ c.load.result (load_writes c.args.x.now c.args.s.now c.args.pages.now.memory c.in_default.not-Store)
    (owns_none raised_by c.args.pages.now c.load.result)
