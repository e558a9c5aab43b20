use Rattle.std.proofs.Common.{◌==◌, ℕ, [], cond, refl, ap}
use Rattle.scalar_exec.specs.Registers.{x_of, with_x}
use Rattle.mem_access.specs.Access.{bytes_in, atomic_access}
use Rattle.paged_memory.specs.Memory.{run_of}
use Rattle.paged_memory.proofs.Owned.{owns_none}
use Rattle.mem_access.specs.Transfer.{AfterAccess, raised_by, atomic_stored}
use Rattle.mem_access.proofs.Owned.{owns_as, atomic_writes, cas_writes}
use Rattle.mem_access.specs.Values.{low_bytes, updated}
use Rattle.mem_access.specs.Runs.{after_atomic, number_in, with_number}
use Rattle.mem_access.proofs.Faults.{raised}
use Rattle.mem_access.proofs.Atomics.{of_kind, atomic_read, atomic_written, atomic_updated}
use Rattle.mem_access.proofs.Room.{owned_bytes}
use Rattle.mem_access.proofs.atomic.transfer_atomic.Goals as goal

pub returns-in-Some-clause-made : goal.returns-in-Some-clause-made
returns-in-Some-clause-made c = (
  raised (atomic_access c.args.x.now c.args.s.now) _ c.args.s.now c.args.pages.now.memory _ c.atomic_access-access.ensures.value
      c.in-Some.ensures,
  refl,
)

pub returns-in-Ldar-clause-made : goal.returns-in-Ldar-clause-made
unfolding atomic_access after_atomic
returns-in-Ldar-clause-made c =
    let s = c.args.s.now in
    let m = c.args.pages.now.memory in
    let n = bytes_in c.in-Ldar.size in
    let made : ℕ → AfterAccess = λ a. record { scalars = with_x s c.in-Ldar.rt (number_in m a n); memory = m } in
    atomic_read c.args.x.now _ _ s m n made _ _ c.load_ordered.result
    (of_kind c.in-Ldar.is c.atomic_access-access.ensures.value c.in-None.ensures refl refl refl) (λ a. refl) c.load_ordered.ensures.made

pub returns-in-Stlr-clause-made : goal.returns-in-Stlr-clause-made
unfolding atomic_access after_atomic
returns-in-Stlr-clause-made c =
    let s = c.args.s.now in
    let m = c.args.pages.now.memory in
    let n = bytes_in c.in-Stlr.size in
    let made : ℕ → AfterAccess = λ a. record { scalars = s; memory = with_number m a n (x_of s c.in-Stlr.rt) } in
    atomic_written c.args.x.now _ _ s m n made _ _ c.store_ordered.result
    (of_kind c.in-Stlr.is c.atomic_access-access.ensures.value c.in-None.ensures refl refl refl) (λ a. refl) c.store_ordered.ensures.made

pub returns-in-Cas-clause-made : goal.returns-in-Cas-clause-made
unfolding atomic_access after_atomic
returns-in-Cas-clause-made c =
    let s = c.args.s.now in
    let m = c.args.pages.now.memory in
    let n = bytes_in c.in-Cas.size in
    let made : ℕ → AfterAccess =
    λ a. record {
      scalars = with_x s c.in-Cas.rs (number_in m a n);
      memory = cond (number_in m a n == low_bytes n (x_of s c.in-Cas.rs)) (with_number m a n (x_of s c.in-Cas.rt)) m;
    } in
    atomic_updated c.args.x.now _ _ s m n made _ _ c.swap_where_equal.result
    (of_kind c.in-Cas.is c.atomic_access-access.ensures.value c.in-None.ensures refl refl refl) (λ a. refl) c.swap_where_equal.ensures.made

pub returns-in-Swap-clause-made : goal.returns-in-Swap-clause-made
unfolding atomic_access after_atomic
returns-in-Swap-clause-made c =
    let s = c.args.s.now in
    let m = c.args.pages.now.memory in
    let n = bytes_in c.in-Swap.size in
    let made : ℕ → AfterAccess =
    λ a. record { scalars = with_x s c.in-Swap.rt (number_in m a n); memory = with_number m a n (x_of s c.in-Swap.rs) } in
    atomic_updated c.args.x.now _ _ s m n made _ _ c.swap_register.result
    (of_kind c.in-Swap.is c.atomic_access-access.ensures.value c.in-None.ensures refl refl refl) (λ a. refl) c.swap_register.ensures.made

pub returns-in-Update-clause-made : goal.returns-in-Update-clause-made
unfolding atomic_access after_atomic
returns-in-Update-clause-made c =
    let s = c.args.s.now in
    let m = c.args.pages.now.memory in
    let n = bytes_in c.in-Update.size in
    let made : ℕ → AfterAccess =
    λ a. record {
      scalars = with_x s c.in-Update.rt (number_in m a n);
      memory = with_number m a n (updated c.in-Update.op n (number_in m a n) (low_bytes n (x_of s c.in-Update.rs)));
    } in
    atomic_updated c.args.x.now _ _ s m n made _ _ c.update_by_register.result
    (of_kind c.in-Update.is c.atomic_access-access.ensures.value c.in-None.ensures refl refl refl) (λ a. refl)
    c.update_by_register.ensures.made

pub returns-in-Stlr-clause-room : goal.returns-in-Stlr-clause-room
unfolding atomic_access
returns-in-Stlr-clause-room c room =
    let s = c.args.s.now in
    c.store_ordered.ensures.room (owned_bytes (atomic_access c.args.x.now s) _ c.args.pages.now (bytes_in c.in-Stlr.size)
    c.atomic_access-access.ensures.value (ap (λ x. (atomic_access x s).writes) c.in-Stlr.is)
    (ap (λ x. (atomic_access x s).size) c.in-Stlr.is) room)

pub returns-in-Cas-clause-room : goal.returns-in-Cas-clause-room
unfolding atomic_access
returns-in-Cas-clause-room c room =
    let s = c.args.s.now in
    c.swap_where_equal.ensures.room (owned_bytes (atomic_access c.args.x.now s) _ c.args.pages.now (bytes_in c.in-Cas.size)
    c.atomic_access-access.ensures.value (ap (λ x. (atomic_access x s).writes) c.in-Cas.is)
    (ap (λ x. (atomic_access x s).size) c.in-Cas.is) room)

pub returns-in-Swap-clause-room : goal.returns-in-Swap-clause-room
unfolding atomic_access
returns-in-Swap-clause-room c room =
    let s = c.args.s.now in
    c.swap_register.ensures.room (owned_bytes (atomic_access c.args.x.now s) _ c.args.pages.now (bytes_in c.in-Swap.size)
    c.atomic_access-access.ensures.value (ap (λ x. (atomic_access x s).writes) c.in-Swap.is)
    (ap (λ x. (atomic_access x s).size) c.in-Swap.is) room)

pub returns-in-Update-clause-room : goal.returns-in-Update-clause-room
unfolding atomic_access
returns-in-Update-clause-room c room =
    let s = c.args.s.now in
    c.update_by_register.ensures.room (owned_bytes (atomic_access c.args.x.now s) _ c.args.pages.now (bytes_in c.in-Update.size)
    c.atomic_access-access.ensures.value (ap (λ x. (atomic_access x s).writes) c.in-Update.is)
    (ap (λ x. (atomic_access x s).size) c.in-Update.is) room)

pub returns-in-Ldar-clause-owned : goal.returns-in-Ldar-clause-owned
unfolding atomic_access atomic_stored
returns-in-Ldar-clause-owned c =
    owns_as _ _ _ _ c.load_ordered.result
    (atomic_writes c.args.x.now _ _ c.args.s.now c.args.pages.now.memory (λ a. []) c.in-Ldar.is
    c.atomic_access-access.ensures.value refl) (owns_none raised_by c.args.pages.now c.load_ordered.result)

pub returns-in-Stlr-clause-owned : goal.returns-in-Stlr-clause-owned
unfolding atomic_access atomic_stored
returns-in-Stlr-clause-owned c =
    owns_as _ _ _ _ c.store_ordered.result
    (atomic_writes c.args.x.now _ _ c.args.s.now c.args.pages.now.memory (λ a. run_of a (bytes_in c.in-Stlr.size)) c.in-Stlr.is
    c.atomic_access-access.ensures.value refl) c.store_ordered.ensures.owned

pub returns-in-Swap-clause-owned : goal.returns-in-Swap-clause-owned
unfolding atomic_access atomic_stored
returns-in-Swap-clause-owned c =
    owns_as _ _ _ _ c.swap_register.result
    (atomic_writes c.args.x.now _ _ c.args.s.now c.args.pages.now.memory (λ a. run_of a (bytes_in c.in-Swap.size)) c.in-Swap.is
    c.atomic_access-access.ensures.value refl) c.swap_register.ensures.owned

pub returns-in-Update-clause-owned : goal.returns-in-Update-clause-owned
unfolding atomic_access atomic_stored
returns-in-Update-clause-owned c =
    owns_as _ _ _ _ c.update_by_register.result
    (atomic_writes c.args.x.now _ _ c.args.s.now c.args.pages.now.memory (λ a. run_of a (bytes_in c.in-Update.size)) c.in-Update.is
    c.atomic_access-access.ensures.value refl) c.update_by_register.ensures.owned

pub returns-in-Cas-clause-owned : goal.returns-in-Cas-clause-owned
returns-in-Cas-clause-owned c =
    owns_as _ _ _ _ c.swap_where_equal.result
    (cas_writes c.args.x.now _ _ _ _ _ _ _ c.args.s.now c.args.pages.now.memory c.in-Cas.is c.atomic_access-access.ensures.value)
    c.swap_where_equal.ensures.owned
