use Rattle.std.proofs.Common.{◌≡◌, ◌+◌, ◌%◌, ◌/◌, ◌^◌, None, length, sym, ap, subst}
use Rattle.std.specs.Prelude.{IsSome}
use Rattle.std.specs.FinMap.{get}
use Rattle.paged_memory.specs.Memory.{first_without}
use Rattle.paged_memory.specs.Pages.{memory_of, table_of}
use Rattle.paged_memory.proofs.Permitted.{permitted_mapped}
use Rattle.paged_memory.proofs.Owned.{also_owned}
use Rattle.paged_memory.proofs.writes.write_across.Goals as goal

pub put_bytes-requires-clause-there : goal.put_bytes-requires-clause-there
put_bytes-requires-clause-there c k l =
    let none : None ≡ first_without 2 (memory_of c.args.pages.now.items) c.args.address (length c.args.bytes.now) =
    rw c.as_slice.ensures.value at c.in_default.ensures in
    subst (λ m. IsSome (get m.perm ((c.args.address + k) % 2 ^ 64 / 4096))) (sym c.own_run.ensures.memory)
    (permitted_mapped 2 (memory_of c.args.pages.now.items) c.args.address (length c.args.bytes.now) (sym none) k l)

pub put_bytes-requires-clause-owned : goal.put_bytes-requires-clause-owned
put_bytes-requires-clause-owned c =
    also_owned (table_of c.args.pages.now.items) (table_of c.own_run.new.pages.items) c.args.address (length c.args.bytes.now)
    c.in_ok-own_run.ensures.ok (ap (λ m. m.perm) c.own_run.ensures.memory)
