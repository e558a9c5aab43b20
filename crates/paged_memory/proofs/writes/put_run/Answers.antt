use Rattle.std.proofs.Common.{◌/◌}
use Rattle.paged_memory.proofs.Set.{page_missing}
use Rattle.paged_memory.proofs.writes.put_run.Goals as goal

pub unreachable-requires : goal.unreachable-requires
unreachable-requires c =
    page_missing c.args.pages.now.items (c.args.address / 4096) (rw c.as_slice.ensures.value at c.in-None.ensures) c.requires.there
