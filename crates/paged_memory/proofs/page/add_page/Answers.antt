use Rattle.std.specs.List.{insert}
use Rattle.paged_memory.specs.Pages.{IsFine}
use Rattle.paged_memory.proofs.Insert.{fine_insert, memory_of-insert}
use Rattle.paged_memory.proofs.page.add_page.Goals as goal

pub returns-clause-fine : goal.returns-clause-fine
returns-clause-fine c =
    rw c.in_ok-insert.ensures.items (fine_insert c.args.pages.now.items c.count_below-i.result c.args.page c.requires.fine
    (rw c.as_slice.ensures.value at c.count_below-i.ensures.bound) (rw c.as_slice.ensures.value at c.count_below-i.ensures.below)
    (rw c.as_slice.ensures.value at c.count_below-i.ensures.rest) c.requires.whole c.requires.flags c.requires.low c.requires.missing)

pub returns-clause-memory : goal.returns-clause-memory
returns-clause-memory c =
    let fine : IsFine (insert c.args.pages.now.items c.count_below-i.result c.args.page) =
    rw c.in_ok-insert.ensures.items at (returns-clause-fine c) in
    rw c.in_ok-insert.ensures.items (memory_of-insert c.args.pages.now.items c.count_below-i.result c.args.page c.requires.fine fine
    c.requires.whole c.requires.low c.requires.missing)
