use Rattle.paged_memory.proofs.Order.{found_at}
use Rattle.paged_memory.proofs.page.find.Goals as goal

pub returns-then-pages-i : goal.returns-then-pages-i
returns-then-pages-i c =
    (c.if-i-pages.true, found_at c.args.pages.now _ _ c.index-pages-i.result c.requires c.if-i-pages.true c.if-pages-i.true)
