use Rattle.vector_runner.proofs.TwoPages.{seen_list, listed_memory}
use Rattle.vector_runner.proofs.state.pages_with.Goals as goal

pub from_pages-requires : goal.from_pages-requires
from_pages-requires c = seen_list c.args.word c.in-Ok.list.items c.in-Ok.ensures

pub returns-in-Ok : goal.returns-in-Ok
returns-in-Ok c =
    listed_memory c.args.word c.in-Ok.list.items c.from_pages.result c.in-Ok.ensures c.from_pages.ensures.pages
    c.from_pages.ensures.bytes c.from_pages.ensures.whole
