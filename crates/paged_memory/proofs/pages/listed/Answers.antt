use Rattle.paged_memory.proofs.Listed.{entries_made, bytes_made}
use Rattle.paged_memory.proofs.Whole.{whole_pages}
use Rattle.paged_memory.proofs.pages.listed.Goals as goal

pub returns-clause-pages : goal.returns-clause-pages
returns-clause-pages c = entries_made c.args.list.now.items c.in_ok-pages.pages.items c.in_ok-pages.ensures.fine c.in_ok-pages.ensures.pages

pub returns-clause-bytes : goal.returns-clause-bytes
returns-clause-bytes c =
    bytes_made c.args.list.now.items c.in_ok-pages.pages.items c.requires c.in_ok-pages.ensures.fine c.in_ok-pages.ensures.pages

pub returns-clause-whole : goal.returns-clause-whole
returns-clause-whole c = whole_pages c.in_ok-pages.pages.items c.in_ok-pages.ensures.fine
