use Rattle.std.proofs.Common.{◌≡◌, ◌+◌, ◌-◌, ◌%◌, ◌/◌, length, arith}
use Rattle.std.specs.Prelude.{slice_get}
use Rattle.paged_memory.specs.Pages.{page_at}
use Rattle.paged_memory.proofs.Order.{found_at}
use Rattle.paged_memory.proofs.Runs.{page_read, run_read}
use Rattle.paged_memory.proofs.page.run_near.Goals as goal

pub returns-clause-there : goal.returns-clause-there
returns-clause-there c =
    let ps = c.args.pages.now in
    let i = c.place-i.result in
    let page = c.index-pages-i.result in
    let full : length page.bytes.items ≡ 4096 = rw c.index-pages-i.is (c.requires.fine.full i page c.if-i-pages.false) in
    let count : c.args.address % 4096 + c.args.count - c.args.address % 4096 ≡ c.args.count = omega arith in
    let at : page_at ps (c.args.address / 4096) ≡ slice_get ps i =
    found_at ps i (c.args.address / 4096) page c.requires.fine c.if-i-pages.false (rw (← c.index-pages-i.is) c.if-page-number.false) in
    rw (count, c.as_slice.ensures) (run_read ps c.args.need c.args.address c.args.count page c.requires.fine
    (page_read ps (c.args.address / 4096) i page at c.if-i-pages.false c.index-pages-i.is) c.if-page-need.false full (omega arith)
    c.if-start-count-gt4096.false)
