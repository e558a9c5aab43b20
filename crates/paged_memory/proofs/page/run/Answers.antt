use Rattle.std.proofs.Common.{◌≡◌, ◌+◌, ◌-◌, ◌%◌, ◌/◌, Some, length, arith}
use Rattle.paged_memory.specs.Pages.{page_at}
use Rattle.paged_memory.proofs.Runs.{page_read, run_read, page_denied, page_gone}
use Rattle.paged_memory.proofs.page.run.Goals as goal

pub returns-then-page-need-clause-there : goal.returns-then-page-need-clause-there
returns-then-page-need-clause-there c =
    let page : page_at c.args.pages.now (c.args.address / 4096) ≡ Some c.index-pages-i.result =
    page_read c.args.pages.now _ c.in-Some.i c.index-pages-i.result c.in-Some.ensures.1 c.in-Some.ensures.0 c.index-pages-i.is in
    let full : length c.index-pages-i.result.bytes.items ≡ 4096 =
    rw c.index-pages-i.is (c.requires.fine.full c.in-Some.i _ c.in-Some.ensures.0) in
    let count : c.args.address % 4096 + c.args.count - c.args.address % 4096 ≡ c.args.count = omega arith in
    rw (count, c.as_slice.ensures) (run_read c.args.pages.now c.args.need c.args.address c.args.count c.index-pages-i.result
    c.requires.fine page c.if-page-need.true full (omega arith) c.requires.fits)

pub returns-else-page-need-clause-gone : goal.returns-else-page-need-clause-gone
returns-else-page-need-clause-gone c =
    page_denied c.args.pages.now c.args.need c.args.address c.index-pages-i.result c.requires.fine
    (page_read c.args.pages.now _ c.in-Some.i c.index-pages-i.result c.in-Some.ensures.1 c.in-Some.ensures.0 c.index-pages-i.is)
    c.if-page-need.false

pub returns-in-None-clause-gone : goal.returns-in-None-clause-gone
returns-in-None-clause-gone c = page_gone c.args.pages.now c.args.need c.args.address c.requires.fine c.in-None.ensures
