use Rattle.std.proofs.Common.{◌≢◌, ◌<◌, length, get_or, arith}
use Rattle.paged_memory.specs.declared.page.Page.{Page}
use Rattle.paged_memory.proofs.Order.{found_at, not_found, get_or_number}
use Rattle.paged_memory.proofs.page.search.Goals as goal
use Rattle.paged_memory.proofs.page.search.Goals.{else-i-pages-via-then-i-pages+else-pages-i, else-i-pages-via-else-i-pages}

pub returns-then-pages-i : goal.returns-then-pages-i
returns-then-pages-i c =
    (c.if-i-pages.true, found_at c.args.pages.now _ _ c.index-pages-i.result c.requires c.if-i-pages.true c.if-pages-i.true)

pub returns-else-i-pages : goal.returns-else-i-pages
returns-else-i-pages c =
    let here : (d : Page) → c.count_below-i.result < length c.args.pages.now
    → (get_or c.args.pages.now c.count_below-i.result d).number ≢ c.args.number =
    elim c.else-i-pages.branch [
      | else-i-pages-via-then-i-pages+else-pages-i w ↦
          λ d l e. w.if-pages-i.false (get_or_number c.args.pages.now c.count_below-i.result c.args.number w.index-pages-i.result d l e)
      | else-i-pages-via-else-i-pages w ↦ λ d l. absurd (omega arith)
    ] in
    not_found c.args.pages.now c.count_below-i.result c.args.number c.requires c.count_below-i.ensures.below c.count_below-i.ensures.rest
    here
