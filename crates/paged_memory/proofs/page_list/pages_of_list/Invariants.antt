use Rattle.std.proofs.Common.{◌≡◌, map, take}
use Rattle.paged_memory.specs.PageList.{page_made}
use Rattle.paged_memory.specs.Pages.{IsFine}
use Rattle.paged_memory.proofs.page_list.pages_of_list.Given as goal

abbrev pub invariant-loop-page : goal.invariant-loop-page
invariant-loop-page l = record {
  fine : IsFine l.pages.items;
  made : l.pages.items ≡ map page_made (take l.page-index l.list.items);
}
