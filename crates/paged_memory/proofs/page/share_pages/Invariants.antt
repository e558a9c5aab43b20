use Rattle.std.proofs.Common.{◌≡◌, length, false, take}
use Rattle.paged_memory.specs.Pages.{memory_of, IsFine, AreHeld}
use Rattle.paged_memory.proofs.page.share_pages.Given as goal

abbrev pub invariant-loop-page : goal.invariant-loop-page
invariant-loop-page l = record {
  fine : IsFine l.copies.items;
  memory : memory_of l.copies.items ≡ memory_of (take l.page-index l.pages);
  shared : AreHeld false l.copies.items;
  count : length l.copies.items ≡ l.page-index;
}
