use Rattle.std.proofs.Common.{◌≡◌, length}
use Rattle.paged_memory.specs.Pages.{memory_of, IsFine}
use Rattle.paged_memory.proofs.image.share_bytes.Given as goal

abbrev pub invariant-loop-i : goal.invariant-loop-i
invariant-loop-i l = record {
  fine : IsFine l.pages.items;
  memory : memory_of l.pages.items ≡ memory_of l.initial.pages.items;
  count : length l.pages.items ≡ length l.initial.pages.items;
}
