use Rattle.std.proofs.Common.{◌≡◌, ◌+◌, length, false}
use Rattle.paged_memory.specs.Memory.{with_zero_pages}
use Rattle.paged_memory.specs.Pages.{memory_of, IsFine, AreHeld}
use Rattle.paged_memory.proofs.pages.add_stack.Given as goal

abbrev pub invariant-loop-n : goal.invariant-loop-n
invariant-loop-n l = record {
  fine : IsFine l.pages.items;
  memory : memory_of l.pages.items ≡ with_zero_pages (memory_of l.initial.pages.items) 0x7DFFFFFC0 6 l.n;
  shared : AreHeld false l.pages.items;
  count : length l.pages.items ≡ length l.initial.pages.items + l.n;
}
