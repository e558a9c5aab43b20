use Rattle.std.proofs.Common.{◌≡◌, ℕ, ◌≤◌, length, true, drop, map}
use Rattle.std.specs.FinMap.{get}
use Rattle.paged_memory.specs.Image.{extent_of, image_flags}
use Rattle.paged_memory.specs.Parts.{IsZero}
use Rattle.paged_memory.specs.Pages.{perm_of, memory_of, IsFine, AreHeld}
use Rattle.paged_memory.proofs.image.touched_pages.Given as goal

abbrev pub invariant-loop-left : goal.invariant-loop-left
invariant-loop-left l = record {
  bound : l.left ≤ length l.parts;
  fine : IsFine l.pages.items;
  zero : IsZero (memory_of l.pages.items);
  own : AreHeld true l.pages.items;
  flags : (n : ℕ) → get (perm_of l.pages.items) n ≡ image_flags (drop l.left (map extent_of l.parts)) n;
}

abbrev pub decreases-loop-left : goal.decreases-loop-left
decreases-loop-left l = l.left
