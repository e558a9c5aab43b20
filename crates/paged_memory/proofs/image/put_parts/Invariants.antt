use Rattle.std.proofs.Common.{◌≡◌, ℕ, ◌/◌, ◌≤◌, length, drop, map}
use Rattle.std.specs.FinMap.{get}
use Rattle.std.specs.Option.{option_or}
use Rattle.paged_memory.specs.Image.{extent_of, image_flags, parts_byte, zero_in}
use Rattle.paged_memory.specs.Pages.{mem_of, perm_of, own_numbers, IsFine}
use Rattle.paged_memory.proofs.image.put_parts.Given as goal

abbrev pub invariant-loop-left : goal.invariant-loop-left
invariant-loop-left l = record {
  bound : l.left ≤ length l.parts;
  fine : IsFine l.pages.items;
  flags : perm_of l.pages.items ≡ perm_of l.initial.pages.items;
  owned : own_numbers l.pages.items ≡ own_numbers l.initial.pages.items;
  bytes : (a : ℕ) → get (mem_of l.pages.items) a
      ≡ option_or (parts_byte (drop l.left (map extent_of l.parts)) a) (zero_in (image_flags (map extent_of l.parts) (a / 4096)));
}

abbrev pub decreases-loop-left : goal.decreases-loop-left
decreases-loop-left l = l.left
