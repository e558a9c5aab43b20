use Rattle.std.proofs.Common.{◌≡◌, ◌-◌, ◌≤◌, length, take}
use Rattle.paged_memory.specs.Memory.{set_bytes}
use Rattle.paged_memory.specs.Pages.{mem_of, perm_of, own_numbers, IsFine}
use Rattle.paged_memory.proofs.writes.put_bytes.Given as goal

abbrev pub invariant-loop-done : goal.invariant-loop-done
invariant-loop-done l = record {
  inside : l.done ≤ length l.bytes;
  fine : IsFine l.pages.items;
  bytes : mem_of l.pages.items ≡ set_bytes (mem_of l.initial.pages.items) l.address (take l.done l.bytes);
  flags : perm_of l.pages.items ≡ perm_of l.initial.pages.items;
  owned : own_numbers l.pages.items ≡ own_numbers l.initial.pages.items;
}

abbrev pub decreases-loop-done : goal.decreases-loop-done
decreases-loop-done l = length l.bytes - l.done
