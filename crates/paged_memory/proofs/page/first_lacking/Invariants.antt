use Rattle.std.proofs.Common.{◌≡◌, ◌-◌, ◌≤◌, None}
use Rattle.paged_memory.specs.Memory.{first_without}
use Rattle.paged_memory.specs.Pages.{memory_of}
use Rattle.paged_memory.proofs.page.first_lacking.Given as goal

abbrev pub invariant-loop-done : goal.invariant-loop-done
invariant-loop-done l = record {
  inside : l.done ≤ l.length;
  without : first_without l.need (memory_of l.pages) l.address l.done ≡ None;
}

abbrev pub decreases-loop-done : goal.decreases-loop-done
decreases-loop-done l = l.length - l.done
