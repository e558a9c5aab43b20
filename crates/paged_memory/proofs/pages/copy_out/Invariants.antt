use Rattle.std.proofs.Common.{◌≡◌, ◌-◌, ◌≤◌, length, take, Some}
use Rattle.paged_memory.specs.Memory.{bytes_with}
use Rattle.paged_memory.specs.Pages.{memory_of}
use Rattle.paged_memory.proofs.pages.copy_out.Given as goal

abbrev pub invariant-loop-done : goal.invariant-loop-done
invariant-loop-done l = record {
  inside : l.done ≤ length l.into;
  bytes : bytes_with l.need (memory_of l.pages) l.address l.done ≡ Some (take l.done l.into);
}

abbrev pub decreases-loop-done : goal.decreases-loop-done
decreases-loop-done l = length l.initial.into - l.done
