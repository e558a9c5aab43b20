use Rattle.std.proofs.Common.{◌≡◌, ◌-◌, ◌≤◌}
use Rattle.paged_memory.specs.Memory.{run_of}
use Rattle.paged_memory.specs.PageTable.{OwnsAlso}
use Rattle.paged_memory.specs.Pages.{memory_of, table_of, IsFine}
use Rattle.paged_memory.proofs.writes.own_run.Given as goal

abbrev pub invariant-loop-done : goal.invariant-loop-done
invariant-loop-done l = record {
  inside : l.done ≤ l.length;
  fine : IsFine l.pages.items;
  memory : memory_of l.pages.items ≡ memory_of l.initial.pages.items;
  owned : OwnsAlso (table_of l.initial.pages.items) (table_of l.pages.items) (run_of l.address l.done);
}

abbrev pub decreases-loop-done : goal.decreases-loop-done
decreases-loop-done l = l.length - l.done
