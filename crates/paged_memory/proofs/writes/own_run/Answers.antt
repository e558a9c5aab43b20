use Rattle.std.proofs.Common.{refl, ap, ◌∙◌, arith}
use Rattle.paged_memory.specs.Pages.{table_of}
use Rattle.paged_memory.proofs.Owned.{owns_next, owns_nothing_yet}
use Rattle.paged_memory.proofs.writes.own_run.Goals as goal

pub loop-done-init : goal.loop-done-init
loop-done-init c = record {
  inside = omega arith;
  fine = c.requires.fine;
  memory = refl;
  owned = owns_nothing_yet (table_of c.args.pages.now.items) c.args.address;
}

pub loop-done-preserved : goal.loop-done-preserved
loop-done-preserved c = record {
  inside = omega arith;
  fine = c.own_within.ensures.fine;
  memory = c.own_within.ensures.memory ∙ c.loop-done.invariant.memory;
  owned =
      owns_next (table_of c.args.pages.now.items) (table_of c.loop-done.pages.items) (table_of c.own_within.new.pages.items)
      c.args.address c.loop-done.done c.min-count.result (ap (λ m. m.perm) c.loop-done.invariant.memory) c.loop-done.invariant.owned
      c.in_ok-own_within.ensures.ok;
}
