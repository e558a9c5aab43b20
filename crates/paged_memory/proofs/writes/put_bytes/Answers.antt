use Rattle.std.proofs.Common.{arith, refl, ◌∙◌}
use Rattle.paged_memory.specs.Pages.{mem_of}
use Rattle.paged_memory.proofs.Over.{set_bytes-none, set_bytes-more, set_bytes-round}
use Rattle.paged_memory.proofs.writes.put_bytes.Goals as goal

pub loop-done-init : goal.loop-done-init
loop-done-init c = record { inside = omega arith; fine = c.requires.fine; bytes = set_bytes-none _ _; flags = refl; owned = refl }

pub put_run-requires-clause-there : goal.put_run-requires-clause-there
put_run-requires-clause-there c = rw c.loop-done.invariant.flags (c.requires.there c.loop-done.done c.loop-done-test.true)

pub put_run-requires-clause-owned : goal.put_run-requires-clause-owned
put_run-requires-clause-owned c =
    rw c.loop-done.invariant.owned
    (c.requires.owned c.loop-done.done c.loop-done-test.true (c.requires.there c.loop-done.done c.loop-done-test.true))

pub loop-done-preserved : goal.loop-done-preserved
loop-done-preserved c = record {
  inside = omega arith;
  fine = c.put_run.ensures.fine;
  bytes =
      set_bytes-more (mem_of c.args.pages.now.items) (mem_of c.loop-done.pages.items) (mem_of c.put_run.new.pages.items) c.args.address
      c.loop-done.done c.min-count.result c.args.bytes.now c.loop-done.invariant.inside c.loop-done.invariant.bytes
      (c.put_run.ensures.bytes ∙ set_bytes-round _ _ _ _ (omega arith));
  flags = c.put_run.ensures.flags ∙ c.loop-done.invariant.flags;
  owned = c.put_run.ensures.owned ∙ c.loop-done.invariant.owned;
}
