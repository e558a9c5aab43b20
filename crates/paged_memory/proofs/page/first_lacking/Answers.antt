use Rattle.std.proofs.Common.{arith, sym}
use Rattle.paged_memory.specs.Pages.{memory_of}
use Rattle.paged_memory.proofs.Accesses.{first_without-zero, first_without-run, first_without-at}
use Rattle.paged_memory.proofs.page.first_lacking.Goals as goal

pub loop-done-init : goal.loop-done-init
loop-done-init c = record { inside = omega arith; without = first_without-zero _ _ _ }

pub loop-done-preserved : goal.loop-done-preserved
loop-done-preserved c = record {
  inside = omega arith;
  without =
      first_without-run c.args.need (memory_of c.args.pages.now) c.args.address c.loop-done.done c.min-count.result _
      c.loop-done.invariant.without c.in-Some.ensures.there;
}

pub returns-in-None : goal.returns-in-None
returns-in-None c =
    sym (first_without-at c.args.need (memory_of c.args.pages.now) c.args.address c.loop-done.done c.args.length
    c.loop-done.invariant.without c.in-None.ensures.gone c.loop-done-test.true)
