use Rattle.std.proofs.Common.{take, false, arith, ap, sym, ◌∙◌}
use Rattle.std.specs.FinMap.{get}
use Rattle.paged_memory.specs.Memory.{with_page}
use Rattle.paged_memory.specs.Pages.{memory_of}
use Rattle.paged_memory.proofs.Copy.{missing_before, memory_of-more}
use Rattle.paged_memory.proofs.page.share_pages.Goals as goal

pub add_page-requires-clause-missing : goal.add_page-requires-clause-missing
add_page-requires-clause-missing c =
    ap (λ m. get m.perm c.page-item.result.number) c.loop-page.invariant.memory
    ∙ missing_before c.args.pages.now c.loop-page.page-index c.page-item.result c.requires c.loop-page-test.true c.page-item.is

pub loop-page-preserved : goal.loop-page-preserved
loop-page-preserved c = record {
  fine = c.add_page.ensures.fine;
  memory = c.in_ok-add_page.ensures.memory
      ∙ ap (λ m. with_page m c.page-item.result.number c.page-item.result.flags c.in_ok-share.field-0.items) c.loop-page.invariant.memory
      ∙ ap (with_page (memory_of (take c.loop-page.page-index c.args.pages.now)) c.page-item.result.number c.page-item.result.flags)
      (ap (λ b. b.items) c.in_ok-share.ensures)
      ∙ sym (memory_of-more c.args.pages.now c.loop-page.page-index c.page-item.result c.requires c.loop-page-test.true c.page-item.is);
  shared = c.in_ok-add_page.ensures.held false (ap (λ b. b.own) c.in_ok-share.ensures) c.loop-page.invariant.shared;
  count = omega (arith, c.in_ok-add_page.ensures.count, c.loop-page.invariant.count);
}
