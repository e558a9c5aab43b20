use Rattle.std.proofs.Common.{◌+◌, rules, false, arith, ap, ◌∙◌}
use Rattle.std.specs.FinMap.{get}
use Rattle.paged_memory.specs.Memory.{with_page}
use Rattle.paged_memory.specs.Pages.{memory_of}
use Rattle.paged_memory.proofs.Stack.{perm-with_zero_pages, zero_page_added, no_zero_pages, stack_added}
use Rattle.paged_memory.proofs.pages.add_stack.Goals as goal

pub loop-n-init : goal.loop-n-init
loop-n-init c = record { fine = c.requires.fine; shared = c.requires.shared; memory = no_zero_pages _ _ _; count = omega arith }

pub add_page-requires-clause-missing : goal.add_page-requires-clause-missing
add_page-requires-clause-missing c =
    ap (λ m. get m.perm (0x7DFFFFFC0 + c.loop-n.n)) c.loop-n.invariant.memory
    ∙ perm-with_zero_pages (memory_of c.args.pages.now.items) 0x7DFFFFFC0 6 c.loop-n.n (0x7DFFFFFC0 + c.loop-n.n) (omega arith)
    ∙ c.requires.free (0x7DFFFFFC0 + c.loop-n.n) (omega arith) (omega arith)

pub loop-n-preserved : goal.loop-n-preserved
loop-n-preserved c = record {
  fine = c.add_page.ensures.fine;
  memory = c.in_ok-add_page.ensures.memory
      ∙ ap (λ m. with_page m (0x7DFFFFFC0 + c.loop-n.n) 6 c.in_ok-share.field-0.items) c.loop-n.invariant.memory
      ∙ zero_page_added (memory_of c.args.pages.now.items) 0x7DFFFFFC0 6 c.loop-n.n c.in_ok-share.field-0.items
      (ap (λ b. b.items) c.in_ok-share.ensures ∙ ap (λ b. b.items) c.in_ok-zeros.ensures
      ∙ c.in_ok-vec.ensures.items_if_clones_equal (λ y h. search rules));
  shared = c.in_ok-add_page.ensures.held false (ap (λ b. b.own) c.in_ok-share.ensures) c.loop-n.invariant.shared;
  count = omega (arith, c.in_ok-add_page.ensures.count, c.loop-n.invariant.count);
}

pub returns-clause-memory : goal.returns-clause-memory
returns-clause-memory c =
    stack_added (memory_of c.args.pages.now.items) (memory_of c.loop-n.pages.items) c.loop-n.n c.loop-n.invariant.memory (omega arith)
