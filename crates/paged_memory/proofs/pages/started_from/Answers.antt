use Rattle.std.proofs.Common.{◌≡◌, ap, length, refl, arith}
use Rattle.std.specs.FinMap.{len}
use Rattle.paged_memory.specs.Pages.{memory_of}
use Rattle.paged_memory.proofs.Order.{len-perm_of}
use Rattle.paged_memory.proofs.Whole.{whole_pages}
use Rattle.paged_memory.proofs.Held.{none_owned}
use Rattle.paged_memory.proofs.pages.started_from.Goals as goal

pub of-requires : goal.of-requires
of-requires c =
    let count : len c.args.image.now.memory.perm ≡ length c.in_ok-pages.pages.items =
    len-perm_of c.in_ok-pages.pages.items c.args.image.now.memory c.in_ok-pages.ensures.fine c.in_ok-pages.ensures.memory in
    let same : length c.as_slice.result.now ≡ length c.add_stack.new.pages.items = ap length c.as_slice.ensures.value in
    omega (arith, count, same, c.share_pages.ensures.kept.few, c.in_ok-add_stack.ensures.count)

pub invariant_of-result : goal.invariant_of-result
invariant_of-result c =
    let count : len c.args.image.now.memory.perm ≡ length c.in_ok-pages.pages.items =
    len-perm_of c.in_ok-pages.pages.items c.args.image.now.memory c.in_ok-pages.ensures.fine c.in_ok-pages.ensures.memory in
    (c.in_ok-add_stack.ensures.fine, omega (arith, count, c.share_pages.ensures.kept.few, c.in_ok-add_stack.ensures.count))

pub returns-clause-few : goal.returns-clause-few
returns-clause-few c =
    rw (len-perm_of c.add_stack.new.pages.items (memory_of c.add_stack.new.pages.items) c.in_ok-add_stack.ensures.fine refl)
    (invariant_of-result c).1

pub returns-clause-whole : goal.returns-clause-whole
returns-clause-whole c = whole_pages c.add_stack.new.pages.items c.in_ok-add_stack.ensures.fine

pub returns-clause-shared : goal.returns-clause-shared
returns-clause-shared c = none_owned c.add_stack.new.pages.items c.in_ok-add_stack.ensures.shared
