use Rattle.std.proofs.Common.{◌≡◌, ◌-◌}
use Rattle.std.specs.FinMap.{entries}
use Rattle.paged_memory.specs.Memory.{AddressSpace}
use Rattle.lazy_saving.specs.Dormant.{HasSamePages}
use Rattle.abi_checker.proofs.permissions.have_same_pages.Given as goal

abbrev pub invariant-pages : goal.invariant-pages
invariant-pages l =
    (before after : AddressSpace) → entries before.perm ≡ l.old → entries after.perm ≡ l.new
    → HasSamePages before after l.address l.done

abbrev pub decreases-pages : goal.decreases-pages
decreases-pages l = l.count - l.done
