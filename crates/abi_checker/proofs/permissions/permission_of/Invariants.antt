use Rattle.std.proofs.Common.{◌≡◌, ◌-◌, drop, length}
use Rattle.std.specs.FinMap.{find}
use Rattle.std.specs.Ordering.{nat_cmp}
use Rattle.abi_checker.proofs.permissions.permission_of.Given as goal

abbrev pub invariant-pages : goal.invariant-pages
invariant-pages l = find nat_cmp l.number l.list ≡ find nat_cmp l.number (drop l.index l.list)

abbrev pub decreases-pages : goal.decreases-pages
decreases-pages l = length l.list - l.index
