use Rattle.std.proofs.Common.{◌≡◌, take}
use Rattle.std.specs.FinMap.{entries}
use Rattle.abi_checker.proofs.permissions.permissions.Given as goal

abbrev pub invariant-pages : goal.invariant-pages
invariant-pages l = l.list.items ≡ take l.index (entries l.pages.memory.perm)
