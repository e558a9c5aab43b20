use Rattle.std.proofs.Common.{◌≡◌, ◌/◌, drop}
use Rattle.std.specs.FinMap.{get, entries, find}
use Rattle.std.specs.Ordering.{nat_cmp}
use Rattle.abi_checker.proofs.bytes.byte_in.Given as goal

abbrev pub invariant-pages : goal.invariant-pages
invariant-pages l =
    get l.pages.memory.perm (l.address / 4096)
    ≡ find nat_cmp (l.address / 4096) (drop l.index (entries l.pages.memory.perm))
