use Rattle.std.proofs.Common.{◌≡◌, ℕ, ◌-◌, ◌%◌, ◌<◌, get_or}
use Rattle.za_access.proofs.elements.copy_pairs.Given as goal

abbrev pub invariant-loop-k : goal.invariant-loop-k
invariant-loop-k l = (j : ℕ) → j < l.k → get_or l.units j 0 ≡ get_or l.pg (j - j % 2) 0
