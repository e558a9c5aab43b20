use Rattle.std.proofs.Common.{◌≡◌, ◌<◌, ◌-◌, ℕ, length, get_or}
use Rattle.za_routines.proofs.block.are_zeros.Given as goal

abbrev pub invariant-bytes : goal.invariant-bytes
invariant-bytes l = (k : ℕ) → k < l.index → get_or l.bytes k 0 ≡ 0

abbrev pub decreases-bytes : goal.decreases-bytes
decreases-bytes l = length l.bytes - l.index
