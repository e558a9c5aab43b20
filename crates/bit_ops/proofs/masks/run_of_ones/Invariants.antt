use Rattle.std.proofs.Common.{◌≡◌, ℕ, ◌<◌, ◌+◌, ◌%◌}
use Rattle.bit_ops.specs.Bits.{digit_at}
use Rattle.bit_ops.proofs.masks.run_of_ones.Given as goal

abbrev pub invariant-loop-count : goal.invariant-loop-count
invariant-loop-count l = (i : ℕ) → i < l.count → digit_at 2 l.word ((l.first + i) % l.width) ≡ 1
