use Rattle.std.proofs.Common.{◌≡◌, ℕ, ◌<◌, ◌≤◌, false}
use Rattle.bit_ops.specs.Masks.{starts_at}
use Rattle.bit_ops.proofs.masks.next_start.Given as goal

abbrev pub invariant-loop-place : goal.invariant-loop-place
invariant-loop-place l = (i : ℕ) → l.from ≤ i → i < l.place → starts_at l.word l.width i ≡ false
