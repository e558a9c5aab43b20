use Rattle.std.proofs.Common.{◌≡◌, length}
use Rattle.paged_memory.proofs.hints.hint_at.Given as goal

abbrev pub invariant-loop-place : goal.invariant-loop-place
invariant-loop-place l = length l.places ≡ 4096
