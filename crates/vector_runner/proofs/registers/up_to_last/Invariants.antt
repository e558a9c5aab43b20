use Rattle.std.proofs.Common.{◌≡◌, ◌≤◌, take}
use Rattle.vector_runner.specs.Answer.{up_to_last}
use Rattle.vector_runner.proofs.registers.up_to_last.Given as goal

abbrev pub invariant-loop-at : goal.invariant-loop-at
invariant-loop-at l = (l.end ≤ l.at) × (take l.end l.bytes ≡ up_to_last (take l.at l.bytes))
