use Rattle.std.proofs.Common.{◌≤◌, length}
use Rattle.sme_debugger.proofs.replay.Replay.kept_before.Given as goal

abbrev pub invariant-loop-number : goal.invariant-loop-number
invariant-loop-number l = l.number ≤ length l.self.later.items

abbrev pub decreases-loop-number : goal.decreases-loop-number
decreases-loop-number l = l.number
