use Rattle.std.proofs.Common.{length}
use Rattle.line_reader.proofs.Differences.{IsCompared}
use Rattle.line_reader.proofs.difference.first_difference.Given as goal

abbrev pub invariant-loop-more : goal.invariant-loop-more
invariant-loop-more l = IsCompared l.first l.second l.line l.left l.right

abbrev pub decreases-loop-more : goal.decreases-loop-more
decreases-loop-more l = length l.left
