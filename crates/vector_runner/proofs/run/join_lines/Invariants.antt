use Rattle.std.proofs.Common.{◌≡◌, ◌++◌, All, length, map}
use Rattle.std.specs.List.{flat_map}
use Rattle.std.specs.Prelude.{IsOk}
use Rattle.vector_runner.specs.Run.{lines_of}
use Rattle.vector_runner.proofs.run.join_lines.Given as goal

abbrev pub invariant-loop-share : goal.invariant-loop-share
invariant-loop-share l =
    (flat_map lines_of l.shares.items ++ map (λ line. line.items) l.lines.items ≡ flat_map lines_of l.initial.shares.items)
    × (All (λ share. IsOk share) l.shares.items → All (λ share. IsOk share) l.initial.shares.items)

abbrev pub decreases-loop-share : goal.decreases-loop-share
decreases-loop-share l = length l.shares.items
