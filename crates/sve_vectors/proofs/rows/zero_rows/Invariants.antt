use Rattle.std.proofs.Common.{◌≡◌, replicate}
use Rattle.sve_vectors.specs.Layout.{items_of}
use Rattle.sve_vectors.proofs.rows.zero_rows.Given as goal

abbrev pub invariant-loop-i : goal.invariant-loop-i
invariant-loop-i l = items_of l.rows.items ≡ replicate l.i (replicate l.size 0)
