use Rattle.std.proofs.Common.{◌≤◌, true, length, ap, arith}
use Rattle.sve_vectors.specs.Lengths.{vector_bytes}
use Rattle.za_array.specs.Array.{ArrayState}
use Rattle.signal_frames.specs.Layout.{body_size}
use Rattle.signal_frames.specs.Saved.{saved_array}
use Rattle.signal_frames.proofs.reading.restore_array.Goals as goal

pub returns-then-za_on-clause-value : goal.returns-then-za_on-clause-value
unfolding saved_array
returns-then-za_on-clause-value c = λ body stands fits.
    rw c.if-za_on.true
    (ap (λ (a : ArrayState). a.vectors) (c.read_array.ensures.value body stands
    (let fit : body_size c.args.vector_size (vector_bytes c.args.za.now.svl) true ≤ length body = rw c.if-za_on.true at fits in
    omega arith)))

pub returns-else-za_on-clause-value : goal.returns-else-za_on-clause-value
unfolding saved_array
returns-else-za_on-clause-value c = λ body stands fits.
    rw c.if-za_on.false (ap (λ (a : ArrayState). a.vectors) c.clear.ensures)
