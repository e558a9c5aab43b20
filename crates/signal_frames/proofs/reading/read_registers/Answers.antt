use Rattle.std.proofs.Common.{◌≡◌, ◌∙◌, arith}
use Rattle.sve_vectors.specs.Lengths.{current_bytes}
use Rattle.sve_vectors.specs.State.{length_of}
use Rattle.signal_frames.proofs.Fetching.{same_length, registers_are, length_written}
use Rattle.signal_frames.proofs.reading.read_registers.Goals as goal

pub returns-clause-value : goal.returns-clause-value
returns-clause-value c = λ body stands fits.
    let old = c.args.vectors.now in
    let l = current_bytes old.vl old.svl c.args.streaming in
    let v0 = c.set_streaming.new.self in
    let v1 = c.read_vectors.new.vectors in
    let v2 = c.read_predicates.new.vectors in
    let long : length_of v0 ≡ l = length_written old v0 c.args.streaming c.set_streaming.ensures in
    let one : length_of v1 ≡ l = same_length v0 v1 c.read_vectors.ensures.same ∙ long in
    let two : length_of v2 ≡ l = same_length v1 v2 c.read_predicates.ensures.same ∙ one in
    registers_are v0 v1 v2 c.read_ffr.new.vectors l body long c.read_vectors.ensures.same c.read_predicates.ensures.same
    (c.read_vectors.ensures.value body stands (omega arith)) (c.read_predicates.ensures.value body stands (omega arith))
    (c.read_ffr.ensures.value body stands (omega arith))
