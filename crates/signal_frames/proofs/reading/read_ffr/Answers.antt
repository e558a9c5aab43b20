use Rattle.std.proofs.Common.{◌*◌, ◌/◌, refl, ap, ◌∙◌, arith}
use Rattle.sve_vectors.specs.Predicates.{truths_of}
use Rattle.sve_vectors.specs.State.{length_of, with_ffr}
use Rattle.sve_vectors.proofs.Whole.{ffr_whole}
use Rattle.signal_frames.specs.Saved.{part_of}
use Rattle.signal_frames.proofs.Fetching.{part_read}
use Rattle.signal_frames.proofs.reading.read_ffr.Goals as goal

pub returns-clause-value : goal.returns-clause-value
returns-clause-value c = λ body stands fits.
    let old = c.args.vectors.now in
    let l = length_of old in
    ffr_whole old c.ffr_mut.result.now c.fetch.new.into c.ffr_mut.ensures.value c.fetch.auto.into
    ∙ ap (λ k. with_ffr old (truths_of k)) (c.fetch.ensures (part_of body (34 * l) (l / 8))
    (part_read c.args.pages.now.memory c.args.start (34 * l) (l / 8) _ _ body stands
    (omega (arith, c.length.ensures.small, c.length.ensures.value)) (rw c.length.ensures.value refl) c.ffr_mut.ensures.long))
