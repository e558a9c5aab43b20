use Rattle.std.proofs.Common.{◌+◌, ◌*◌, ◌/◌, refl, ap, ◌∙◌, arith}
use Rattle.sve_vectors.specs.Predicates.{truths_of}
use Rattle.sve_vectors.specs.State.{length_of}
use Rattle.signal_frames.specs.Saved.{saved_predicate, part_of}
use Rattle.signal_frames.proofs.Fetching.{part_read, row_fits, rows_all, same_length, predicates_step}
use Rattle.signal_frames.specs.Reading.{with_predicates}
use Rattle.signal_frames.proofs.reading.read_predicates.Goals as goal

pub loop-n-preserved : goal.loop-n-preserved
loop-n-preserved c =
    let old = c.args.vectors.now in
    let n = c.loop-n.n in
    let l = length_of old in
    record {
      same = record {
        vl = c.loop-n.invariant.same.vl;
        svl = c.loop-n.invariant.same.svl;
        streaming = c.loop-n.invariant.same.streaming;
      };
      read = λ body stands fits.
          let row = row_fits n 16 (l / 8) c.loop-n-test.true in
          predicates_step c.loop-n.vectors old n c.p_mut.result.now c.fetch.new.into (saved_predicate l body)
          (omega (arith, c.length-length.ensures.registers.predicate_count)) (c.loop-n.invariant.read body stands fits)
          c.p_mut.ensures.value c.fetch.auto.into
          (ap truths_of (c.fetch.ensures (part_of body (32 * l + n * (l / 8)) (l / 8))
          (part_read c.args.pages.now.memory c.args.start (32 * l + n * (l / 8)) (l / 8) _ _ body stands (omega arith)
          (rw (c.from.ensures, c.length-length.ensures.value) refl)
          (c.p_mut.ensures.long ∙ ap (λ k. k / 8) (same_length old c.loop-n.vectors c.loop-n.invariant.same)))));
    }

pub returns-clause-value : goal.returns-clause-value
returns-clause-value c = λ body stands fits.
    c.loop-n.invariant.read body stands fits
    ∙ ap (with_predicates c.args.vectors.now) (rows_all (saved_predicate (length_of c.args.vectors.now) body)
    c.args.vectors.now.registers.predicates c.loop-n.n 16 c.length-length.ensures.registers.predicate_count (omega arith))
