use Rattle.std.proofs.Common.{◌*◌, refl, ap, ◌∙◌, arith, length}
use Rattle.sve_vectors.specs.State.{length_of}
use Rattle.signal_frames.specs.Saved.{saved_vector}
use Rattle.signal_frames.proofs.Fetching.{part_read, row_fits, rows_all, same_length, vectors_step}
use Rattle.signal_frames.specs.Reading.{with_vectors}
use Rattle.signal_frames.proofs.reading.read_vectors.Goals as goal

pub loop-n-preserved : goal.loop-n-preserved
loop-n-preserved c =
    let old = c.args.vectors.now in
    let n = c.loop-n.n in
    let l = length_of old in
    record {
      same = record {
        vl = c.loop-n.invariant.same.vl;
        svl = c.loop-n.invariant.same.svl;
        streaming = c.loop-n.invariant.same.streaming;
      };
      read = λ body stands fits.
          let row = row_fits n 32 l c.loop-n-test.true in
          vectors_step c.loop-n.vectors old n c.fetch.new.into (saved_vector l body)
          (omega (arith, c.length-length.ensures.registers.vector_count)) (c.loop-n.invariant.read body stands fits)
          (c.fetch.auto.into ∙ ap length c.z_mut.ensures.value)
          (c.fetch.ensures (saved_vector l body n)
          (part_read c.args.pages.now.memory c.args.start (n * l) l _ _ body stands (omega arith)
          (rw (c.from.ensures, c.length-length.ensures.value) refl)
          (c.z_mut.ensures.long ∙ same_length old c.loop-n.vectors c.loop-n.invariant.same)));
    }

pub returns-clause-value : goal.returns-clause-value
returns-clause-value c = λ body stands fits.
    c.loop-n.invariant.read body stands fits
    ∙ ap (with_vectors c.args.vectors.now) (rows_all (saved_vector (length_of c.args.vectors.now) body)
    c.args.vectors.now.registers.vectors c.loop-n.n 32 c.length-length.ensures.registers.vector_count (omega arith))
