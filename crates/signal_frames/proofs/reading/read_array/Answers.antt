use Rattle.std.proofs.Common.{◌<◌, ◌+◌, ◌*◌, refl, ap, ◌∙◌, arith, length}
use Rattle.sve_vectors.specs.Lengths.{vector_bytes}
use Rattle.signal_frames.specs.Saved.{saved_array_vector}
use Rattle.signal_frames.proofs.Fetching.{part_read, row_fits, rows_all, array_step}
use Rattle.signal_frames.proofs.reading.read_array.Goals as goal

pub loop-n-preserved : goal.loop-n-preserved
loop-n-preserved c =
    let old = c.args.za.now in
    let n = c.loop-n.n in
    let s = vector_bytes old.svl in
    let v = c.args.vector_size in
    record {
      same = c.loop-n.invariant.same;
      read = λ body stands fits.
          let low : n < s = omega (arith, c.loop-n-test.true, c.size-size.ensures.value) in
          let row = row_fits n s s low in
          array_step c.loop-n.za old n c.fetch.new.into (saved_array_vector v s body)
          (omega (arith, low, c.size-size.ensures.square.count)) (c.loop-n.invariant.read body stands fits)
          (c.fetch.auto.into ∙ ap length c.vector_mut.ensures.value)
          (c.fetch.ensures (saved_array_vector v s body n)
          (part_read c.args.pages.now.memory c.args.start (34 * v + 32 + n * s) s _ _ body stands (omega arith)
          (rw c.size-size.ensures.value refl)
          (c.vector_mut.ensures.long ∙ ap vector_bytes c.loop-n.invariant.same)));
    }

pub returns-clause-value : goal.returns-clause-value
returns-clause-value c = λ body stands fits.
    let old = c.args.za.now in
    let s = vector_bytes old.svl in
    c.loop-n.invariant.read body stands fits
    ∙ ap (λ k. record old { vectors = k }) (rows_all (saved_array_vector c.args.vector_size s body) old.vectors c.loop-n.n s
    c.size-size.ensures.square.count (omega (arith, c.size-size.ensures.value)))
