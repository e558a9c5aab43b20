use Rattle.std.proofs.Common.{◌≡◌, ◌≤◌, ◌+◌, ◌*◌, [], refl, ap, ap₂, sym, ◌∙◌, arith}
use Rattle.sve_vectors.specs.State.{length_of, with_vector}
use Rattle.signal_frames.specs.Reading.{with_vectors}
use Rattle.signal_frames.proofs.Fetching.{row_set, row_fits, rows_all}
use Rattle.kernel_contexts.specs.LooseParts.{piece}
use Rattle.kernel_contexts.proofs.loose_bank.put_vectors.Goals as goal

pub piece-requires : goal.piece-requires
piece-requires c =
    let l = length_of c.args.vectors.now in
    let fits : c.loop-n.n * l + l ≤ 32 * l = row_fits c.loop-n.n 32 l c.loop-n-test.true in
    rw (c.from.ensures, c.length-size.ensures.value) (omega (arith, fits, c.requires))

pub write_z-requires-clause-long : goal.write_z-requires-clause-long
write_z-requires-clause-long c =
    c.piece.ensures.long ∙ c.length-size.ensures.value ∙ sym (ap length_of c.loop-n.invariant.put)

pub loop-n-preserved : goal.loop-n-preserved
loop-n-preserved c =
    let old = c.args.vectors.now in
    let n = c.loop-n.n in
    let f = piece (length_of old) c.args.bytes.now in
    let is : c.piece.result.now ≡ f n =
    c.piece.ensures.value ∙ ap₂ (λ s k. piece s c.args.bytes.now k) c.length-size.ensures.value c.from.ensures in
    record {
      put = c.write_z.ensures ∙ ap (with_vector c.loop-n.vectors n) is ∙ ap (λ k. with_vector k n (f n)) c.loop-n.invariant.put
          ∙ ap (with_vectors old) (row_set f old.registers.vectors n [] (f n)
          (omega (arith, c.length-size.ensures.registers.vector_count, c.loop-n-test.true)) refl);
    }

pub returns : goal.returns
returns c =
    let old = c.args.vectors.now in
    c.loop-n.invariant.put
    ∙ ap (with_vectors old) (rows_all (piece (length_of old) c.args.bytes.now) old.registers.vectors c.loop-n.n 32
    c.length-size.ensures.registers.vector_count (omega arith))
