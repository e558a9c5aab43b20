use Rattle.std.proofs.Common.{◌≡◌, ◌<◌, ◌≤◌, ◌+◌, ◌*◌, [], refl, ap, sym, ◌∙◌, arith}
use Rattle.sve_vectors.specs.Lengths.{vector_bytes}
use Rattle.za_array.specs.Array.{ArrayState, with_array_vector}
use Rattle.signal_frames.proofs.Fetching.{row_set, row_fits, rows_all}
use Rattle.kernel_contexts.specs.LooseParts.{piece, with_array}
use Rattle.kernel_contexts.proofs.loose_bank.put_array.Goals as goal

pub piece-requires : goal.piece-requires
piece-requires c =
    let s = vector_bytes c.args.za.now.svl in
    let low : c.loop-n.n < s = omega (arith, c.loop-n-test.true, c.size-size.ensures.value) in
    let fits : c.loop-n.n * s + s ≤ s * s = row_fits c.loop-n.n s s low in
    rw c.size-size.ensures.value (rw c.requires fits)

pub write_row-requires-clause-n : goal.write_row-requires-clause-n
write_row-requires-clause-n c =
    let same = ap (λ (a : ArrayState). vector_bytes a.svl) c.loop-n.invariant.put in
    omega (arith, same, c.loop-n-test.true, c.size-size.ensures.value)

pub write_row-requires-clause-long : goal.write_row-requires-clause-long
write_row-requires-clause-long c =
    c.piece.ensures.long ∙ c.size-size.ensures.value ∙ sym (ap (λ (a : ArrayState). vector_bytes a.svl) c.loop-n.invariant.put)

pub loop-n-preserved : goal.loop-n-preserved
loop-n-preserved c =
    let old = c.args.za.now in
    let n = c.loop-n.n in
    let s = vector_bytes old.svl in
    let f = piece s c.args.bytes.now in
    let is : c.piece.result.now ≡ f n = c.piece.ensures.value ∙ ap (λ k. piece k c.args.bytes.now n) c.size-size.ensures.value in
    record {
      put = c.write_row.ensures ∙ ap (with_array_vector c.loop-n.za n) is ∙ ap (λ k. with_array_vector k n (f n)) c.loop-n.invariant.put
          ∙ ap (with_array old) (row_set f old.vectors n [] (f n)
          (omega (arith, c.loop-n-test.true, c.size-size.ensures.value, c.size-size.ensures.square.count)) refl);
    }

pub returns : goal.returns
returns c =
    let old = c.args.za.now in
    let s = vector_bytes old.svl in
    c.loop-n.invariant.put
    ∙ ap (with_array old) (rows_all (piece s c.args.bytes.now) old.vectors c.loop-n.n s c.size-size.ensures.square.count
    (omega (arith, c.size-size.ensures.value)))
