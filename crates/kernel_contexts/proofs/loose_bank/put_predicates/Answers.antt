use Rattle.std.proofs.Common.{rules, ◌≡◌, ◌≤◌, ◌+◌, ◌*◌, ◌/◌, [], refl, ap, ap₂, ◌∙◌, arith}
use Rattle.sve_vectors.specs.Predicates.{truths_of}
use Rattle.sve_vectors.specs.State.{length_of, with_predicate}
use Rattle.signal_frames.specs.Reading.{with_predicates}
use Rattle.signal_frames.proofs.Fetching.{row_set, row_fits, rows_all}
use Rattle.kernel_contexts.specs.LooseParts.{piece, truths_at}
use Rattle.kernel_contexts.proofs.LooseParts.{truths_whole}
use Rattle.kernel_contexts.proofs.loose_bank.put_predicates.Goals as goal

pub piece-requires : goal.piece-requires
piece-requires c =
    let l = length_of c.args.vectors.now / 8 in
    let fits : c.loop-n.n * l + l ≤ 16 * l = row_fits c.loop-n.n 16 l c.loop-n-test.true in
    rw (c.from.ensures, c.length-length.ensures.value) (omega (arith, fits, c.requires))

pub write_p-requires-clause-long : goal.write_p-requires-clause-long
write_p-requires-clause-long c =
    let same = ap length_of c.loop-n.invariant.put in
    let size = c.piece.ensures.long in
    let value = c.length-length.ensures.value in
    let whole = c.length-length.ensures.whole in
    omega (arith, same, size, value, whole)

pub loop-n-preserved : goal.loop-n-preserved
loop-n-preserved c =
    let old = c.args.vectors.now in
    let n = c.loop-n.n in
    let f = truths_at (length_of old / 8) c.args.bytes.now in
    let is : truths_of c.piece.result.now ≡ f n =
    ap truths_of (c.piece.ensures.value ∙ ap₂ (λ s k. piece (s / 8) c.args.bytes.now k) c.length-length.ensures.value c.from.ensures) in
    record {
      put = c.write_p.ensures ∙ ap (with_predicate c.loop-n.vectors n) is ∙ ap (λ k. with_predicate k n (f n)) c.loop-n.invariant.put
          ∙ ap (with_predicates old) (row_set f old.registers.predicates n [] (f n)
          (omega (arith, c.length-length.ensures.registers.predicate_count, c.loop-n-test.true)) refl);
    }

pub returns-clause-value : goal.returns-clause-value
returns-clause-value c =
    let old = c.args.vectors.now in
    c.loop-n.invariant.put
    ∙ ap (with_predicates old) (rows_all (truths_at (length_of old / 8) c.args.bytes.now) old.registers.predicates c.loop-n.n 16
    c.length-length.ensures.registers.predicate_count (omega arith))

pub returns-clause-told : goal.returns-clause-told
returns-clause-told c =
    truths_whole (length_of c.args.vectors.now / 8) 16 c.args.bytes.now (λ k lt. search (rules, c.type_inv.bytes k)) c.requires
