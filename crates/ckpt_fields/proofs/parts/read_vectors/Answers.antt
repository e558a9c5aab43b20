use Rattle.std.proofs.Common.{◌*◌, ◌/◌, refl, ap, ◌∙◌}
use Rattle.sm_types.specs.Options.{numbers_of}
use Rattle.field_table.proofs.Reading.{reads_more, fails_more}
use Rattle.ckpt_fields.specs.Rows.{array_size, vector_rows}
use Rattle.ckpt_fields.specs.Values.{vectors_said}
use Rattle.ckpt_fields.proofs.Chains.{passed_on, fields_as, fields_fail_as}
use Rattle.ckpt_fields.proofs.parts.read_vectors.Goals as goal

pub returns-in_err-z-clause-read : goal.returns-in_err-z-clause-read
unfolding vector_rows vectors_said
returns-in_err-z-clause-read c = λ next.
    passed_on _ _ _ _ _ _ _ c.from_residual.ensures.1
    (fields_fail_as _ _ _ _ _ _ _ refl c.length_for-length.ensures.value (c.in_err-z.ensures.read _))

pub returns-in_err-predicates-clause-read : goal.returns-in_err-predicates-clause-read
unfolding vector_rows vectors_said
returns-in_err-predicates-clause-read c = λ next.
    passed_on _ _ _ _ _ _ _ c.from_residual-in_err-predicates.ensures.1
    (fails_more (fields_as _ _ _ _ _ _ _ _ refl c.length_for-length.ensures.value (c.in_ok-z.ensures.read _))
    (fields_fail_as _ _ _ _ _ _ _ refl (ap (λ k. k / 8) c.length_for-length.ensures.value) (c.in_err-predicates.ensures.read _)))

pub returns-in_err-za-clause-read : goal.returns-in_err-za-clause-read
unfolding vector_rows vectors_said
returns-in_err-za-clause-read c = λ next.
    passed_on _ _ _ _ _ _ _ c.from_residual-in_err-za.ensures.1
    (fails_more (fields_as _ _ _ _ _ _ _ _ refl c.length_for-length.ensures.value (c.in_ok-z.ensures.read _))
    (fails_more (fields_as _ _ _ _ _ _ _ _ refl (ap (λ k. k / 8) c.length_for-length.ensures.value) (c.in_ok-predicates.ensures.read _))
    (fields_fail_as _ _ _ _ _ _ _ c.array_size.ensures.value c.bytes.ensures (c.in_err-za.ensures.read _))))

pub returns-clause-read : goal.returns-clause-read
unfolding vector_rows vectors_said
returns-clause-read c = λ next.
    reads_more (fields_as _ _ _ _ _ _ _ _ refl c.length_for-length.ensures.value (c.in_ok-z.ensures.read _))
    (reads_more (fields_as _ _ _ _ _ _ _ _ refl (ap (λ k. k / 8) c.length_for-length.ensures.value) (c.in_ok-predicates.ensures.read _))
    (fields_as _ _ _ _ _ _ _ _ c.array_size.ensures.value c.bytes.ensures (c.in_ok-za.ensures.read _)))

pub returns-clause-sizes : goal.returns-clause-sizes
returns-clause-sizes c =
    record {
      z = c.in_ok-z.ensures.size ∙ ap (λ k. 32 * k) c.length_for-length.ensures.value;
      predicates = c.in_ok-predicates.ensures.size ∙ ap (λ k. 17 * (k / 8)) c.length_for-length.ensures.value;
      za = c.in_ok-za.ensures.size ∙ ap (λ n. n * c.bytes.result) c.array_size.ensures.value
          ∙ ap (λ k. array_size (numbers_of c.args.config.now) c.args.svcr * k) c.bytes.ensures;
    }
