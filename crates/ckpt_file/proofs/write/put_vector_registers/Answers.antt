use Rattle.std.proofs.Common.{◌≡◌, ◌++◌, ◌∷◌, [], ap, sym, ◌∙◌, map}
use Rattle.sve_vectors.specs.Predicates.{predicate_bytes}
use Rattle.ckpt_file.specs.Checkpoint.{vector_values}
use Rattle.ckpt_file.proofs.Puts.{put_more, put_as}
use Rattle.ckpt_file.proofs.write.put_vector_registers.Goals as goal

pub returns : goal.returns
unfolding vector_values
returns c =
    let r = c.args.vectors.now.registers in
    let ps = map predicate_bytes r.predicates in
    let bytes = c.ffr-ffr.result.now in
    let same : bytes ≡ predicate_bytes r.ffr = sym c.truths_tell_bytes.ensures ∙ ap predicate_bytes c.ffr-ffr.ensures.value in
    put_as (r.vectors ++ (ps ++ bytes ∷ [])) (r.vectors ++ (ps ++ predicate_bytes r.ffr ∷ [])) _ _
    (ap (λ b. r.vectors ++ (ps ++ b ∷ [])) same)
    (put_more r.vectors (ps ++ bytes ∷ []) _ _ _ c.in_ok-put_vectors.ensures
    (put_more ps (bytes ∷ []) _ _ _ c.in_ok-put_predicates.ensures c.in_ok-put_field.ensures))
