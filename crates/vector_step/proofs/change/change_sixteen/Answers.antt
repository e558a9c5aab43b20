use Rattle.std.proofs.Common.{◌≡◌, ◌∙◌, ℕ, List, length, take, ap, sym, arith}
use Rattle.std.proofs.Math.Seq.{take-length}
use Rattle.std.proofs.lemmas.Simd.{put_chunk_whole}
use Rattle.std.specs.Simd.Lanes.{chunk}
use Rattle.sve_vectors.specs.State.{with_vector}
use Rattle.sve_vectors.specs.Lending.{with_vector_bytes}
use Rattle.sve_vectors.proofs.Whole.{vector_whole}
use Rattle.vector_step.proofs.change.change_sixteen.Goals as goal

pub returns : goal.returns
returns g c =
    let v = c.args.vectors.now in
    let made = c.apply.new.d in
    let z = c.z.result.now in
    let long : length z ≡ 16 = c.z.ensures.long ∙ c.requires.sixteen in
    let start : chunk 0 16 z ≡ z = ap (λ (k : ℕ). take k z) (sym long) ∙ take-length z in
    let same : length c.z_mut.result.now ≡ length made = omega arith in
    ap (with_vector_bytes v c.args.d) (put_chunk_whole c.z_mut.result.now made same)
    ∙ vector_whole v c.args.d made (sym same ∙ ap length c.z_mut.ensures.value)
    ∙ ap (with_vector v c.args.d)
    (c.apply.ensures ∙ ap (g.C.VectorChange.gives c.args.change.now v.registers)
    (c.as_mut_slice.ensures.value ∙ start ∙ c.z.ensures.value))
