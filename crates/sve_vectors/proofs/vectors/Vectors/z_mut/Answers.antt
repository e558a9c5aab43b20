use Rattle.std.proofs.Common.{◌≡◌, ◌<◌, ap, ◌∙◌, refl, [], get_or, length, take, arith}
use Rattle.std.proofs.lemmas.List.{length-take-le}
use Rattle.std.proofs.lemmas.Slice.{between_from_start}
use Rattle.sve_vectors.specs.State.{SveState, length_of}
use Rattle.sve_vectors.proofs.Lent.{vector_lent, vector_kept, vector_room, vector_front}
use Rattle.sve_vectors.proofs.vectors.Vectors.z_mut.Goals as goal

pub slice_mut-requires-clause-in_bounds : goal.slice_mut-requires-clause-in_bounds
slice_mut-requires-clause-in_bounds c =
    let v = c.self.inside in
    vector_room v c.self.invariant c.from.result c.index_mut.result.now (omega arith) c.index_mut.ensures.value

pub invariant_of-self-lent : goal.invariant_of-self-lent
invariant_of-self-lent c =
    let v = c.self.inside in
    λ w. vector_kept v c.self.invariant c.from.result c.index_mut.result.now w (omega arith) c.index_mut.ensures.value

pub returns : goal.returns
returns c =
    let v = c.self.inside in
    let row = c.index_mut.result.now in
    let lt : c.from.result < 32 = omega arith in
    let room = vector_room v c.self.invariant c.from.result row lt c.index_mut.ensures.value in
    let front = vector_front v c.self.invariant c.from.result row lt c.index_mut.ensures.value in
    let lent = vector_lent v c.self.invariant c.from.result row in
    let here = ap (λ (s : SveState). get_or s.registers.vectors c.from.result []) c.self.view_is in
    let taken : c.slice_mut.result.now ≡ take v.current row.items = c.slice_mut.ensures.value ∙ between_from_start row.items v.current in
    let long : length c.slice_mut.result.now ≡ v.current = ap length taken
    ∙ length-take-le (v.current) row.items (omega (arith, row.ok.0)) in (
      (refl, λ w. rw (← c.self.view_is, ← c.from.ensures) (lent w lt c.index_mut.ensures.value)),
      record {
        writes_back = tt;
        value = rw (← c.from.ensures) (taken ∙ front ∙ here);
        long = long ∙ (c.self.invariant.current ∙ ap length_of c.self.view_is);
      },
    )
