use Rattle.std.proofs.Common.{◌≡◌, ◌<◌, ◌/◌, ap, ◌∙◌, refl, [], get_or, length, take, arith}
use Rattle.std.proofs.lemmas.List.{length-take-le}
use Rattle.std.proofs.lemmas.Slice.{between_from_start}
use Rattle.sve_vectors.specs.Predicates.{truths_of}
use Rattle.sve_vectors.specs.State.{SveState, length_of}
use Rattle.sve_vectors.proofs.Lent.{predicate_lent, predicate_kept, predicate_room, predicate_front}
use Rattle.sve_vectors.proofs.vectors.Vectors.p_mut.Goals as goal

pub slice_mut-requires-clause-in_bounds : goal.slice_mut-requires-clause-in_bounds
slice_mut-requires-clause-in_bounds c =
    let v = c.self.inside in
    predicate_room v c.self.invariant c.from.result c.index_mut.result.now (omega arith) c.index_mut.ensures.value

pub invariant_of-self-lent : goal.invariant_of-self-lent
invariant_of-self-lent c =
    let v = c.self.inside in
    λ w. predicate_kept v c.self.invariant c.from.result c.index_mut.result.now w (omega arith) c.index_mut.ensures.value

pub returns : goal.returns
returns c =
    let v = c.self.inside in
    let row = c.index_mut.result.now in
    let lt : c.from.result < 16 = omega arith in
    let room = predicate_room v c.self.invariant c.from.result row lt c.index_mut.ensures.value in
    let front = predicate_front v c.self.invariant c.from.result row lt c.index_mut.ensures.value in
    let lent = predicate_lent v c.self.invariant c.from.result row in
    let here = ap (λ (s : SveState). get_or s.registers.predicates c.from.result []) c.self.view_is in
    let taken : c.slice_mut.result.now ≡ take (v.current / 8) row.items = c.slice_mut.ensures.value
    ∙ between_from_start row.items (v.current / 8) in
    let long : length c.slice_mut.result.now ≡ v.current / 8 = ap length taken
    ∙ length-take-le (v.current / 8) row.items (omega (arith, row.ok.0)) in (
      (refl, λ w. rw (← c.self.view_is, ← c.from.ensures) (lent w lt c.index_mut.ensures.value)),
      record {
        writes_back = tt;
        value = rw (← c.from.ensures) (ap truths_of taken ∙ front ∙ here);
        long = long ∙ ap (λ n. n / 8) (c.self.invariant.current ∙ ap length_of c.self.view_is);
      },
    )
