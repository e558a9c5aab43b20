use Rattle.std.proofs.Common.{◌≡◌, ◌/◌, ap, ◌∙◌, sym, refl, length, take, arith}
use Rattle.std.proofs.lemmas.List.{length-take-le}
use Rattle.std.proofs.lemmas.Slice.{between_from_start}
use Rattle.sve_vectors.specs.Predicates.{truths_of}
use Rattle.sve_vectors.specs.State.{SveState, length_of}
use Rattle.sve_vectors.specs.Layout.{items_of}
use Rattle.sve_vectors.proofs.Held.{ffr_is}
use Rattle.sve_vectors.proofs.Lent.{ffr_lent, ffr_room}
use Rattle.sve_vectors.proofs.vectors.Vectors.ffr_mut.Goals as goal

pub returns : goal.returns
returns c =
    let v = c.self.inside in
    let room = ffr_room v c.self.invariant in
    let lent = ffr_lent v c.self.invariant in
    let here = sym (ffr_is v.current (items_of v.z.items) (items_of v.p.items) v.ffr.items)
    ∙ ap (λ (s : SveState). s.registers.ffr) c.self.view_is in
    let taken : c.slice_mut.result.now ≡ take (v.current / 8) v.ffr.items = c.slice_mut.ensures.value
    ∙ between_from_start v.ffr.items (v.current / 8) in
    let long : length c.slice_mut.result.now ≡ v.current / 8 = ap length taken
    ∙ length-take-le (v.current / 8) v.ffr.items (omega (arith, v.ffr.ok.0)) in (
      (refl, λ w. rw (← c.self.view_is) (lent w)),
      record {
        writes_back = tt;
        value = ap truths_of taken ∙ here;
        long = long ∙ ap (λ n. n / 8) (c.self.invariant.current ∙ ap length_of c.self.view_is);
      },
    )
