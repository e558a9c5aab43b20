use Rattle.std.proofs.Common.{◌≡◌, ◌<◌, ap, ◌∙◌, refl, [], get_or, length, take, sym, arith}
use Rattle.std.proofs.lemmas.List.{take_all}
use Rattle.std.proofs.lemmas.Slice.{between_from_start}
use Rattle.sve_vectors.specs.Lengths.{vector_bytes}
use Rattle.sve_vectors.proofs.Held.{held, length-items}
use Rattle.za_array.specs.Array.{ArrayState}
use Rattle.za_array.proofs.Rows.{row_room, row_lent, row_kept}
use Rattle.za_array.proofs.array.Za.vector_mut.Goals as goal

pub slice_mut-requires-clause-in_bounds : goal.slice_mut-requires-clause-in_bounds
slice_mut-requires-clause-in_bounds c =
    let v = c.self.inside in
    let inside : c.args.n < vector_bytes v.svl
    = omega (arith, c.requires, ap (λ (s : ArrayState). vector_bytes s.svl) c.self.view_is) in
    let row = c.index_mut.result.now in
    omega (
      arith,
      row.ok.0,
      c.bytes-size.ensures,
      row_room v.rows.items (vector_bytes v.svl) c.args.n row c.self.invariant inside c.index_mut.ensures.value,
    )

pub invariant_of-self-lent : goal.invariant_of-self-lent
invariant_of-self-lent c =
    let v = c.self.inside in
    let inside : c.args.n < vector_bytes v.svl
    = omega (arith, c.requires, ap (λ (s : ArrayState). vector_bytes s.svl) c.self.view_is) in
    λ w. row_kept v.rows.items (vector_bytes v.svl) c.args.n c.index_mut.result.now w c.self.invariant inside
    c.index_mut.ensures.value

pub returns : goal.returns
returns c =
    let v = c.self.inside in
    let inside : c.args.n < vector_bytes v.svl
    = omega (arith, c.requires, ap (λ (s : ArrayState). vector_bytes s.svl) c.self.view_is) in
    let row = c.index_mut.result.now in
    let size = vector_bytes v.svl in
    let room : length row.items ≡ size = row_room v.rows.items size c.args.n row c.self.invariant inside c.index_mut.ensures.value in
    let within : c.args.n < length v.rows.items = omega (arith, inside, c.self.invariant.count, length-items v.rows.items) in
    let front = held v.rows.items c.args.n row within c.index_mut.ensures.value in
    let here = ap (λ (s : ArrayState). get_or s.vectors c.args.n []) c.self.view_is in
    let taken : c.slice_mut.result.now ≡ take c.bytes-size.result row.items = c.slice_mut.ensures.value
    ∙ between_from_start row.items c.bytes-size.result in
    let all : take c.bytes-size.result row.items ≡ row.items = take_all c.bytes-size.result row.items
    (omega (arith, room, c.bytes-size.ensures)) in (
      (
        refl,
        λ w. rw (← c.self.view_is) (row_lent v.svl v.rows.items size c.args.n row w c.self.invariant inside
            c.index_mut.ensures.value),
      ),
      record {
        writes_back = tt;
        value = taken ∙ all ∙ sym front ∙ here;
        long = ap length (taken ∙ all) ∙ room ∙ ap (λ (s : ArrayState). vector_bytes s.svl) c.self.view_is;
      },
    )
