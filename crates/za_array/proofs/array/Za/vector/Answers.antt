use Rattle.std.proofs.Common.{ap, ◌∙◌, ◌<◌, length, arith}
use Rattle.sve_vectors.specs.Lengths.{vector_bytes}
use Rattle.za_array.specs.Array.{ArrayState}
use Rattle.za_array.proofs.Rows.{row_room}
use Rattle.za_array.proofs.array.Za.vector.Goals as goal

pub returns-clause-long : goal.returns-clause-long
returns-clause-long c =
    let v = c.self.inside in
    let lengths = ap (λ (s : ArrayState). vector_bytes s.svl) c.self.view_is in
    let inside : c.args.n < vector_bytes v.svl = omega (arith, c.requires, lengths) in
    ap length c.as_slice.ensures.value
    ∙ row_room v.rows.items (vector_bytes v.svl) c.args.n c.index.result.now c.self.invariant inside c.index.ensures
    ∙ lengths
