use Rattle.std.proofs.Common.{◌∙◌, ◌≡◌, ◌/◌, ◌<◌, ap, arith, length}
use Rattle.sve_vectors.specs.Lengths.{vector_bytes}
use Rattle.tile_ops.proofs.Filled.{filled_none}
use Rattle.tile_ops.proofs.ReadBack.{column_next, column_read}
use Rattle.tile_ops.proofs.slices.read_column.Goals as goal

pub loop-r-init : goal.loop-r-init
loop-r-init c = filled_none _ _ _

pub loop-r-preserved : goal.loop-r-preserved
loop-r-preserved c =
    let size = vector_bytes c.args.za.now.svl in
    let rows : c.size.result / c.args.slice.bytes ≡ size / c.args.slice.bytes = ap (λ n. n / c.args.slice.bytes) c.size.ensures.value in
    let below : c.loop-r.r < size / c.args.slice.bytes = omega (arith, rows) in
    let long : length c.loop-r.into ≡ size = c.loop-r.auto.into ∙ c.requires.long in
    rw c.copy_element.ensures
    (column_next size c.args.slice c.args.za.now.vectors c.args.into.now c.loop-r.into c.vector-row.result.now c.loop-r.r c.requires.slice
    below long c.vector-row.ensures.long c.vector-row.ensures.value c.loop-r.invariant)

pub returns : goal.returns
returns c =
    let size = vector_bytes c.args.za.now.svl in
    let rows : c.size.result / c.args.slice.bytes ≡ size / c.args.slice.bytes = ap (λ n. n / c.args.slice.bytes) c.size.ensures.value in
    let count : c.loop-r.r ≡ size / c.args.slice.bytes = omega (arith, rows) in
    let long : length c.loop-r.into ≡ size = c.loop-r.auto.into ∙ c.requires.long in
    column_read size c.args.slice c.args.za.now.vectors c.args.into.now c.loop-r.into c.loop-r.r c.size.ensures.square c.requires.slice
    long count c.loop-r.invariant
