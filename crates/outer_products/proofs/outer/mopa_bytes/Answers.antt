use Rattle.std.proofs.Common.{◌≡◌, ap, ℕ, refl, sym, false}
use Rattle.sve_vectors.specs.Lengths.{vector_bytes}
use Rattle.vector_elements.specs.declared.size.Size.TheVariants.{B, S}
use Rattle.za_array.specs.Tiles.{changed_tile}
use Rattle.outer_products.specs.OuterProducts.{source_size, sum_size, source}
use Rattle.outer_products.specs.Sources.{row_of_sums}
use Rattle.outer_products.proofs.RowSums.{ready, ready_pairs, array_is}
use Rattle.outer_products.proofs.Active.{AreBytes}
use Rattle.outer_products.proofs.outer.mopa_bytes.Goals as goal

pub returns : goal.returns
returns c =
    let za = c.args.za.now in
    let kind = c.args.kind in
    let size : ℕ = vector_bytes za.svl in
    let nb : AreBytes c.args.zn.now = λ k. (c.type_inv.zn k).fits in
    let mb : AreBytes c.args.zm.now = λ k. (c.type_inv.zm k).fits in
    let n = source kind.n_signed c.args.pn.now c.args.zn.now in
    let m = source kind.m_signed c.args.pm.now c.args.zm.now in
    let is : c.change_tile.new.za ≡ record za {
      vectors = changed_tile 4 c.from.result (row_of_sums S _ _) za.vectors;
    } = c.change_tile.ensures in
    array_is kind c.args.tile c.args.pn.now c.args.pm.now _ _ nb mb size _ _ S 4 _ za _ is (ap sum_size (sym c.requires.bytes)) refl
    c.from.ensures c.size-size.ensures.whole c.size-size.ensures.square (record {
      n_long = c.requires.zn;
      m_long = c.requires.zm;
      n_is = ready B kind.halves n nb kind.subtract _ _ (ap source_size (sym c.requires.bytes)) c.write_bytes.ensures.value
          c.write_active.ensures;
      m_is = ready_pairs false kind.halves m mb _ _ (sym c.requires.bytes) c.write_byte_pairs.ensures.value c.write_active-2.ensures;
      whole = c.size-size.ensures.whole;
    })
