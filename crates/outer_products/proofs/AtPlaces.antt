-- The elements of a tile after an outer product.
use Rattle.std.proofs.Common.{◌≡◌, ℕ, ◌*◌, ◌/◌, ◌<◌, List, [], length, take, drop, get_or, ap, ◌∙◌, sym, Bool, ℤ}
use Rattle.std.specs.Simd.Lanes.{number_l}
use Rattle.vector_elements.specs.declared.size.Size.{Size}
use Rattle.vector_elements.specs.Elements.{element_of}
use Rattle.vector_elements.specs.Numbers.{range_of}
use Rattle.za_array.specs.Tiles.{tile_vector}
use Rattle.za_array.proofs.Changed.{row_below, changed_row, kept_vector, same_place}
use Rattle.outer_products.specs.declared.kind.MopaKind.{MopaKind}
use Rattle.outer_products.specs.OuterProducts.{source_size, sum_size, source, sum_of, changed, outer_row}
use Rattle.outer_products.specs.Laws.{sum_bytes, ProductsAtPlaces, ProductsKeepTiles}
use Rattle.outer_products.proofs.Numbers.{wrapped_fits}
use Rattle.outer_products.proofs.Active.{element_written}

changed_fits : (size : Size) (subtract : Bool) (old : ℕ) (sum : ℤ) → changed size subtract old sum < range_of size
unfolding changed
changed_fits size subtract old sum = wrapped_fits size _

-- an element of a row of the tile
row_element : (kind : MopaKind) (pn pm zn zm : List ℕ) (r c : ℕ) (row : List ℕ) → c < length row / sum_bytes kind
    → element_of (sum_bytes kind) (outer_row kind pn pm zn zm r row) c
    ≡ changed (sum_size kind.halves) kind.subtract (element_of (sum_bytes kind) row c)
    (sum_of (source_size kind.halves) (source kind.n_signed pn zn) (source kind.m_signed pm zm) r c)
unfolding outer_row
row_element kind pn pm zn zm r c row below =
    element_written (sum_size kind.halves) row _ c below (changed_fits (sum_size kind.halves) kind.subtract _ _)

pub products_at_places : ProductsAtPlaces
products_at_places kind bytes tile pn pm zn zm za square t r c row column =
    let e = sum_bytes kind in
    let old = get_or za (tile_vector e tile r) [] in
    let long : length old ≡ bytes = square.long (tile_vector e tile r) (row_below e tile bytes r t row) in
    let sum = sum_of (source_size kind.halves) (source kind.n_signed pn zn) (source kind.m_signed pm zm) r c in
    ap (λ b. number_l 256 (take e (drop (c * e) b))) (changed_row e tile (outer_row kind pn pm zn zm) za r t (rw square.count row))
    ∙ same_place e (outer_row kind pn pm zn zm r old) c
    ∙ row_element kind pn pm zn zm r c old (rw long column)
    ∙ ap (λ x. changed (sum_size kind.halves) kind.subtract x sum) (sym (same_place e old c))

pub products_keep_tiles : ProductsKeepTiles
products_keep_tiles kind tile pn pm zn zm za v other = kept_vector (sum_bytes kind) tile (outer_row kind pn pm zn zm) za v other
