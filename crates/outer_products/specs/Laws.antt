-- Laws of the outer products: what each element of the tile is after them, and that the other tiles stay.
-- Source: DDI 0487, B1.4 (ZA tiles), C9.2: SMOPA, SMOPS, UMOPA and UMOPS (4-way), SUMOPA, SUMOPS, USMOPA,
-- USMOPS.
use Rattle.std.specs.Prelude.{◌≡◌, ◌≢◌, ℕ, ◌/◌, ◌%◌, ◌<◌, List, [], slice_index_or}
use Rattle.vector_elements.specs.Numbers.{bytes_in}
use Rattle.za_array.specs.Array.{IsSquare}
use Rattle.za_array.specs.Tiles.{element_number, changed_tile}
use Rattle.outer_products.specs.declared.kind.MopaKind.{MopaKind}
use Rattle.outer_products.specs.OuterProducts.{source_size, sum_size, source, sum_of, changed, outer_row}

-- the bytes of an element of the tile
abbrev pub sum_bytes : MopaKind → ℕ
sum_bytes kind = bytes_in (sum_size kind.halves)

-- the vectors of the array after the outer product
abbrev pub with_products :
    MopaKind → ℕ → List ℕ → List ℕ → List ℕ → List ℕ → List (List ℕ) → List (List ℕ)
with_products kind tile pn pm zn zm za = changed_tile (sum_bytes kind) tile (outer_row kind pn pm zn zm) za

-- each element of the tile changes by the sum of the four products for its place
abbrev pub ProductsAtPlaces : Type 0
ProductsAtPlaces =
    (kind : MopaKind) (bytes tile : ℕ) (pn pm zn zm : List ℕ) (za : List (List ℕ)) →
    IsSquare bytes za → tile < sum_bytes kind →
    (r c : ℕ) → r < bytes / sum_bytes kind → c < bytes / sum_bytes kind →
    let n = source kind.n_signed pn zn in
    let m = source kind.m_signed pm zm in
    element_number (sum_bytes kind) tile (with_products kind tile pn pm zn zm za) r c
    ≡ changed (sum_size kind.halves) kind.subtract (element_number (sum_bytes kind) tile za r c)
    (sum_of (source_size kind.halves) n m r c)

-- and no other tile of such elements changes
abbrev pub ProductsKeepTiles : Type 0
ProductsKeepTiles =
    (kind : MopaKind) (tile : ℕ) (pn pm zn zm : List ℕ) (za : List (List ℕ)) →
    (v : ℕ) → v % sum_bytes kind ≢ tile →
    slice_index_or (with_products kind tile pn pm zn zm za) v [] ≡ slice_index_or za v []
