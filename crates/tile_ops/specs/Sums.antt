-- Sums of the elements of a tile and those of a vector. A vector is added to each row of the tile, or to each
-- column.
-- Source: DDI 0487, C9.2: ADDHA, ADDVA.
use Rattle.std.specs.Prelude.{ℕ, ◌≡◌, ◌+◌, ◌*◌, ◌%◌, ◌≤◌, Bool, if◌then◌else◌, List, length}
use Rattle.vector_elements.specs.declared.size.Size.{Size}
use Rattle.vector_elements.specs.Elements.{element_of, is_active, each_active}
use Rattle.vector_elements.specs.Numbers.{bytes_in, range_of}
use Rattle.za_array.specs.Tiles.{changed_tile}

-- what is added to element (r, c) of the tile: element r of the vector, which is a column, or its element c
abbrev pub addend_of : Size → Bool → List ℕ → ℕ → ℕ → ℕ
addend_of size vertical zn r c = element_of (bytes_in size) zn (if vertical then r else c)

-- row r after the sum, modulo 2 ^ w: its elements at active columns, if it is active
unfoldable pub row_sum : Size → Bool → List ℕ → List ℕ → List ℕ → ℕ → List ℕ → List ℕ
row_sum size vertical pn pm zn r row =
    if is_active (bytes_in size) pn r
    then each_active (bytes_in size) pm row (λ c old. (old + addend_of size vertical zn r c) % range_of size)
    else row

-- the vectors of the array after the sum
abbrev pub added_to_tile : Size → ℕ → Bool → List ℕ → List ℕ → List ℕ → List (List ℕ) → List (List ℕ)
added_to_tile size tile vertical pn pm zn za =
    changed_tile (bytes_in size) tile (row_sum size vertical pn pm zn) za

-- a vector and two predicates go with vectors of so many bytes
pub record AreSumOf (size : Size) (bytes : ℕ) (pn pm zn : List ℕ) : Type 0 where
  pub whole : bytes % bytes_in size ≡ 0
  pub small : bytes ≤ 256
  pub rows : 8 * length pn ≡ bytes
  pub columns : 8 * length pm ≡ bytes
  pub vector : length zn ≡ bytes
