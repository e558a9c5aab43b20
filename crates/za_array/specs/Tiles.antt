-- The tiles of ZA: a tile of elements of e bytes is each e-th vector of the array, from the tile's number on.
-- ZA has as many tiles of such elements as an element has bytes, and each has as many rows, and columns, as a
-- vector of the array has elements.
-- Source: DDI 0487, B1.4 (ZA tiles, ZA tile slices), J1.1: ZAtile, ZAhslice, ZAvslice.
use Rattle.std.specs.Prelude.{ℕ, ◌+◌, ◌*◌, ◌/◌, ◌%◌, ◌==◌, if◌then◌else◌, List, [], length, take, drop}
use Rattle.std.specs.Prelude.{slice_index_or}
use Rattle.std.specs.Simd.Lanes.{number_l}
use Rattle.vector_elements.specs.Elements.{listed}

-- the vector of the array that is row r of a tile
abbrev pub tile_vector : ℕ → ℕ → ℕ → ℕ
tile_vector e tile r = r * e + tile

-- how many rows and columns a tile has
abbrev pub tile_size : ℕ → List (List ℕ) → ℕ
tile_size e za = length za / e

-- the bytes of element (r, c) of a tile
abbrev pub tile_element : ℕ → ℕ → List (List ℕ) → ℕ → ℕ → List ℕ
tile_element e tile za r c = take e (drop (c * e) (slice_index_or za (tile_vector e tile r) []))

-- the number that it is, without a sign
abbrev pub element_number : ℕ → ℕ → List (List ℕ) → ℕ → ℕ → ℕ
element_number e tile za r c = number_l 256 (tile_element e tile za r c)

-- the elements of row r
unfoldable pub horizontal_slice : ℕ → ℕ → List (List ℕ) → ℕ → List (List ℕ)
horizontal_slice e tile za r = listed (tile_element e tile za r) (tile_size e za)

-- the elements of column c
unfoldable pub vertical_slice : ℕ → ℕ → List (List ℕ) → ℕ → List (List ℕ)
vertical_slice e tile za c = listed (λ r. tile_element e tile za r c) (tile_size e za)

-- vector v of the array where each row of a tile becomes a function of its number and of what it was
abbrev pub changed_vector : ℕ → ℕ → (ℕ → List ℕ → List ℕ) → List (List ℕ) → ℕ → List ℕ
changed_vector e tile change za v =
    if v % e == tile then change (v / e) (slice_index_or za v []) else slice_index_or za v []

-- the array then: the vectors of the other tiles of such elements stay
unfoldable pub changed_tile : ℕ → ℕ → (ℕ → List ℕ → List ℕ) → List (List ℕ) → List (List ℕ)
changed_tile e tile change za = listed (changed_vector e tile change za) (length za)
