-- Slices of the tiles of ZA. A slice is S bytes, S being the streaming vector length in bytes: its elements
-- one after another.
-- Source: DDI 0487, B1.4 (ZA tile slices), J1.1: ZAslice.
use Rattle.std.specs.Prelude.{ℕ, ◌≡◌, ◌+◌, ◌*◌, ◌/◌, ◌%◌, ◌^◌, ◌<◌, if◌then◌else◌, List, ◌++◌, take}
use Rattle.std.specs.Prelude.{drop, slice_set}
use Rattle.std.specs.List.{concat}
use Rattle.za_array.specs.Tiles.{tile_vector, horizontal_slice, vertical_slice, changed_tile}
use Rattle.tile_ops.specs.declared.slices.SliceAt.{SliceAt}

-- which of so many slices: the sum of a register's low 32 bits and an offset, modulo how many there are
abbrev pub slice_number : ℕ → ℕ → ℕ → ℕ
slice_number value offset count = (value % 2 ^ 32 + offset) % count

-- there is such a slice where vectors have so many bytes
pub record IsSliceOf (size : ℕ) (slice : SliceAt) : Type 0 where
  pub tile : slice.tile < slice.bytes
  pub whole : size % slice.bytes ≡ 0
  pub number : slice.number < size / slice.bytes

-- its elements: those of a column where it is vertical, else those of a row
abbrev pub slice_elements : SliceAt → List (List ℕ) → List (List ℕ)
slice_elements slice za =
    if slice.vertical then vertical_slice slice.bytes slice.tile za slice.number
    else horizontal_slice slice.bytes slice.tile za slice.number

-- its bytes
abbrev pub slice_bytes : SliceAt → List (List ℕ) → List ℕ
slice_bytes slice za = concat (slice_elements slice za)

-- element i of bytes, each element of e bytes
abbrev pub element_bytes : ℕ → List ℕ → ℕ → List ℕ
element_bytes e bytes i = take e (drop (i * e) bytes)

-- the bytes with element i written
abbrev pub with_element : ℕ → List ℕ → ℕ → List ℕ → List ℕ
with_element e bytes i element = take (i * e) bytes ++ (element ++ drop (i * e + e) bytes)

-- a row of the tile with the element written that a vertical slice has in row r
abbrev pub with_vertical : SliceAt → List ℕ → ℕ → List ℕ → List ℕ
with_vertical slice bytes r row =
    with_element slice.bytes row slice.number (element_bytes slice.bytes bytes r)

-- the array with the slice written
unfoldable pub with_slice : SliceAt → List ℕ → List (List ℕ) → List (List ℕ)
with_slice slice bytes za =
    if slice.vertical then changed_tile slice.bytes slice.tile (with_vertical slice bytes) za
    else slice_set za (tile_vector slice.bytes slice.tile slice.number) bytes
