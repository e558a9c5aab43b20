-- Moves between vectors and slices of tiles.
-- Source: DDI 0487, C9.2: MOVA (vector to tile, single; tile to vector, single).
use Rattle.std.specs.Prelude.{ℕ, ◌/◌, if◌then◌else◌, List, length}
use Rattle.std.specs.List.{concat}
use Rattle.vector_elements.specs.Elements.{listed, is_active}
use Rattle.tile_ops.specs.declared.slices.SliceAt.{SliceAt}
use Rattle.tile_ops.specs.Slices.{slice_bytes, element_bytes, with_slice}

-- element i of two vectors: that of the first where it is active, else that of the second
abbrev pub chosen_element : ℕ → List ℕ → List ℕ → List ℕ → ℕ → List ℕ
chosen_element e pg new old i = if is_active e pg i then element_bytes e new i else element_bytes e old i

-- the active elements of one vector among the others of another
unfoldable pub merged : ℕ → List ℕ → List ℕ → List ℕ → List ℕ
merged e pg new old = concat (listed (chosen_element e pg new old) (length old / e))

-- the array after a move to a slice: the active elements of the slice are those of zn, the others stay
abbrev pub moved_to_tile : SliceAt → List ℕ → List ℕ → List (List ℕ) → List (List ℕ)
moved_to_tile slice pg zn za = with_slice slice (merged slice.bytes pg zn (slice_bytes slice za)) za

-- a vector after a move from a slice: its active elements are those of the slice, the others stay
abbrev pub moved_to_vector : SliceAt → List ℕ → List (List ℕ) → List ℕ → List ℕ
moved_to_vector slice pg za zd = merged slice.bytes pg (slice_bytes slice za) zd
