-- Laws of slices, and of sums.
use Rattle.std.specs.Prelude.{◌≡◌, ◌≢◌, ℕ, ◌+◌, ◌/◌, ◌%◌, ◌<◌, ◌&&◌, Bool, if◌then◌else◌, List, [], length}
use Rattle.std.specs.Prelude.{slice_index, slice_index_or}
use Rattle.vector_elements.specs.declared.size.Size.{Size}
use Rattle.vector_elements.specs.Elements.{is_active}
use Rattle.vector_elements.specs.Numbers.{bytes_in, range_of}
use Rattle.za_array.specs.Array.{IsSquare}
use Rattle.za_array.specs.Tiles.{tile_element, element_number}
use Rattle.tile_ops.specs.declared.slices.SliceAt.{SliceAt}
use Rattle.tile_ops.specs.Slices.{IsSliceOf, slice_bytes, element_bytes, with_slice}
use Rattle.tile_ops.specs.Moves.{merged, chosen_element}
use Rattle.tile_ops.specs.Sums.{addend_of, added_to_tile}

-- vectors of so many bytes, one of their slices, and bytes for it
pub record AreWritten (size : ℕ) (slice : SliceAt) (bytes : List ℕ) (za : List (List ℕ)) : Type 0 where
  pub square : IsSquare size za
  pub slice_of : IsSliceOf size slice
  pub long : length bytes ≡ size

-- a slice that was written is read back
abbrev pub ReadsWritten : Type 0
ReadsWritten =
    (size : ℕ) (slice : SliceAt) (bytes : List ℕ) (za : List (List ℕ)) → AreWritten size slice bytes za →
    slice_bytes slice (with_slice slice bytes za) ≡ bytes

-- the tile keeps its elements at the other places
abbrev pub KeepsElements : Type 0
KeepsElements =
    (size : ℕ) (slice : SliceAt) (bytes : List ℕ) (za : List (List ℕ)) → AreWritten size slice bytes za →
    (r c : ℕ) → r < size / slice.bytes → c < size / slice.bytes →
    (if slice.vertical then c else r) ≢ slice.number →
    tile_element slice.bytes slice.tile (with_slice slice bytes za) r c
    ≡ tile_element slice.bytes slice.tile za r c

-- the other tiles of such elements keep their vectors
abbrev pub KeepsTiles : Type 0
KeepsTiles =
    (size : ℕ) (slice : SliceAt) (bytes : List ℕ) (za : List (List ℕ)) → AreWritten size slice bytes za →
    (v : ℕ) → v % slice.bytes ≢ slice.tile →
    slice_index_or (with_slice slice bytes za) v [] ≡ slice_index_or za v []

-- the elements of two vectors that were merged are those that were chosen
abbrev pub MergesElements : Type 0
MergesElements =
    (e i : ℕ) (pg new old : List ℕ) → length new ≡ length old → i < length old / e →
    element_bytes e (merged e pg new old) i ≡ chosen_element e pg new old i

-- a vector is added to the elements of the active rows and columns, and to no other of the tile
abbrev pub AddsAtPlaces : Type 0
AddsAtPlaces =
    (size : Size) (bytes tile : ℕ) (vertical : Bool) (pn pm zn : List ℕ) (za : List (List ℕ)) →
    IsSquare bytes za → tile < bytes_in size → ((v k : ℕ) → slice_index (slice_index_or za v []) k < 256) →
    (r c : ℕ) → r < bytes / bytes_in size → c < bytes / bytes_in size →
    let old = element_number (bytes_in size) tile za r c in
    element_number (bytes_in size) tile (added_to_tile size tile vertical pn pm zn za) r c
    ≡ (if is_active (bytes_in size) pn r && is_active (bytes_in size) pm c
    then (old + addend_of size vertical zn r c) % range_of size else old)

-- and to no other tile of such elements
abbrev pub AddKeepsTiles : Type 0
AddKeepsTiles =
    (size : Size) (tile : ℕ) (vertical : Bool) (pn pm zn : List ℕ) (za : List (List ℕ)) →
    (v : ℕ) → v % bytes_in size ≢ tile →
    slice_index_or (added_to_tile size tile vertical pn pm zn za) v [] ≡ slice_index_or za v []
