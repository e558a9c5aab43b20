-- The active elements of a vector, and the last of them.
-- Source: DDI 0487, C8.2: LASTA and LASTB (scalar); J1.1: LastActiveElement.
use Rattle.std.specs.Prelude.{ℕ, ◌+◌, ◌-◌, ◌%◌, Bool, if◌then◌else◌, List, map, filter, fold}
use Rattle.std.specs.List.{range_with_len}
use Rattle.vector_elements.specs.declared.size.Size.{Size}
use Rattle.vector_elements.specs.Elements.{element_of, is_active}
use Rattle.vector_elements.specs.Numbers.{bytes_in}
use Rattle.sve_perm.specs.Permute.{count_of}

-- the places of the active elements among the first `count`, in order
unfoldable pub active_places : Size → List ℕ → ℕ → List ℕ
active_places size pg count = filter (is_active (bytes_in size) pg) (range_with_len 0 count)

-- the elements of n there
unfoldable pub active_elements : Size → List ℕ → List ℕ → List ℕ
active_elements size pg n = map (element_of (bytes_in size) n) (active_places size pg (count_of size n))

-- the last of some places; where there are none, the given one
abbrev pub last_or : ℕ → List ℕ → ℕ
last_or none places = fold (λ before place. place) none places

-- the place of the last active element, or of the last of all where none is active
unfoldable pub last_place : Size → List ℕ → ℕ → ℕ
last_place size pg count = last_or (count - 1) (active_places size pg count)

-- LASTB: the element there. LASTA: the one after it, and after the last of all the first
unfoldable pub last_element_of : Bool → Size → List ℕ → List ℕ → ℕ
last_element_of active size pg n =
    element_of (bytes_in size) n (if active then last_place size pg (count_of size n)
    else (last_place size pg (count_of size n) + 1) % count_of size n)
