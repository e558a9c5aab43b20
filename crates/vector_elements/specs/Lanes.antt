-- Sixteen bytes of a vector as lanes, one for each element.
use Rattle.std.specs.Prelude.{ℕ, ◌+◌, ◌*◌, ◌/◌, List, ◌++◌, take, drop}
use Rattle.vector_elements.specs.declared.size.Size.{Size}
use Rattle.vector_elements.specs.Elements.{listed, element_of, bytes_of}
use Rattle.vector_elements.specs.Numbers.{bytes_in}

-- how many elements 16 bytes have
abbrev pub lanes_in : Size → ℕ
lanes_in size = 16 / bytes_in size

-- the elements of the ith 16 bytes
unfoldable pub lanes_of : Size → List ℕ → ℕ → List ℕ
lanes_of size bytes i =
    listed (λ j. element_of (bytes_in size) bytes (lanes_in size * i + j)) (lanes_in size)

-- a vector with other elements there
unfoldable pub with_lanes : Size → List ℕ → ℕ → List ℕ → List ℕ
with_lanes size bytes i lanes =
    take (16 * i) bytes ++ (bytes_of (bytes_in size) lanes ++ drop (16 * i + 16) bytes)
