-- Vectors of which all elements are active.
use Rattle.std.specs.Prelude.{◌≡◌, ℕ, ◌*◌, ◌/◌, ◌<◌, ◌↔◌, true, List, length, slice_index}
use Rattle.std.specs.Int.{bit_at}
use Rattle.vector_elements.specs.declared.size.Size.{Size}
use Rattle.vector_elements.specs.declared.size.Size.TheVariants.{B, H, S, D}
use Rattle.vector_elements.specs.Elements.{is_active}
use Rattle.vector_elements.specs.Numbers.{bytes_in}

-- all elements are active
abbrev pub AreActive : Size → List ℕ → Type 0
AreActive size p = (i : ℕ) → i < 8 * length p / bytes_in size → is_active (bytes_in size) p i ≡ true

-- the bits of a byte of a predicate that are of elements: of each element its lowest
abbrev pub element_bits : Size → ℕ
element_bits B = 255
element_bits H = 85
element_bits S = 17
element_bits D = 1

-- a bit of a number is set exactly where it is in each byte
abbrev pub HasCommonBits : ℕ → List ℕ → Type 0
HasCommonBits bits p =
    (k : ℕ) → k < 8 → (bit_at bits k ≡ 1) ↔ ((j : ℕ) → j < length p → bit_at (slice_index p j) k ≡ 1)
