-- Elements as numbers. An element of w bits stands for itself without a sign, and for a number in two's
-- complement with one.
-- Source: DDI 0487, J1.1: UInt, SInt, and the truncation of a result to an element.
use Rattle.std.specs.Prelude.{ℕ, ◌-◌, ◌%◌, ◌^◌, nat_lt, if◌then◌else◌, ℤ, pos, negsuc, ◌-ℤ◌}
use Rattle.std.specs.Prelude.{Option, Some, None}
use Rattle.sm_types.specs.declared.vector.Elem.{Elem}
use Rattle.sm_types.specs.declared.vector.Elem.TheVariants as elem
use Rattle.vector_elements.specs.declared.size.Size.{Size}
use Rattle.vector_elements.specs.declared.size.Size.TheVariants.{B, H, S, D}

-- the bytes of an element
abbrev pub bytes_in : Size → ℕ
bytes_in B = 1
bytes_in H = 2
bytes_in S = 4
bytes_in D = 8

-- its bits
abbrev pub bits_in : Size → ℕ
bits_in B = 8
bits_in H = 16
bits_in S = 32
bits_in D = 64

-- how many values it has
abbrev pub range_of : Size → ℕ
range_of B = 2 ^ 8
range_of H = 2 ^ 16
range_of S = 2 ^ 32
range_of D = 2 ^ 64

-- the values from here on have their sign bit set
abbrev pub half_of : Size → ℕ
half_of B = 2 ^ 7
half_of H = 2 ^ 15
half_of S = 2 ^ 31
half_of D = 2 ^ 63

-- SInt: the element in two's complement
unfoldable pub signed_of : Size → ℕ → ℤ
signed_of size x = if nat_lt x (half_of size) then pos x else pos x -ℤ pos (range_of size)

-- the element that a number becomes, modulo 2 ^ w
unfoldable pub wrapped : Size → ℤ → ℕ
wrapped size (pos n) = n % range_of size
wrapped size (negsuc n) = range_of size - 1 - n % range_of size

-- the size of elements, but for those of 128 bits
abbrev pub size_in : Elem → Option Size
size_in elem.B = Some B
size_in elem.H = Some H
size_in elem.S = Some S
size_in elem.D = Some D
size_in elem.Q = None
