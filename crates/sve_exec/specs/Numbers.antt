-- What instructions make of the numbers that elements stand for.
-- Source: DDI 0487, J1.1: SignedSat, UnsignedSat, NOT.
use Rattle.std.specs.Prelude.{ℕ, ◌-◌, min, ℤ, pos, neg_ℤ, int_lt, if◌then◌else◌}
use Rattle.vector_elements.specs.declared.size.Size.{Size}
use Rattle.vector_elements.specs.Numbers.{range_of, half_of}

-- SignedSat: the number nearest to z from -(2 ^ (w - 1)) to 2 ^ (w - 1) - 1
unfoldable pub signed_saturated : Size → ℤ → ℤ
signed_saturated size z =
    if int_lt z (neg_ℤ (pos (half_of size))) then neg_ℤ (pos (half_of size))
    else if int_lt z (pos (half_of size)) then z else pos (half_of size - 1)

-- UnsignedSat: the number nearest to n up to 2 ^ w - 1
abbrev pub unsigned_saturated : Size → ℕ → ℕ
unsigned_saturated size n = min n (range_of size - 1)

-- NOT: every bit of an element inverted
abbrev pub inverted : Size → ℕ → ℕ
inverted size x = range_of size - 1 - x
