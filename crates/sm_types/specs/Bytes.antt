-- Numbers as bytes. Source: the little-endian order of DDI 0487 (B2, endianness) and of ELF64, ELFDATA2LSB.
use Rattle.std.specs.Prelude.{ℕ, ◌+◌, ◌*◌, List, [], ◌∷◌}

-- the number of some bytes, the low one first
abbrev pub little_number : List ℕ → ℕ
little_number [] = 0
little_number (b ∷ bs) = b + 256 * little_number bs
