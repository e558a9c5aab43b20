-- Vector lengths in bits. Source: DDI 0487, the vector lengths VL and SVL; this emulator has five of them.
use Rattle.std.specs.Prelude.{ℕ, ◌≡◌, ◌⊎◌}
use Rattle.sm_types.specs.declared.length.VecLen.{VecLen}
use Rattle.sm_types.specs.declared.length.VecLen.TheVariants.{Bits128, Bits256, Bits512, Bits1024, Bits2048}

-- the length in bits
abbrev pub bits_of : VecLen → ℕ
bits_of Bits128 = 128
bits_of Bits256 = 256
bits_of Bits512 = 512
bits_of Bits1024 = 1024
bits_of Bits2048 = 2048

-- one of the five lengths
abbrev pub IsLength : ℕ → Type 0
IsLength bits = (bits ≡ 128) ⊎ (bits ≡ 256) ⊎ (bits ≡ 512) ⊎ (bits ≡ 1024) ⊎ (bits ≡ 2048)
