-- Vector lengths in bytes. Source: DDI 0487, B1.4 (the effective VL and SVL).
use Rattle.std.specs.Prelude.{ℕ, ◌/◌, Bool, if◌then◌else◌}
use Rattle.sm_types.specs.Length.{bits_of}
use Rattle.sm_types.specs.declared.length.VecLen.{VecLen}

-- a vector length in bytes
abbrev pub vector_bytes : VecLen → ℕ
vector_bytes length = bits_of length / 8

-- the current vector length in bytes: SVL in Streaming SVE mode, else VL
abbrev pub current_bytes : VecLen → VecLen → Bool → ℕ
current_bytes vl svl streaming = if streaming then vector_bytes svl else vector_bytes vl
