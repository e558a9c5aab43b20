-- The ZA array: S vectors of S bytes, S being the streaming vector length in bytes.
-- Source: DDI 0487, B1.4 (SME, ZA storage).
use Rattle.std.specs.Prelude.{ℕ, ◌≡◌, ◌<◌, List, [], length, replicate, slice_index_or, slice_set}
use Rattle.sm_types.specs.declared.length.VecLen.{VecLen}
use Rattle.sve_vectors.specs.Lengths.{vector_bytes}

pub record ArrayState : Type 0 where
  -- the streaming vector length
  pub svl : VecLen
  -- ZA[0] to ZA[S - 1], each S bytes, the lowest first
  pub vectors : List (List ℕ)

-- so many vectors of as many bytes, all zero
abbrev pub zero_vectors : ℕ → List (List ℕ)
zero_vectors size = replicate size (replicate size 0)

-- ZA of zeros
abbrev pub zero_array : VecLen → ArrayState
zero_array svl = record { svl = svl; vectors = zero_vectors (vector_bytes svl) }

-- with one vector written
abbrev pub with_array_vector : ArrayState → ℕ → List ℕ → ArrayState
with_array_vector s n bytes = record s { vectors = slice_set s.vectors n bytes }

-- there are so many vectors of as many bytes
pub record IsSquare (size : ℕ) (vectors : List (List ℕ)) : Type 0 where
  pub count : length vectors ≡ size
  pub long : (n : ℕ) → n < size → length (slice_index_or vectors n []) ≡ size
