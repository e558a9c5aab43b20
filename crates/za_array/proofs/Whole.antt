-- For callers: a vector that was written as a whole, and the sizes that are kept.
use Rattle.std.proofs.Common.{◌≡◌, ℕ, List, [], length, get_or, ap}
use Rattle.sve_vectors.proofs.Writing.{overwritten_whole}
use Rattle.za_array.specs.Array.{ArrayState, with_array_vector}
use Rattle.za_array.specs.Lending.{with_array_bytes}

pub array_whole : (s : ArrayState) (n : ℕ) (bytes : List ℕ) → length bytes ≡ length (get_or s.vectors n [])
    → with_array_bytes s n bytes ≡ with_array_vector s n bytes
array_whole s n bytes e = ap (with_array_vector s n) (overwritten_whole (get_or s.vectors n []) bytes e)
