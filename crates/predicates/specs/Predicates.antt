-- Predicates of elements. A bit of a predicate stands for each byte of a vector.
-- Source: DDI 0487, B1.4 (P registers), J1.1: the writes of ElemP[].
use Rattle.std.specs.Prelude.{ℕ, ◌*◌, ◌/◌, ◌%◌, ◌==◌, ◌&&◌, Bool, List, map}
use Rattle.std.specs.List.{range_with_len}
use Rattle.sve_vectors.specs.Predicates.{predicate_bytes}

-- bit j where element i of `e` bytes holds as `truth i` says: the bit of its lowest byte alone is ever set
abbrev pub bit_for : ℕ → (ℕ → Bool) → ℕ → Bool
bit_for e truth j = (j % e == 0) && truth (j / e)

-- the predicate of `bytes` bytes with those elements
unfoldable pub predicate_of : ℕ → ℕ → (ℕ → Bool) → List ℕ
predicate_of e bytes truth = predicate_bytes (map (bit_for e truth) (range_with_len 0 (8 * bytes)))
