-- The SVE vector and predicate registers, and those of a number. Source: DDI 0487, B1.4 (SVE state), J1.1:
-- Z[], P[], FFR[], and their writes.
use Rattle.std.specs.Prelude.{ℕ, ◌≡◌, ◌<◌, Bool, false, List, [], length, replicate, slice_index_or, slice_set}
use Rattle.sve_vectors.specs.Predicates.{predicate_bytes}

-- L is the current vector length in bytes
pub record VectorRegisters : Type 0 where
  -- Z0 to Z31, each L bytes, the lowest first
  pub vectors : List (List ℕ)
  -- P0 to P15, each L truth values, one for each byte of a vector
  pub predicates : List (List Bool)
  -- FFR, L truth values
  pub ffr : List Bool

-- all zero, at a length in bytes
unfoldable pub zero_registers : ℕ → VectorRegisters
zero_registers bytes = record {
  vectors = replicate 32 (replicate bytes 0);
  predicates = replicate 16 (replicate bytes false);
  ffr = replicate bytes false;
}

-- there are 32 vectors and 16 predicates, and they and FFR have a length in bytes
pub record AreOfLength (bytes : ℕ) (r : VectorRegisters) : Type 0 where
  pub vector_count : length r.vectors ≡ 32
  pub vector_length : (n : ℕ) → n < 32 → length (slice_index_or r.vectors n []) ≡ bytes
  pub predicate_count : length r.predicates ≡ 16
  pub predicate_length : (n : ℕ) → n < 16 → length (slice_index_or r.predicates n []) ≡ bytes
  pub ffr_length : length r.ffr ≡ bytes

-- Z: a vector
abbrev pub vector_at : VectorRegisters → ℕ → List ℕ
vector_at r n = slice_index_or r.vectors n []

-- P: a predicate, and its bytes
abbrev pub truths_at : VectorRegisters → ℕ → List Bool
truths_at r n = slice_index_or r.predicates n []

abbrev pub predicate_at : VectorRegisters → ℕ → List ℕ
predicate_at r n = predicate_bytes (truths_at r n)

-- the registers after a write to a vector
abbrev pub vector_written : VectorRegisters → ℕ → List ℕ → VectorRegisters
vector_written r n bytes = record r { vectors = slice_set r.vectors n bytes }

-- after a write to a predicate
abbrev pub predicate_written : VectorRegisters → ℕ → List Bool → VectorRegisters
predicate_written r n truths = record r { predicates = slice_set r.predicates n truths }

-- after a write to FFR
abbrev pub ffr_written : VectorRegisters → List Bool → VectorRegisters
ffr_written r truths = record r { ffr = truths }
