-- The vectors, predicates, FFR and ZA of a guest thread. Source: DDI 0487, B1.4 (SVE and SME state).
use Rattle.std.specs.Prelude.{ℕ, List}
use Rattle.sm_types.specs.declared.length.VecLen.{VecLen}
pub use Rattle.sve_vectors.specs.Lengths.{vector_bytes}
pub use Rattle.sve_vectors.specs.Registers.{VectorRegisters}
use Rattle.sve_vectors.specs.Registers.{zero_registers}
use Rattle.za_array.specs.Array.{zero_vectors}

-- S is SVL in bytes
pub record VectorState : Type 0 where
  -- Z0 to Z31, P0 to P15 and FFR, at the current vector length
  pub registers : VectorRegisters
  -- ZA, S vectors of S bytes
  pub za : List (List ℕ)

-- all zero, outside streaming mode
unfoldable pub zero_bank : VecLen → VecLen → VectorState
zero_bank vl svl = record {
  registers = zero_registers (vector_bytes vl);
  za = zero_vectors (vector_bytes svl);
}
