-- What a thread's vectors are, with their lengths and PSTATE.SM. Source: DDI 0487, B1.4 (SVE state, Streaming
-- SVE mode).
use Rattle.std.specs.Prelude.{ℕ, Bool, List, if◌then◌else◌}
use Rattle.std.specs.Bool.{beq}
use Rattle.sm_types.specs.declared.length.VecLen.{VecLen}
use Rattle.sve_vectors.specs.Lengths.{current_bytes}
use Rattle.sve_vectors.specs.Registers.{VectorRegisters, zero_registers, vector_written, predicate_written}
use Rattle.sve_vectors.specs.Registers.{ffr_written}

pub record SveState : Type 0 where
  pub vl : VecLen
  pub svl : VecLen
  -- PSTATE.SM
  pub streaming : Bool
  pub registers : VectorRegisters

-- L: the current vector length in bytes
abbrev pub length_of : SveState → ℕ
length_of s = current_bytes s.vl s.svl s.streaming

-- all registers zero, at the length of the mode
abbrev pub zero_state : VecLen → VecLen → Bool → SveState
zero_state vl svl streaming = record {
  vl = vl;
  svl = svl;
  streaming = streaming;
  registers = zero_registers (current_bytes vl svl streaming);
}

-- after a write to PSTATE.SM: a change sets every Z, P and FFR to zero, at the new length
abbrev pub with_streaming : SveState → Bool → SveState
with_streaming s on = if beq s.streaming on then s else zero_state s.vl s.svl on

-- with other registers, at the same lengths and in the same mode
abbrev pub with_registers : SveState → VectorRegisters → SveState
with_registers s registers = record s { registers = registers }

-- with one vector written
abbrev pub with_vector : SveState → ℕ → List ℕ → SveState
with_vector s n bytes = with_registers s (vector_written s.registers n bytes)

-- with one predicate written
abbrev pub with_predicate : SveState → ℕ → List Bool → SveState
with_predicate s n truths = with_registers s (predicate_written s.registers n truths)

-- with FFR written
abbrev pub with_ffr : SveState → List Bool → SveState
with_ffr s truths = with_registers s (ffr_written s.registers truths)
