-- What the vector instructions that do not access memory read and write.
use Rattle.sm_types.specs.declared.scalars.Scalars.{Scalars}
use Rattle.sve_vectors.specs.Registers.{VectorRegisters}
use Rattle.sve_vectors.specs.State.{SveState}

pub record VectorCore : Type 0 where
  pub scalars : Scalars
  pub registers : VectorRegisters

-- those of some scalar registers and a state of the vectors
abbrev pub core_of : Scalars → SveState → VectorCore
core_of scalars s = record { scalars = scalars; registers = s.registers }
