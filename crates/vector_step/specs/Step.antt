-- The scalar and the vector registers after a vector instruction that accesses neither memory nor ZA, but for
-- PC. A vector has L bytes.
-- Source: DDI 0487, C8.2.
use Rattle.std.specs.Prelude.{ℕ, Bool, false}
use Rattle.sm_types.specs.declared.insn.Insn.{Insn}
use Rattle.sm_types.specs.declared.insn.Insn.TheVariants as insn
use Rattle.sve_table.specs.Groups.{is_vector_group}
use Rattle.sve_vectors.specs.Registers.{VectorRegisters}
use Rattle.vector_step.specs.Core.{VectorCore}
use Rattle.vector_step.specs.Vectors.{after_arithmetic, after_logical, after_binary, after_multiply_add}
use Rattle.vector_step.specs.Vectors.{after_unary, after_shift, after_sve2}
use Rattle.vector_step.specs.Copies.{after_copy}
use Rattle.vector_step.specs.Permutes.{after_permute, after_reduction}
use Rattle.vector_step.specs.Predicates.{after_compare, after_predicate, after_predicate_count}
use Rattle.vector_step.specs.Counts.{after_element_count}

-- the instruction reads and writes scalar and vector registers alone, in either mode: it is of a group of SVE
-- or SME, and accesses neither memory nor ZA, nor a mode, nor the streaming vector length
abbrev pub is_vector_computed : Insn → Bool
is_vector_computed (insn.VectorAccess x) = false
is_vector_computed (insn.Mode x) = false
is_vector_computed (insn.ArrayAccess x) = false
is_vector_computed (insn.TileAccess x) = false
is_vector_computed (insn.TileMove x) = false
is_vector_computed (insn.TileAdd x) = false
is_vector_computed (insn.OuterProduct x) = false
is_vector_computed (insn.StreamingLength x) = false
is_vector_computed other = is_vector_group other

-- with other vectors and predicates
abbrev pub of_registers : VectorCore → VectorRegisters → VectorCore
of_registers s registers = record s { registers = registers }

-- the registers after such an instruction; no other changes them here
unfoldable pub vector_step : ℕ → Insn → VectorCore → VectorCore
vector_step l (insn.VectorArithmetic x) s = of_registers s (after_arithmetic x s.registers)
vector_step l (insn.VectorLogical x) s = of_registers s (after_logical x s.registers)
vector_step l (insn.PredicatedBinary x) s = of_registers s (after_binary x s.registers)
vector_step l (insn.MultiplyAdd x) s = of_registers s (after_multiply_add x s.registers)
vector_step l (insn.PredicatedUnary x) s = of_registers s (after_unary x s.registers)
vector_step l (insn.VectorShift x) s = of_registers s (after_shift x s.registers)
vector_step l (insn.VectorCopy x) s = of_registers s (after_copy x s.scalars s.registers)
vector_step l (insn.VectorPermute x) s = of_registers s (after_permute x s.registers)
vector_step l (insn.VectorReduction x) s = after_reduction l x s
vector_step l (insn.VectorCompare x) s = after_compare l x s
vector_step l (insn.Predicate x) s = after_predicate l x s
vector_step l (insn.PredicateCount x) s = after_predicate_count l x s
vector_step l (insn.ElementCount x) s = record s { scalars = after_element_count l x s.scalars }
vector_step l (insn.Sve2 x) s = of_registers s (after_sve2 x s.registers)
vector_step l other s = s
