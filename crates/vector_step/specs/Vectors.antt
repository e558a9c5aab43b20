-- The registers after an operation on vectors.
-- Source: DDI 0487, C8.2: the instructions that are named.
use Rattle.sm_types.specs.declared.vector as types
use types.{VectorArithmetic.VectorArithmetic, VectorLogical.VectorLogical, PredicatedBinary.PredicatedBinary}
use types.{MultiplyAdd.MultiplyAdd, PredicatedUnary.PredicatedUnary, VectorShift.VectorShift, Sve2.Sve2}
use types.Sve2.TheVariants.{Multiply, Ternary, Widening}
use Rattle.sve_exec.specs.Arithmetic.{vector_arithmetic}
use Rattle.sve_exec.specs.Logical.{vector_logical}
use Rattle.sve_exec.specs.Binary.{predicated_binary}
use Rattle.sve_exec.specs.MultiplyAdd.{multiply_add}
use Rattle.sve_exec.specs.Unary.{predicated_unary}
use Rattle.sve_exec.specs.Shift.{vector_shift}
use Rattle.sve_exec.specs.Multiply.{vector_multiply}
use Rattle.sve_exec.specs.Ternary.{vector_ternary}
use Rattle.sve_exec.specs.Widening.{vector_widening}
use Rattle.sve_vectors.specs.Registers.{VectorRegisters, vector_at, predicate_at, vector_written}
use Rattle.vector_step.specs.Sizes.{element_size}

-- ADD, SUB, SQADD, UQADD, SQSUB, UQSUB (vectors, unpredicated)
unfoldable pub after_arithmetic : VectorArithmetic → VectorRegisters → VectorRegisters
after_arithmetic x r =
    vector_written r x.zd
    (vector_arithmetic x.op (element_size x.size) (vector_at r x.zn) (vector_at r x.zm))

-- AND, ORR, EOR, BIC (vectors, unpredicated)
unfoldable pub after_logical : VectorLogical → VectorRegisters → VectorRegisters
after_logical x r = vector_written r x.zd (vector_logical x.op (vector_at r x.zn) (vector_at r x.zm))

-- ADD to LSL (vectors, predicated)
unfoldable pub after_binary : PredicatedBinary → VectorRegisters → VectorRegisters
after_binary x r =
    vector_written r x.zdn
    (predicated_binary x.op (element_size x.size) (predicate_at r x.pg) (vector_at r x.zdn)
    (vector_at r x.zm))

-- MLA, MLS (vectors)
unfoldable pub after_multiply_add : MultiplyAdd → VectorRegisters → VectorRegisters
after_multiply_add x r =
    vector_written r x.zda
    (multiply_add x.op (element_size x.size) (predicate_at r x.pg) (vector_at r x.zda) (vector_at r x.zn)
    (vector_at r x.zm))

-- ABS to UXTW (predicated)
unfoldable pub after_unary : PredicatedUnary → VectorRegisters → VectorRegisters
after_unary x r =
    vector_written r x.zd
    (predicated_unary x.op (element_size x.size) (predicate_at r x.pg) (vector_at r x.zd) (vector_at r x.zn))

-- ASR, LSR, LSL (immediate, unpredicated)
unfoldable pub after_shift : VectorShift → VectorRegisters → VectorRegisters
after_shift x r =
    vector_written r x.zd (vector_shift x.op (element_size x.size) x.amount (vector_at r x.zn))

-- MUL (vectors, unpredicated), SMULH, UMULH; EOR3, BCAX, BSL; SADDLB to UMLALT
unfoldable pub after_sve2 : Sve2 → VectorRegisters → VectorRegisters
after_sve2 (Multiply op size zm zn zd) r =
    vector_written r zd (vector_multiply op (element_size size) (vector_at r zn) (vector_at r zm))
after_sve2 (Ternary op zm zk zdn) r =
    vector_written r zdn (vector_ternary op (vector_at r zdn) (vector_at r zm) (vector_at r zk))
after_sve2 (Widening op top size zm zn zd) r =
    vector_written r zd
    (vector_widening op top (element_size size) (vector_at r zd) (vector_at r zn) (vector_at r zm))
