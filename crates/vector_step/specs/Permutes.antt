-- The registers after a permutation or a reduction. A vector has L bytes.
-- Source: DDI 0487, C8.2: the instructions that are named.
use Rattle.std.specs.Prelude.{ℕ}
use Rattle.sm_types.specs.declared.vector as types
use types.{VectorPermute.VectorPermute, VectorReduction.VectorReduction}
use types.VectorPermute.TheVariants as permute
use types.VectorReduction.TheVariants as reduction
use Rattle.sve_vectors.specs.Registers.{VectorRegisters, vector_at, predicate_at, vector_written}
use Rattle.sve_perm.specs.Permute.{interleaved, reversed, table_of, extracted, unpacked}
use Rattle.sve_perm.specs.Active.{last_element_of}
use Rattle.sve_perm.specs.Reduce.{reduced, scalar_vector}
use Rattle.scalar_exec.specs.Registers.{with_x}
use Rattle.vector_step.specs.Core.{VectorCore}
use Rattle.vector_step.specs.Sizes.{element_size}

-- ZIP1 to TRN2; REV; TBL; EXT; SUNPKLO to UUNPKHI
unfoldable pub after_permute : VectorPermute → VectorRegisters → VectorRegisters
after_permute (permute.Interleave op size zm zn zd) r =
    vector_written r zd (interleaved op (element_size size) (vector_at r zn) (vector_at r zm))
after_permute (permute.Reverse size zn zd) r =
    vector_written r zd (reversed (element_size size) (vector_at r zn))
after_permute (permute.Table size zm zn zd) r =
    vector_written r zd (table_of (element_size size) (vector_at r zn) (vector_at r zm))
after_permute (permute.Extract amount zm zdn) r =
    vector_written r zdn (extracted amount (vector_at r zdn) (vector_at r zm))
after_permute (permute.Unpack is_signed high size zn zd) r =
    vector_written r zd (unpacked is_signed high (element_size size) (vector_at r zn))

-- LASTA, LASTB (scalar); SADDV to ANDV, in the low part of a vector
unfoldable pub after_reduction : ℕ → VectorReduction → VectorCore → VectorCore
after_reduction l (reduction.Last active size pg zn rd) s =
    record s {
      scalars = with_x s.scalars rd (last_element_of active (element_size size)
          (predicate_at s.registers pg) (vector_at s.registers zn));
    }
after_reduction l (reduction.Reduce op size pg zn vd) s =
    record s {
      registers = vector_written s.registers vd (scalar_vector l
          (reduced op (element_size size) (predicate_at s.registers pg) (vector_at s.registers zn)));
    }
