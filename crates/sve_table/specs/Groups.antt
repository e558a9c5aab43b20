-- The instructions of the vector groups.
-- Source: DDI 0487, C4.1: the top-level encodings, of which SVE and SME have their own.
use Rattle.std.specs.Prelude.{Bool, true, false}
use Rattle.sm_types.specs.declared.insn.Insn.{Insn}
use Rattle.sm_types.specs.declared.insn.Insn.TheVariants as insn

-- the instruction is of a group of SVE or SME
unfoldable pub is_vector_group : Insn → Bool
is_vector_group (insn.VectorArithmetic it) = true
is_vector_group (insn.VectorLogical it) = true
is_vector_group (insn.PredicatedBinary it) = true
is_vector_group (insn.MultiplyAdd it) = true
is_vector_group (insn.PredicatedUnary it) = true
is_vector_group (insn.VectorShift it) = true
is_vector_group (insn.VectorCopy it) = true
is_vector_group (insn.VectorPermute it) = true
is_vector_group (insn.VectorReduction it) = true
is_vector_group (insn.VectorCompare it) = true
is_vector_group (insn.Predicate it) = true
is_vector_group (insn.PredicateCount it) = true
is_vector_group (insn.ElementCount it) = true
is_vector_group (insn.VectorAccess it) = true
is_vector_group (insn.Sve2 it) = true
is_vector_group (insn.Mode it) = true
is_vector_group (insn.ArrayAccess it) = true
is_vector_group (insn.TileAccess it) = true
is_vector_group (insn.TileMove it) = true
is_vector_group (insn.TileAdd it) = true
is_vector_group (insn.OuterProduct it) = true
is_vector_group (insn.StreamingLength it) = true
is_vector_group _ = false
