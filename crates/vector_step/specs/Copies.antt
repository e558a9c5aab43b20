-- The registers after a copy to a vector, or an operation with an immediate.
-- Source: DDI 0487, C8.2: the instructions that are named.
use Rattle.std.specs.Prelude.{ℕ, Bool, true, false, if◌then◌else◌, List}
use Rattle.sm_types.specs.declared.scalars.Scalars.{Scalars}
use Rattle.sm_types.specs.declared.vector as types
use types.{VectorCopy.VectorCopy, IndexPart.IndexPart}
use types.VectorCopy.TheVariants as copy
use types.IndexPart.TheVariants as part
use Rattle.vector_elements.specs.declared.size.Size.{Size}
use Rattle.vector_elements.specs.declared.size.Size.TheVariants.{D}
use Rattle.vector_elements.specs.Numbers.{wrapped}
use Rattle.sve_exec.specs.Copies.{duplicated, copied_merging, copied_zeroing, index_from, signed_immediate}
use Rattle.sve_exec.specs.Copies.{vector_add_immediate, vector_multiply_immediate, selected}
use Rattle.sve_vectors.specs.Registers.{VectorRegisters, vector_at, predicate_at, vector_written}
use Rattle.scalar_exec.specs.Registers.{x_of, x_or_sp}
use Rattle.vector_step.specs.Sizes.{element_size}

-- the start or the step of INDEX: an immediate in two's complement, or a register, where number 31 is zero
unfoldable pub part_value : IndexPart → Scalars → ℕ
part_value (part.Immediate imm) s = wrapped D imm
part_value (part.Register r) s = x_of s r

-- CPY: the active elements become a value; the others keep theirs where it is merging, and else become zero
abbrev pub copied_active : Bool → Size → ℕ → List ℕ → List ℕ → List ℕ
copied_active merging size value p d =
    if merging then copied_merging size value p d else copied_zeroing size value p d

-- whether it copies an immediate or operates with one; INDEX is apart, whose start and step may be either
abbrev pub is_of_immediate : VectorCopy → Bool
is_of_immediate (copy.Immediate size shifted imm zd) = true
is_of_immediate (copy.PredicatedImmediate size pg merging shifted imm zd) = true
is_of_immediate (copy.AddImmediate op size shifted imm zdn) = true
is_of_immediate (copy.MultiplyImmediate size imm zdn) = true
is_of_immediate _ = false

-- DUP, CPY (scalar): register 31 is SP; DUP, CPY (immediate); INDEX; ADD, SUB, SUBR, MUL (immediate); SEL
-- (vectors); MOVPRFX (unpredicated)
unfoldable pub after_copy : VectorCopy → Scalars → VectorRegisters → VectorRegisters
after_copy (copy.Register size rn zd) s r =
    vector_written r zd (duplicated (element_size size) (x_or_sp s rn) (vector_at r zd))
after_copy (copy.PredicatedRegister size pg rn zd) s r =
    vector_written r zd
    (copied_active true (element_size size) (x_or_sp s rn) (predicate_at r pg) (vector_at r zd))
after_copy (copy.Immediate size shifted imm zd) s r =
    vector_written r zd
    (duplicated (element_size size) (signed_immediate (element_size size) imm shifted) (vector_at r zd))
after_copy (copy.PredicatedImmediate size pg merging shifted imm zd) s r =
    vector_written r zd
    (copied_active merging (element_size size) (signed_immediate (element_size size) imm shifted)
    (predicate_at r pg) (vector_at r zd))
after_copy (copy.Index size start step zd) s r =
    vector_written r zd
    (index_from (element_size size) (part_value start s) (part_value step s) (vector_at r zd))
after_copy (copy.AddImmediate op size shifted imm zdn) s r =
    vector_written r zdn (vector_add_immediate op (element_size size) imm shifted (vector_at r zdn))
after_copy (copy.MultiplyImmediate size imm zdn) s r =
    vector_written r zdn (vector_multiply_immediate (element_size size) imm (vector_at r zdn))
after_copy (copy.Select size zm pg zn zd) s r =
    vector_written r zd
    (selected (element_size size) (predicate_at r pg) (vector_at r zn) (vector_at r zm))
after_copy (copy.Prefix zn zd) s r = vector_written r zd (vector_at r zn)
