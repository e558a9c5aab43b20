-- The conditions on the fields of an operation: no row stands for the words that do not meet them.
-- Source: DDI 0487, C8.2, the encodings that each instruction's page calls reserved or unallocated.
use Rattle.std.specs.Prelude.{ℕ, Bool, true, ◌&&◌, nat_lt, nat_le}
use Rattle.sm_types.specs.declared.vector.Elem.{Elem}
use Rattle.sm_types.specs.declared.vector.Elem.TheVariants.{H, S}
use Rattle.insn_forms.specs.declared.field.Field.{Field}
use Rattle.insn_forms.specs.Values.{is_one}
use Rattle.sve_table.specs.declared.fields.TheConstants.{ELEMENT_SIZE, MEMORY_SIZE, RM, SH, SIZE}
use Rattle.sve_table.specs.declared.operation as operations
use operations.VectorOperation.{VectorOperation}
use operations.VectorOperation.TheVariants.{G26, G28, G30, G31, G32, G37, G38}
use operations.CopyForm.TheVariants.{AddImmediate, Immediate, PredicatedImmediate}
use operations.PermuteForm.TheVariants.{Unpack}
use operations.ReductionForm.TheVariants.{Reduce}
use operations.AccessForm.TheVariants.{LoadRegister, StoreVectors, StoreBytes, StoreHalfwords, StoreWords}
use operations.AccessForm.TheVariants.{StoreDoublewords}
use operations.Sve2Form.TheVariants.{Widening}
use Rattle.sve_table.specs.Values.{elem_number}
use Rattle.sve_table.specs.Sizes.{least_binary, least_unary, least_shifted, widest_reduced}

-- the number is that of elements no narrower than these
unfoldable pub is_from : Elem → ℕ → Bool
is_from least number = nat_le (elem_number least) number

-- the number is that of elements no wider than these
unfoldable pub is_up_to : Elem → ℕ → Bool
is_up_to widest number = nat_le number (elem_number widest)

-- the register of an offset is not 31
unfoldable pub is_offset : ℕ → Bool
is_offset rm = nat_lt rm 31

-- the condition of an operation
unfoldable pub fits_of : VectorOperation → (Field → ℕ) → Bool
fits_of (G26 op) n = is_from (least_binary op) (n SIZE)
fits_of (G28 op) n = is_from (least_unary op) (n SIZE)
fits_of (G30 Immediate) n = is_from (least_shifted (is_one (n SH))) (n SIZE)
fits_of (G30 PredicatedImmediate) n = is_from (least_shifted (is_one (n SH))) (n SIZE)
fits_of (G30 (AddImmediate op)) n = is_from (least_shifted (is_one (n SH))) (n SIZE)
fits_of (G31 (Unpack signed high)) n = is_from H (n SIZE)
fits_of (G32 (Reduce op)) n = is_up_to (widest_reduced op) (n SIZE)
fits_of (G37 LoadRegister) n = is_offset (n RM)
fits_of (G37 StoreVectors) n = nat_le (n MEMORY_SIZE) (n ELEMENT_SIZE)
fits_of (G37 StoreBytes) n = is_offset (n RM)
fits_of (G37 StoreHalfwords) n = is_from H (n ELEMENT_SIZE) && is_offset (n RM)
fits_of (G37 StoreWords) n = is_from S (n ELEMENT_SIZE) && is_offset (n RM)
fits_of (G37 StoreDoublewords) n = is_offset (n RM)
fits_of (G38 (Widening op top)) n = is_from H (n SIZE)
fits_of operation n = true
