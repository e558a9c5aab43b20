-- The instruction of an operation, by the names of its fields: n is the number of a field without a sign, and
-- s in two's complement.
-- Source: DDI 0487, the encoding diagrams of C8.2 (SVE), C9.2 (SME) and C6.2 (smstart and smstop), and what
-- their pages decode of them.
use Rattle.std.specs.Prelude.{ℕ, ◌+◌, Bool, true, false, ℤ}
use Rattle.sm_types.specs.declared.insn.Insn.{Insn}
use Rattle.sm_types.specs.declared.insn.Insn.TheVariants as insn
use Rattle.sm_types.specs.declared.vector as types
use Rattle.sm_types.specs.declared.matrix as matrix
use types.{VectorCopy.VectorCopy, VectorPermute.VectorPermute, VectorReduction.VectorReduction}
use types.{VectorCompare.VectorCompare, Predicate.Predicate, PredicateCount.PredicateCount}
use types.{ElementCount.ElementCount, VectorAccess.VectorAccess, Sve2.Sve2, Elem.Elem}
use types.{PredicateLogicalOp.TheVariants.Sel}
use types.Elem.TheVariants.{B, H, S, D}
use types.IndexPart.TheVariants as part
use types.VectorOffset.TheVariants as vector_offset
use matrix.{ArrayAccess.ArrayAccess, StreamingLength.StreamingLength, TileSlice.TileSlice}
use types.VectorCopy.TheVariants as copy
use types.VectorPermute.TheVariants as permute
use types.VectorReduction.TheVariants as reduction
use types.VectorCompare.TheVariants as compare
use types.Predicate.TheVariants as predicate
use types.PredicateCount.TheVariants as count
use types.ElementCount.TheVariants as element
use types.VectorAccess.TheVariants as access
use types.Sve2.TheVariants as sve2
use matrix.ArrayAccess.TheVariants as array
use matrix.StreamingLength.TheVariants as streaming
use Rattle.insn_forms.specs.declared.field.Field.{Field}
use Rattle.insn_forms.specs.Values.{byte, is_one}
use Rattle.sve_table.specs.declared.fields.TheConstants.{ARRAY_OFFSET, COLUMN_PM, CPY_PG, DTYPE, ELEMENT_SIZE}
use Rattle.sve_table.specs.declared.fields.TheConstants.{EXT_IMM8, FLAGS, IMM4, IMM5, IMM5B, IMM6, IMM8, IMM9}
use Rattle.sve_table.specs.declared.fields.TheConstants.{MEMORY_SIZE, MERGING, MULTIPLIER, PATTERN, PD, PG}
use Rattle.sve_table.specs.declared.fields.TheConstants.{PG4, PM, PN, PT, RD, RM, RN, RN_HIGH, ROW_PN, RV, SF}
use Rattle.sve_table.specs.declared.fields.TheConstants.{SH, SIZE, SUBTRACT, VD, VERTICAL, ZD, ZDA, ZDN}
use Rattle.sve_table.specs.declared.fields.TheConstants.{ZERO_MASK, ZK, ZM, ZM_LOW, ZN, ZT}
use Rattle.sve_table.specs.declared.operation as operations
use operations.{CopyForm.CopyForm, PermuteForm.PermuteForm, ReductionForm.ReductionForm}
use operations.{CompareForm.CompareForm, PredicateForm.PredicateForm, CountForm.CountForm}
use operations.{ElementForm.ElementForm, AccessForm.AccessForm, Sve2Form.Sve2Form, ArrayForm.ArrayForm}
use operations.{StreamingForm.StreamingForm, VectorOperation.VectorOperation}
use operations.VectorOperation.TheVariants.{G24, G25, G26, G27, G28, G29, G30, G31, G32, G33, G34, G35, G36}
use operations.VectorOperation.TheVariants.{G37, G38, G39, G40, G41, G42, G43, G44, G45}
use operations.CopyForm.TheVariants as copy_form
use operations.PermuteForm.TheVariants as permute_form
use operations.ReductionForm.TheVariants as reduction_form
use operations.CompareForm.TheVariants as compare_form
use operations.PredicateForm.TheVariants as predicate_form
use operations.CountForm.TheVariants as count_form
use operations.ElementForm.TheVariants as element_form
use operations.AccessForm.TheVariants as access_form
use operations.Sve2Form.TheVariants as sve2_form
use operations.ArrayForm.TheVariants as array_form
use operations.StreamingForm.TheVariants as streaming_form
use Rattle.sve_table.specs.Values.{elem_of, load_type_of, shift_elem, shift_width, shift_amount, amount_field}
use Rattle.sve_table.specs.Values.{tile_field, offset_field, source_tile_field, source_offset_field}
use Rattle.sve_table.specs.Values.{sum_field}

-- the copies to vectors, and the operations with an immediate
unfoldable pub named_copy : CopyForm → (Field → ℕ) → (Field → ℤ) → VectorCopy
named_copy copy_form.Register n s = copy.Register (elem_of (n SIZE)) (byte (n RN)) (byte (n ZD))
named_copy copy_form.PredicatedRegister n s =
    copy.PredicatedRegister (elem_of (n SIZE)) (byte (n PG)) (byte (n RN)) (byte (n ZD))
named_copy copy_form.Immediate n s = copy.Immediate (elem_of (n SIZE)) (is_one (n SH)) (s IMM8) (byte (n ZD))
named_copy copy_form.PredicatedImmediate n s =
    copy.PredicatedImmediate (elem_of (n SIZE)) (byte (n CPY_PG)) (is_one (n MERGING)) (is_one (n SH))
    (s IMM8) (byte (n ZD))
named_copy (copy_form.Index false false) n s =
    copy.Index (elem_of (n SIZE)) (part.Immediate (s IMM5)) (part.Immediate (s IMM5B)) (byte (n ZD))
named_copy (copy_form.Index true false) n s =
    copy.Index (elem_of (n SIZE)) (part.Register (byte (n RN))) (part.Immediate (s IMM5B)) (byte (n ZD))
named_copy (copy_form.Index false true) n s =
    copy.Index (elem_of (n SIZE)) (part.Immediate (s IMM5)) (part.Register (byte (n RM))) (byte (n ZD))
named_copy (copy_form.Index true true) n s =
    copy.Index (elem_of (n SIZE)) (part.Register (byte (n RN))) (part.Register (byte (n RM))) (byte (n ZD))
named_copy (copy_form.AddImmediate op) n s =
    copy.AddImmediate op (elem_of (n SIZE)) (is_one (n SH)) (byte (n IMM8)) (byte (n ZDN))
named_copy copy_form.MultiplyImmediate n s = copy.MultiplyImmediate (elem_of (n SIZE)) (s IMM8) (byte (n ZDN))
named_copy copy_form.Select n s =
    copy.Select (elem_of (n SIZE)) (byte (n ZM)) (byte (n PG4)) (byte (n ZN)) (byte (n ZD))
named_copy copy_form.Prefix n s = copy.Prefix (byte (n ZN)) (byte (n ZD))

-- the permutations
unfoldable pub named_permute : PermuteForm → (Field → ℕ) → (Field → ℤ) → VectorPermute
named_permute (permute_form.Interleave op) n s =
    permute.Interleave op (elem_of (n SIZE)) (byte (n ZM)) (byte (n ZN)) (byte (n ZD))
named_permute permute_form.Reverse n s = permute.Reverse (elem_of (n SIZE)) (byte (n ZN)) (byte (n ZD))
named_permute permute_form.Table n s =
    permute.Table (elem_of (n SIZE)) (byte (n ZM)) (byte (n ZN)) (byte (n ZD))
named_permute permute_form.Extract n s = permute.Extract (byte (n EXT_IMM8)) (byte (n ZM_LOW)) (byte (n ZDN))
named_permute (permute_form.Unpack signed high) n s =
    permute.Unpack signed high (elem_of (n SIZE)) (byte (n ZN)) (byte (n ZD))

-- the reductions
unfoldable pub named_reduction : ReductionForm → (Field → ℕ) → (Field → ℤ) → VectorReduction
named_reduction (reduction_form.Last active) n s =
    reduction.Last active (elem_of (n SIZE)) (byte (n PG)) (byte (n ZN)) (byte (n RD))
named_reduction (reduction_form.Reduce op) n s =
    reduction.Reduce op (elem_of (n SIZE)) (byte (n PG)) (byte (n ZN)) (byte (n VD))

-- the comparisons
unfoldable pub named_compare : CompareForm → (Field → ℕ) → (Field → ℤ) → VectorCompare
named_compare (compare_form.Vectors op) n s =
    compare.Vectors op (elem_of (n SIZE)) (byte (n ZM)) (byte (n PG)) (byte (n ZN)) (byte (n PD))
named_compare (compare_form.Immediate op) n s =
    compare.Immediate op (elem_of (n SIZE)) (s IMM5B) (byte (n PG)) (byte (n ZN)) (byte (n PD))

-- the operations on predicates; a selection sets no flags
unfoldable pub named_predicate : PredicateForm → (Field → ℕ) → (Field → ℤ) → Predicate
named_predicate predicate_form.True n s = predicate.True (elem_of (n SIZE)) (byte (n PATTERN)) (byte (n PD))
named_predicate predicate_form.False n s = predicate.False (byte (n PD))
named_predicate predicate_form.Test n s = predicate.Test (byte (n PG4)) (byte (n PN))
named_predicate (predicate_form.Logical Sel) n s =
    predicate.Logical Sel false (byte (n PM)) (byte (n PG4)) (byte (n PN)) (byte (n PD))
named_predicate (predicate_form.Logical op) n s =
    predicate.Logical op (is_one (n FLAGS)) (byte (n PM)) (byte (n PG4)) (byte (n PN)) (byte (n PD))

-- the predicates of a loop, the number of active elements, and the first-fault register
unfoldable pub named_count : CountForm → (Field → ℕ) → (Field → ℤ) → PredicateCount
named_count (count_form.While signed) n s =
    count.While signed (is_one (n SF)) (elem_of (n SIZE)) (byte (n RM)) (byte (n RN)) (byte (n PD))
named_count count_form.Active n s = count.Active (elem_of (n SIZE)) (byte (n PG4)) (byte (n PN)) (byte (n RD))
named_count count_form.SetFfr n s = count.SetFfr
named_count count_form.ReadFfr n s = count.ReadFfr (byte (n PD))
named_count count_form.WriteFfr n s = count.WriteFfr (byte (n PN))

-- the numbers of elements; a multiplier is one more than its field
unfoldable pub named_element : ElementForm → (Field → ℕ) → (Field → ℤ) → ElementCount
named_element element_form.Count n s =
    element.Count (elem_of (n SIZE)) (byte (n PATTERN)) (1 + n MULTIPLIER) (byte (n RD))
named_element (element_form.Change decrement) n s =
    element.Change decrement (elem_of (n SIZE)) (byte (n PATTERN)) (1 + n MULTIPLIER) (byte (n RD))
named_element element_form.Length n s = element.Length (s IMM6) (byte (n RD))
named_element (element_form.AddLength predicate) n s =
    element.AddLength predicate (s IMM6) (byte (n RN_HIGH)) (byte (n RD))

-- the loads and stores of vectors and predicates
unfoldable pub named_access : AccessForm → (Field → ℕ) → (Field → ℤ) → VectorAccess
named_access access_form.LoadVectors n s =
    access.Load (load_type_of (n DTYPE)) (vector_offset.Vectors (s IMM4)) (byte (n PG)) (byte (n RN))
    (byte (n ZT))
named_access access_form.LoadRegister n s =
    access.Load (load_type_of (n DTYPE)) (vector_offset.Register (byte (n RM))) (byte (n PG)) (byte (n RN))
    (byte (n ZT))
named_access access_form.StoreVectors n s =
    access.Store (elem_of (n MEMORY_SIZE)) (elem_of (n ELEMENT_SIZE)) (vector_offset.Vectors (s IMM4))
    (byte (n PG)) (byte (n RN)) (byte (n ZT))
named_access access_form.StoreBytes n s =
    access.Store B (elem_of (n ELEMENT_SIZE)) (vector_offset.Register (byte (n RM))) (byte (n PG))
    (byte (n RN)) (byte (n ZT))
named_access access_form.StoreHalfwords n s =
    access.Store H (elem_of (n ELEMENT_SIZE)) (vector_offset.Register (byte (n RM))) (byte (n PG))
    (byte (n RN)) (byte (n ZT))
named_access access_form.StoreWords n s =
    access.Store S (elem_of (n ELEMENT_SIZE)) (vector_offset.Register (byte (n RM))) (byte (n PG))
    (byte (n RN)) (byte (n ZT))
named_access access_form.StoreDoublewords n s =
    access.Store D D (vector_offset.Register (byte (n RM))) (byte (n PG)) (byte (n RN)) (byte (n ZT))
named_access (access_form.Vector store) n s = access.Vector store (s IMM9) (byte (n RN)) (byte (n ZT))
named_access (access_form.Predicate store) n s = access.Predicate store (s IMM9) (byte (n RN)) (byte (n PT))

-- the operations of SVE2 without a predicate
unfoldable pub named_sve2 : Sve2Form → (Field → ℕ) → (Field → ℤ) → Sve2
named_sve2 (sve2_form.Multiply op) n s =
    sve2.Multiply op (elem_of (n SIZE)) (byte (n ZM)) (byte (n ZN)) (byte (n ZD))
named_sve2 (sve2_form.Ternary op) n s = sve2.Ternary op (byte (n ZM)) (byte (n ZK)) (byte (n ZDN))
named_sve2 (sve2_form.Widening op top) n s =
    sve2.Widening op top (elem_of (n SIZE)) (byte (n ZM)) (byte (n ZN)) (byte (n ZD))

-- the operations on whole vectors of ZA
unfoldable pub named_array : ArrayForm → (Field → ℕ) → (Field → ℤ) → ArrayAccess
named_array array_form.Zero n s = array.Zero (byte (n ZERO_MASK))
named_array (array_form.Transfer store) n s =
    array.Transfer store (12 + n RV) (byte (n ARRAY_OFFSET)) (byte (n RN))

-- the streaming vector length
unfoldable pub named_streaming : StreamingForm → (Field → ℕ) → (Field → ℤ) → StreamingLength
named_streaming streaming_form.Length n s = streaming.Length (s IMM6) (byte (n RD))
named_streaming (streaming_form.AddLength predicate) n s =
    streaming.AddLength predicate (s IMM6) (byte (n RN_HIGH)) (byte (n RD))

-- a slice of a tile, by the fields of its tile and of its number
unfoldable pub named_slice : Elem → Field → Field → (Field → ℕ) → TileSlice
named_slice size tile offset n = record {
  size = size;
  vertical = is_one (n VERTICAL);
  rv = 12 + n RV;
  tile = byte (n tile);
  offset = byte (n offset);
}

-- a slice that is moved from a vector, or to one
unfoldable pub moved_slice : Bool → Elem → (Field → ℕ) → TileSlice
moved_slice true size n = named_slice size (tile_field size) (offset_field size) n
moved_slice false size n = named_slice size (source_tile_field size) (source_offset_field size) n

-- the vector of a move
unfoldable pub moved_vector : Bool → Field
moved_vector true = ZN
moved_vector false = ZD

-- the instruction of an operation
unfoldable pub named : VectorOperation → (Field → ℕ) → (Field → ℤ) → Insn
named (G24 op) n s =
    insn.VectorArithmetic (record {
      op = op;
      size = elem_of (n SIZE);
      zm = byte (n ZM);
      zn = byte (n ZN);
      zd = byte (n ZD);
    })
named (G25 op) n s =
    insn.VectorLogical (record {
      op = op;
      zm = byte (n ZM);
      zn = byte (n ZN);
      zd = byte (n ZD);
    })
named (G26 op) n s =
    insn.PredicatedBinary (record {
      op = op;
      size = elem_of (n SIZE);
      pg = byte (n PG);
      zm = byte (n ZM_LOW);
      zdn = byte (n ZDN);
    })
named (G27 op) n s =
    insn.MultiplyAdd (record {
      op = op;
      size = elem_of (n SIZE);
      pg = byte (n PG);
      zm = byte (n ZM);
      zn = byte (n ZN);
      zda = byte (n ZDA);
    })
named (G28 op) n s =
    insn.PredicatedUnary (record {
      op = op;
      size = elem_of (n SIZE);
      pg = byte (n PG);
      zn = byte (n ZN);
      zd = byte (n ZD);
    })
named (G29 op size) n s =
    insn.VectorShift (record {
      op = op;
      size = shift_elem size;
      amount = shift_amount op (shift_width size) (n (amount_field size));
      zn = byte (n ZN);
      zd = byte (n ZD);
    })
named (G30 form) n s = insn.VectorCopy (named_copy form n s)
named (G31 form) n s = insn.VectorPermute (named_permute form n s)
named (G32 form) n s = insn.VectorReduction (named_reduction form n s)
named (G33 form) n s = insn.VectorCompare (named_compare form n s)
named (G34 form) n s = insn.Predicate (named_predicate form n s)
named (G35 form) n s = insn.PredicateCount (named_count form n s)
named (G36 form) n s = insn.ElementCount (named_element form n s)
named (G37 form) n s = insn.VectorAccess (named_access form n s)
named (G38 form) n s = insn.Sve2 (named_sve2 form n s)
named (G39 start part) n s = insn.Mode (record { start = start; part = part })
named (G40 form) n s = insn.ArrayAccess (named_array form n s)
named (G41 store size) n s =
    insn.TileAccess (record {
      store = store;
      slice = named_slice size (tile_field size) (offset_field size) n;
      pg = byte (n PG);
      rm = byte (n RM);
      rn = byte (n RN);
    })
named (G42 to_tile size) n s =
    insn.TileMove (record {
      to_tile = to_tile;
      slice = moved_slice to_tile size n;
      pg = byte (n PG);
      z = byte (n (moved_vector to_tile));
    })
named (G43 vertical wide) n s =
    insn.TileAdd (record {
      vertical = vertical;
      wide = wide;
      tile = byte (n (sum_field wide));
      pn = byte (n ROW_PN);
      pm = byte (n COLUMN_PM);
      zn = byte (n ZN);
    })
named (G44 op wide) n s =
    insn.OuterProduct (record {
      op = op;
      subtract = is_one (n SUBTRACT);
      wide = wide;
      tile = byte (n (sum_field wide));
      pn = byte (n ROW_PN);
      pm = byte (n COLUMN_PM);
      zn = byte (n ZN);
      zm = byte (n ZM);
    })
named (G45 form) n s = insn.StreamingLength (named_streaming form n s)
