-- The numbers of the operations: the code's own, by which an encoder finds an operation's row.
use Rattle.std.specs.Prelude.{ℕ, ◌+◌, ◌*◌}
use denote.Enum.Declared.{tag_of}
use Rattle.insn_forms.specs.Forms.{flag_bit}
use Rattle.sm_types.specs.contracts.vector as enums
use Rattle.sm_types.specs.contracts.matrix as matrix_enums
use Rattle.sve_table.specs.contracts.operation as operations
use Rattle.sve_table.specs.declared.operation as variants
use variants.VectorOperation.{VectorOperation}
use variants.VectorOperation.TheVariants.{G24, G25, G26, G27, G28, G29, G30, G31, G32, G33, G34, G35, G36}
use variants.VectorOperation.TheVariants.{G37, G38, G39, G40, G41, G42, G43, G44, G45}
use variants.CopyForm.{CopyForm}
use variants.CopyForm.TheVariants as copy
use variants.PermuteForm.{PermuteForm}
use variants.PermuteForm.TheVariants as permute
use variants.ReductionForm.{ReductionForm}
use variants.ReductionForm.TheVariants as reduction
use variants.CompareForm.{CompareForm}
use variants.CompareForm.TheVariants as compare
use variants.PredicateForm.{PredicateForm}
use variants.PredicateForm.TheVariants as predicate
use variants.CountForm.{CountForm}
use variants.CountForm.TheVariants as count
use variants.ElementForm.{ElementForm}
use variants.ElementForm.TheVariants as element
use variants.AccessForm.{AccessForm}
use variants.AccessForm.TheVariants as access
use variants.Sve2Form.{Sve2Form}
use variants.Sve2Form.TheVariants as sve2
use variants.ArrayForm.{ArrayForm}
use variants.ArrayForm.TheVariants as array
use variants.StreamingForm.{StreamingForm}
use variants.StreamingForm.TheVariants as streaming

-- the number of a copy, or an operation with an immediate within its group
unfoldable pub copy_number : CopyForm → ℕ
copy_number copy.Register = 0
copy_number copy.PredicatedRegister = 1
copy_number copy.Immediate = 2
copy_number copy.PredicatedImmediate = 3
copy_number (copy.Index start step) = 10 + 2 * flag_bit start + flag_bit step
copy_number (copy.AddImmediate op) = 20 + tag_of enums.AddImmediateOp.the_type op
copy_number copy.MultiplyImmediate = 4
copy_number copy.Select = 5
copy_number copy.Prefix = 6

-- the number of a permutation within its group
unfoldable pub permute_number : PermuteForm → ℕ
permute_number (permute.Interleave op) = 10 + tag_of enums.InterleaveOp.the_type op
permute_number permute.Reverse = 0
permute_number permute.Table = 1
permute_number permute.Extract = 2
permute_number (permute.Unpack signed high) = 20 + 2 * flag_bit signed + flag_bit high

-- the number of a reduction within its group
unfoldable pub reduction_number : ReductionForm → ℕ
reduction_number (reduction.Last active) = flag_bit active
reduction_number (reduction.Reduce op) = 10 + tag_of enums.ReductionOp.the_type op

-- the number of a comparison within its group
unfoldable pub compare_number : CompareForm → ℕ
compare_number (compare.Vectors op) = tag_of enums.CompareVectorsOp.the_type op
compare_number (compare.Immediate op) = 10 + tag_of enums.CompareImmediateOp.the_type op

-- the number of an operation on predicates within its group
unfoldable pub predicate_number : PredicateForm → ℕ
predicate_number predicate.True = 0
predicate_number predicate.False = 1
predicate_number predicate.Test = 2
predicate_number (predicate.Logical op) = 10 + tag_of enums.PredicateLogicalOp.the_type op

-- the number of a predicate of a loop or a number of active elements within its group
unfoldable pub count_number : CountForm → ℕ
count_number (count.While signed) = 10 + flag_bit signed
count_number count.Active = 0
count_number count.SetFfr = 1
count_number count.ReadFfr = 2
count_number count.WriteFfr = 3

-- the number of a number of elements within its group
unfoldable pub element_number : ElementForm → ℕ
element_number element.Count = 0
element_number (element.Change decrement) = 10 + flag_bit decrement
element_number element.Length = 1
element_number (element.AddLength predicate) = 20 + flag_bit predicate

-- the number of a load or store within its group
unfoldable pub access_number : AccessForm → ℕ
access_number access.LoadVectors = 0
access_number access.LoadRegister = 1
access_number access.StoreVectors = 2
access_number access.StoreBytes = 3
access_number access.StoreHalfwords = 4
access_number access.StoreWords = 5
access_number access.StoreDoublewords = 6
access_number (access.Vector store) = 10 + flag_bit store
access_number (access.Predicate store) = 20 + flag_bit store

-- the number of an operation of SVE2 within its group
unfoldable pub sve2_number : Sve2Form → ℕ
sve2_number (sve2.Multiply op) = tag_of enums.VectorMultiplyOp.the_type op
sve2_number (sve2.Ternary op) = 10 + tag_of enums.TernaryLogicalOp.the_type op
sve2_number (sve2.Widening op top) = 20 + tag_of enums.WideningOp.the_type op + 50 * flag_bit top

-- the number of an operation on whole vectors of ZA within its group
unfoldable pub array_number : ArrayForm → ℕ
array_number array.Zero = 0
array_number (array.Transfer store) = 10 + flag_bit store

-- the number of the streaming vector length within its group
unfoldable pub streaming_number : StreamingForm → ℕ
streaming_number streaming.Length = 0
streaming_number (streaming.AddLength predicate) = 10 + flag_bit predicate

-- the number of an operation: no two operations have one number
unfoldable pub number_of : VectorOperation → ℕ
number_of (G24 op) = 2400 + tag_of enums.VectorArithmeticOp.the_type op
number_of (G25 op) = 2500 + tag_of enums.VectorLogicalOp.the_type op
number_of (G26 op) = 2600 + tag_of enums.PredicatedBinaryOp.the_type op
number_of (G27 op) = 2700 + tag_of enums.MultiplyAddOp.the_type op
number_of (G28 op) = 2800 + tag_of enums.PredicatedUnaryOp.the_type op
number_of (G29 op size) =
    2900 + 10 * tag_of enums.VectorShiftOp.the_type op + tag_of operations.ShiftSize.the_type size
number_of (G30 form) = 3000 + copy_number form
number_of (G31 form) = 3100 + permute_number form
number_of (G32 form) = 3200 + reduction_number form
number_of (G33 form) = 3300 + compare_number form
number_of (G34 form) = 3400 + predicate_number form
number_of (G35 form) = 3500 + count_number form
number_of (G36 form) = 3600 + element_number form
number_of (G37 form) = 3700 + access_number form
number_of (G38 form) = 3800 + sve2_number form
number_of (G39 start part) = 3900 + 50 * flag_bit start + tag_of matrix_enums.ModePart.the_type part
number_of (G40 form) = 4000 + array_number form
number_of (G41 store size) = 4100 + 50 * flag_bit store + tag_of enums.Elem.the_type size
number_of (G42 to_tile size) = 4200 + 50 * flag_bit to_tile + tag_of enums.Elem.the_type size
number_of (G43 vertical wide) = 4300 + 50 * flag_bit vertical + flag_bit wide
number_of (G44 op wide) = 4400 + 50 * flag_bit wide + tag_of matrix_enums.OuterProductOp.the_type op
number_of (G45 form) = 4500 + streaming_number form
