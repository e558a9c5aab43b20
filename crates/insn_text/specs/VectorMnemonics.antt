-- The mnemonics of the operations of the vector rows.
-- Source: DDI 0487, C8.2, and C9.2 for SME, the name of each page; a load and a store have letters for the
-- sign
-- and the size of memory behind theirs, a count one for the elements, a widening operation one for those
-- that it uses, and a logical operation on predicates one for the flags.
use Rattle.std.specs.Prelude.{ℕ, ◌==◌, Bool, true, false, List, [], ◌∷◌, ◌++◌, codes, if◌then◌else◌}
use Rattle.sm_types.specs.declared.vector as types
use Rattle.sm_types.specs.declared.matrix as matrix
use types.VectorArithmeticOp.{VectorArithmeticOp}
use types.VectorArithmeticOp.TheVariants as arithmetic
use types.VectorLogicalOp.{VectorLogicalOp}
use types.VectorLogicalOp.TheVariants as logical
use types.PredicatedBinaryOp.{PredicatedBinaryOp}
use types.PredicatedBinaryOp.TheVariants as binary
use types.MultiplyAddOp.{MultiplyAddOp}
use types.MultiplyAddOp.TheVariants as multiply_add
use types.PredicatedUnaryOp.{PredicatedUnaryOp}
use types.PredicatedUnaryOp.TheVariants as unary
use types.VectorShiftOp.{VectorShiftOp}
use types.VectorShiftOp.TheVariants as shift
use types.AddImmediateOp.{AddImmediateOp}
use types.AddImmediateOp.TheVariants as immediate
use types.InterleaveOp.{InterleaveOp}
use types.InterleaveOp.TheVariants as interleave
use types.ReductionOp.{ReductionOp}
use types.ReductionOp.TheVariants as reduction
use types.CompareVectorsOp.{CompareVectorsOp}
use types.CompareVectorsOp.TheVariants as vectors
use types.CompareImmediateOp.{CompareImmediateOp}
use types.CompareImmediateOp.TheVariants as numbers
use types.PredicateLogicalOp.{PredicateLogicalOp}
use types.PredicateLogicalOp.TheVariants as predicate
use types.VectorMultiplyOp.{VectorMultiplyOp}
use types.VectorMultiplyOp.TheVariants as multiply
use types.TernaryLogicalOp.{TernaryLogicalOp}
use types.TernaryLogicalOp.TheVariants as ternary
use types.WideningOp.{WideningOp}
use types.WideningOp.TheVariants as widening
use types.Elem.{Elem}
use types.Elem.TheVariants.{B, H, S, D, Q}
use matrix.OuterProductOp.{OuterProductOp}
use matrix.OuterProductOp.TheVariants as product
use Rattle.insn_forms.specs.declared.field.Field.{Field}
use Rattle.sve_table.specs.declared.fields.TheConstants.{SIZE, FLAGS, DTYPE, MEMORY_SIZE, SUBTRACT}
use Rattle.sve_table.specs.declared.operation as operations
use operations.VectorOperation.{VectorOperation}
use operations.VectorOperation.TheVariants.{G24, G25, G26, G27, G28, G29, G30, G31, G32, G33, G34, G35, G36}
use operations.VectorOperation.TheVariants.{G37, G38, G39, G40, G41, G42, G43, G44, G45}
use operations.CopyForm.{CopyForm}
use operations.CopyForm.TheVariants as copy
use operations.PermuteForm.{PermuteForm}
use operations.PermuteForm.TheVariants as permute
use operations.ReductionForm.{ReductionForm}
use operations.ReductionForm.TheVariants as reduced
use operations.CompareForm.{CompareForm}
use operations.CompareForm.TheVariants as compare
use operations.PredicateForm.{PredicateForm}
use operations.PredicateForm.TheVariants as on_predicate
use operations.CountForm.{CountForm}
use operations.CountForm.TheVariants as count
use operations.ElementForm.{ElementForm}
use operations.ElementForm.TheVariants as element
use operations.AccessForm.{AccessForm}
use operations.AccessForm.TheVariants as access
use operations.Sve2Form.{Sve2Form}
use operations.Sve2Form.TheVariants as sve2
use operations.ArrayForm.{ArrayForm}
use operations.ArrayForm.TheVariants as array
use operations.StreamingForm.{StreamingForm}
use operations.StreamingForm.TheVariants as streaming
use Rattle.insn_text.specs.Mnemonics.{nth}

unfoldable pub arithmetic_name : VectorArithmeticOp → List ℕ
arithmetic_name arithmetic.Add = codes "add"
arithmetic_name arithmetic.Sub = codes "sub"
arithmetic_name arithmetic.Sqadd = codes "sqadd"
arithmetic_name arithmetic.Uqadd = codes "uqadd"
arithmetic_name arithmetic.Sqsub = codes "sqsub"
arithmetic_name arithmetic.Uqsub = codes "uqsub"

unfoldable pub vector_logical_name : VectorLogicalOp → List ℕ
vector_logical_name logical.And = codes "and"
vector_logical_name logical.Orr = codes "orr"
vector_logical_name logical.Eor = codes "eor"
vector_logical_name logical.Bic = codes "bic"

unfoldable pub binary_name : PredicatedBinaryOp → List ℕ
binary_name binary.Add = codes "add"
binary_name binary.Sub = codes "sub"
binary_name binary.Subr = codes "subr"
binary_name binary.Smax = codes "smax"
binary_name binary.Umax = codes "umax"
binary_name binary.Smin = codes "smin"
binary_name binary.Umin = codes "umin"
binary_name binary.Sabd = codes "sabd"
binary_name binary.Uabd = codes "uabd"
binary_name binary.Mul = codes "mul"
binary_name binary.Smulh = codes "smulh"
binary_name binary.Umulh = codes "umulh"
binary_name binary.Sdiv = codes "sdiv"
binary_name binary.Udiv = codes "udiv"
binary_name binary.Orr = codes "orr"
binary_name binary.Eor = codes "eor"
binary_name binary.And = codes "and"
binary_name binary.Bic = codes "bic"
binary_name binary.Asr = codes "asr"
binary_name binary.Lsr = codes "lsr"
binary_name binary.Lsl = codes "lsl"

unfoldable pub multiply_add_name : MultiplyAddOp → List ℕ
multiply_add_name multiply_add.Mla = codes "mla"
multiply_add_name multiply_add.Mls = codes "mls"

unfoldable pub unary_name : PredicatedUnaryOp → List ℕ
unary_name unary.Abs = codes "abs"
unary_name unary.Neg = codes "neg"
unary_name unary.Cls = codes "cls"
unary_name unary.Clz = codes "clz"
unary_name unary.Cnt = codes "cnt"
unary_name unary.Cnot = codes "cnot"
unary_name unary.Not = codes "not"
unary_name unary.Sxtb = codes "sxtb"
unary_name unary.Uxtb = codes "uxtb"
unary_name unary.Sxth = codes "sxth"
unary_name unary.Uxth = codes "uxth"
unary_name unary.Sxtw = codes "sxtw"
unary_name unary.Uxtw = codes "uxtw"

unfoldable pub vector_shift_name : VectorShiftOp → List ℕ
vector_shift_name shift.Asr = codes "asr"
vector_shift_name shift.Lsr = codes "lsr"
vector_shift_name shift.Lsl = codes "lsl"

unfoldable pub immediate_name : AddImmediateOp → List ℕ
immediate_name immediate.Add = codes "add"
immediate_name immediate.Sub = codes "sub"
immediate_name immediate.Subr = codes "subr"

unfoldable pub interleave_name : InterleaveOp → List ℕ
interleave_name interleave.Zip1 = codes "zip1"
interleave_name interleave.Zip2 = codes "zip2"
interleave_name interleave.Uzp1 = codes "uzp1"
interleave_name interleave.Uzp2 = codes "uzp2"
interleave_name interleave.Trn1 = codes "trn1"
interleave_name interleave.Trn2 = codes "trn2"

unfoldable pub reduction_name : ReductionOp → List ℕ
reduction_name reduction.Saddv = codes "saddv"
reduction_name reduction.Uaddv = codes "uaddv"
reduction_name reduction.Smaxv = codes "smaxv"
reduction_name reduction.Umaxv = codes "umaxv"
reduction_name reduction.Sminv = codes "sminv"
reduction_name reduction.Uminv = codes "uminv"
reduction_name reduction.Orv = codes "orv"
reduction_name reduction.Eorv = codes "eorv"
reduction_name reduction.Andv = codes "andv"

unfoldable pub compare_vectors_name : CompareVectorsOp → List ℕ
compare_vectors_name vectors.Hs = codes "cmphs"
compare_vectors_name vectors.Hi = codes "cmphi"
compare_vectors_name vectors.Ge = codes "cmpge"
compare_vectors_name vectors.Gt = codes "cmpgt"
compare_vectors_name vectors.Eq = codes "cmpeq"
compare_vectors_name vectors.Ne = codes "cmpne"

unfoldable pub compare_immediate_name : CompareImmediateOp → List ℕ
compare_immediate_name numbers.Ge = codes "cmpge"
compare_immediate_name numbers.Gt = codes "cmpgt"
compare_immediate_name numbers.Lt = codes "cmplt"
compare_immediate_name numbers.Le = codes "cmple"
compare_immediate_name numbers.Eq = codes "cmpeq"
compare_immediate_name numbers.Ne = codes "cmpne"

unfoldable pub predicate_name : PredicateLogicalOp → List ℕ
predicate_name predicate.And = codes "and"
predicate_name predicate.Bic = codes "bic"
predicate_name predicate.Eor = codes "eor"
predicate_name predicate.Sel = codes "sel"
predicate_name predicate.Orr = codes "orr"
predicate_name predicate.Orn = codes "orn"
predicate_name predicate.Nor = codes "nor"
predicate_name predicate.Nand = codes "nand"

unfoldable pub vector_multiply_name : VectorMultiplyOp → List ℕ
vector_multiply_name multiply.Mul = codes "mul"
vector_multiply_name multiply.Smulh = codes "smulh"
vector_multiply_name multiply.Umulh = codes "umulh"

unfoldable pub ternary_name : TernaryLogicalOp → List ℕ
ternary_name ternary.Eor3 = codes "eor3"
ternary_name ternary.Bcax = codes "bcax"
ternary_name ternary.Bsl = codes "bsl"

unfoldable pub widening_name : WideningOp → List ℕ
widening_name widening.Saddl = codes "saddl"
widening_name widening.Uaddl = codes "uaddl"
widening_name widening.Smull = codes "smull"
widening_name widening.Umull = codes "umull"
widening_name widening.Smlal = codes "smlal"
widening_name widening.Umlal = codes "umlal"

-- the letter of elements of 8, 16, 32 and 64 bits in a mnemonic
unfoldable pub element_letter : ℕ → List ℕ
element_letter size = nth (codes "b" ∷ codes "h" ∷ codes "w" ∷ codes "d" ∷ []) size

-- and that of a size
unfoldable pub elem_letter : Elem → List ℕ
elem_letter B = codes "b"
elem_letter H = codes "h"
elem_letter S = codes "w"
elem_letter D = codes "d"
elem_letter Q = codes "q"

unfoldable pub copy_name : CopyForm → List ℕ
copy_name copy.Register = codes "dup"
copy_name copy.PredicatedRegister = codes "cpy"
copy_name copy.Immediate = codes "dup"
copy_name copy.PredicatedImmediate = codes "cpy"
copy_name (copy.Index start step) = codes "index"
copy_name (copy.AddImmediate op) = immediate_name op
copy_name copy.MultiplyImmediate = codes "mul"
copy_name copy.Select = codes "sel"
copy_name copy.Prefix = codes "movprfx"

unfoldable pub permute_name : PermuteForm → List ℕ
permute_name (permute.Interleave op) = interleave_name op
permute_name permute.Reverse = codes "rev"
permute_name permute.Table = codes "tbl"
permute_name permute.Extract = codes "ext"
permute_name (permute.Unpack signed high) =
    (if signed then codes "s" else codes "u") ++ codes "unpk" ++ (if high then codes "hi" else codes "lo")

unfoldable pub reduced_name : ReductionForm → List ℕ
reduced_name (reduced.Last active) = if active then codes "lastb" else codes "lasta"
reduced_name (reduced.Reduce op) = reduction_name op

unfoldable pub comparison_name : CompareForm → List ℕ
comparison_name (compare.Vectors op) = compare_vectors_name op
comparison_name (compare.Immediate op) = compare_immediate_name op

unfoldable pub predicate_form_name : PredicateForm → ℕ → List ℕ
predicate_form_name on_predicate.True flags = codes "ptrue"
predicate_form_name on_predicate.False flags = codes "pfalse"
predicate_form_name on_predicate.Test flags = codes "ptest"
predicate_form_name (on_predicate.Logical predicate.Sel) flags = codes "sel"
predicate_form_name (on_predicate.Logical op) flags =
    predicate_name op ++ (if flags == 1 then codes "s" else [])

unfoldable pub count_name : CountForm → List ℕ
count_name (count.While signed) = if signed then codes "whilelt" else codes "whilelo"
count_name count.Active = codes "cntp"
count_name count.SetFfr = codes "setffr"
count_name count.ReadFfr = codes "rdffr"
count_name count.WriteFfr = codes "wrffr"

unfoldable pub element_name : ElementForm → ℕ → List ℕ
element_name element.Count size = codes "cnt" ++ element_letter size
element_name (element.Change down) size = (if down then codes "dec" else codes "inc") ++ element_letter size
element_name element.Length size = codes "rdvl"
element_name (element.AddLength of_predicate) size = if of_predicate then codes "addpl" else codes "addvl"

-- the sign and the size of memory that a load has by its sort, and the size of its elements
unfoldable pub memory_letters : ℕ → List ℕ
memory_letters dtype =
    nth (codes "b" ∷ codes "b" ∷ codes "b" ∷ codes "b" ∷ codes "sw" ∷ codes "h" ∷ codes "h" ∷ codes "h"
    ∷ codes "sh" ∷ codes "sh" ∷ codes "w" ∷ codes "w" ∷ codes "sb" ∷ codes "sb" ∷ codes "sb" ∷ codes "d" ∷ [])
    dtype

unfoldable pub transfer_name : Bool → List ℕ
transfer_name store = if store then codes "str" else codes "ldr"

unfoldable pub vector_access_name : AccessForm → ℕ → ℕ → List ℕ
vector_access_name access.LoadVectors dtype memory = codes "ld1" ++ memory_letters dtype
vector_access_name access.LoadRegister dtype memory = codes "ld1" ++ memory_letters dtype
vector_access_name access.StoreVectors dtype memory = codes "st1" ++ element_letter memory
vector_access_name access.StoreBytes dtype memory = codes "st1b"
vector_access_name access.StoreHalfwords dtype memory = codes "st1h"
vector_access_name access.StoreWords dtype memory = codes "st1w"
vector_access_name access.StoreDoublewords dtype memory = codes "st1d"
vector_access_name (access.Vector store) dtype memory = transfer_name store
vector_access_name (access.Predicate store) dtype memory = transfer_name store

unfoldable pub sve2_name : Sve2Form → List ℕ
sve2_name (sve2.Multiply op) = vector_multiply_name op
sve2_name (sve2.Ternary op) = ternary_name op
sve2_name (sve2.Widening op top) = widening_name op ++ (if top then codes "t" else codes "b")

unfoldable pub array_name : ArrayForm → List ℕ
array_name array.Zero = codes "zero"
array_name (array.Transfer store) = transfer_name store

-- the signs of the two sources
unfoldable pub signs_name : OuterProductOp → List ℕ
signs_name product.Smopa = codes "s"
signs_name product.Sumopa = codes "su"
signs_name product.Usmopa = codes "us"
signs_name product.Umopa = codes "u"

unfoldable pub streaming_name : StreamingForm → List ℕ
streaming_name streaming.Length = codes "rdsvl"
streaming_name (streaming.AddLength of_predicate) = if of_predicate then codes "addspl" else codes "addsvl"

-- the mnemonic of a vector operation, by the numbers of the fields that tell its sizes, flags and sign
unfoldable pub vector_mnemonic_of : VectorOperation → (Field → ℕ) → List ℕ
vector_mnemonic_of (G24 op) n = arithmetic_name op
vector_mnemonic_of (G25 op) n = vector_logical_name op
vector_mnemonic_of (G26 op) n = binary_name op
vector_mnemonic_of (G27 op) n = multiply_add_name op
vector_mnemonic_of (G28 op) n = unary_name op
vector_mnemonic_of (G29 op size) n = vector_shift_name op
vector_mnemonic_of (G30 form) n = copy_name form
vector_mnemonic_of (G31 form) n = permute_name form
vector_mnemonic_of (G32 form) n = reduced_name form
vector_mnemonic_of (G33 form) n = comparison_name form
vector_mnemonic_of (G34 form) n = predicate_form_name form (n FLAGS)
vector_mnemonic_of (G35 form) n = count_name form
vector_mnemonic_of (G36 form) n = element_name form (n SIZE)
vector_mnemonic_of (G37 form) n = vector_access_name form (n DTYPE) (n MEMORY_SIZE)
vector_mnemonic_of (G38 form) n = sve2_name form
vector_mnemonic_of (G39 start part) n = if start then codes "smstart" else codes "smstop"
vector_mnemonic_of (G40 form) n = array_name form
vector_mnemonic_of (G41 store size) n = (if store then codes "st1" else codes "ld1") ++ elem_letter size
vector_mnemonic_of (G42 to_tile size) n = codes "mova"
vector_mnemonic_of (G43 by_row wide) n = if by_row then codes "addva" else codes "addha"
vector_mnemonic_of (G44 op wide) n =
    signs_name op ++ codes "mop" ++ (if n SUBTRACT == 1 then codes "s" else codes "a")
vector_mnemonic_of (G45 form) n = streaming_name form
