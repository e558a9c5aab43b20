-- The operation of an instruction and the numbers of its row's fields, in the order of the row: the code's
-- own, by which an encoder finds the word. None where no row has the operation: for the scalar instructions,
-- shifts of 128 bits, a selection that sets flags, and a store by a register of 128 bits, or of doublewords
-- from narrower elements.
use Rattle.std.specs.Prelude.{ℕ, ◌-◌, ◌^◌, Bool, true, false, nat_le, if◌then◌else◌, List, [], ◌∷◌, Option}
use Rattle.std.specs.Prelude.{Some, None}
use Rattle.insn_forms.specs.declared.number.Number.{Number}
use Rattle.insn_forms.specs.declared.number.Number.TheVariants.{Unsigned, Signed}
use Rattle.insn_forms.specs.declared.number.Parts.{Parts}
use Rattle.insn_forms.specs.Forms.{flag_number, padded, unsigned}
use Rattle.sm_types.specs.declared.insn.Insn.{Insn}
use Rattle.sm_types.specs.declared.insn.Insn.TheVariants as insn
use Rattle.sm_types.specs.declared.vector as types
use Rattle.sm_types.specs.declared.matrix as matrix
use types.{VectorCopy.VectorCopy, VectorPermute.VectorPermute, VectorReduction.VectorReduction}
use types.{VectorCompare.VectorCompare, Predicate.Predicate, PredicateCount.PredicateCount}
use types.{ElementCount.ElementCount, VectorAccess.VectorAccess, Sve2.Sve2, Elem.Elem}
use types.{PredicateLogicalOp.TheVariants.Sel, VectorShift.VectorShift, VectorShiftOp.VectorShiftOp}
use types.{VectorShiftOp.TheVariants.Lsl}
use types.Elem.TheVariants.{B, H, S, D, Q}
use types.IndexPart.TheVariants as part
use types.VectorOffset.TheVariants as vector_offset
use matrix.{ArrayAccess.ArrayAccess, StreamingLength.StreamingLength, TileSlice.TileSlice, TileMove.TileMove}
use types.VectorCopy.TheVariants as copy
use types.VectorPermute.TheVariants as permute
use types.VectorReduction.TheVariants as reduction
use types.VectorCompare.TheVariants as compare
use types.Predicate.TheVariants as predicate
use types.PredicateCount.TheVariants as count
use types.ElementCount.TheVariants as element
use types.VectorAccess.TheVariants as access
use types.Sve2.TheVariants as sve2
use matrix.ArrayAccess.TheVariants as array
use matrix.StreamingLength.TheVariants as streaming
use Rattle.sve_table.specs.declared.operation as operations
use operations.VectorOperation.{VectorOperation}
use operations.VectorOperation.TheVariants.{G24, G25, G26, G27, G28, G29, G30, G31, G32, G33, G34, G35, G36}
use operations.VectorOperation.TheVariants.{G37, G38, G39, G40, G41, G42, G43, G44, G45}
use operations.ShiftSize.TheVariants as shift
use operations.CopyForm.TheVariants as copy_form
use operations.PermuteForm.TheVariants as permute_form
use operations.ReductionForm.TheVariants as reduction_form
use operations.CompareForm.TheVariants as compare_form
use operations.PredicateForm.TheVariants as predicate_form
use operations.CountForm.TheVariants as count_form
use operations.ElementForm.TheVariants as element_form
use operations.AccessForm.TheVariants as access_form
use operations.Sve2Form.TheVariants as sve2_form
use operations.ArrayForm.TheVariants as array_form
use operations.StreamingForm.TheVariants as streaming_form
use Rattle.sve_table.specs.Values.{elem_number, load_type_number}

abbrev pub says : VectorOperation → List Number → Option (Parts VectorOperation)
says op ns = Some (record { operation = op; numbers = padded 8 ns })

-- the number in a field of so many bits that counts from `least` on; below it, one that the field cannot have
unfoldable pub number_from : ℕ → ℕ → ℕ → ℕ
number_from least bits it = if nat_le least it then it - least else 2 ^ bits

-- the number of a shift's amount: to the right it is less than the width; else one that the field cannot have
unfoldable pub shift_number : VectorShiftOp → ℕ → ℕ → ℕ
shift_number Lsl width amount = amount
shift_number _ width amount = if nat_le amount width then width - amount else width

-- a shift, by its elements
unfoldable pub shift_parts : VectorShift → Elem → Option (Parts VectorOperation)
shift_parts x B = says (G29 x.op shift.B) (unsigned (x.zd ∷ x.zn ∷ shift_number x.op 8 x.amount ∷ []))
shift_parts x H = says (G29 x.op shift.H) (unsigned (x.zd ∷ x.zn ∷ shift_number x.op 16 x.amount ∷ []))
shift_parts x S = says (G29 x.op shift.S) (unsigned (x.zd ∷ x.zn ∷ shift_number x.op 32 x.amount ∷ []))
shift_parts x D = says (G29 x.op shift.D) (unsigned (x.zd ∷ x.zn ∷ shift_number x.op 64 x.amount ∷ []))
shift_parts x Q = None

-- the groups whose instructions have several forms
unfoldable pub copy_parts : VectorCopy → Option (Parts VectorOperation)
copy_parts (copy.Register size rn zd) =
    says (G30 copy_form.Register) (unsigned (elem_number size ∷ zd ∷ rn ∷ []))
copy_parts (copy.PredicatedRegister size pg rn zd) =
    says (G30 copy_form.PredicatedRegister) (unsigned (elem_number size ∷ zd ∷ pg ∷ rn ∷ []))
copy_parts (copy.Immediate size shifted imm zd) =
    says (G30 copy_form.Immediate)
    (Unsigned (elem_number size) ∷ Unsigned zd ∷ Signed imm ∷ flag_number shifted ∷ [])
copy_parts (copy.PredicatedImmediate size pg merging shifted imm zd) =
    says (G30 copy_form.PredicatedImmediate)
    (Unsigned (elem_number size) ∷ Unsigned zd ∷ Unsigned pg ∷ flag_number merging
    ∷ Signed imm ∷ flag_number shifted ∷ [])
copy_parts (copy.Index size (part.Immediate start) (part.Immediate step) zd) =
    says (G30 (copy_form.Index false false))
    (Unsigned (elem_number size) ∷ Unsigned zd ∷ Signed start ∷ Signed step ∷ [])
copy_parts (copy.Index size (part.Register start) (part.Immediate step) zd) =
    says (G30 (copy_form.Index true false))
    (Unsigned (elem_number size) ∷ Unsigned zd ∷ Unsigned start ∷ Signed step ∷ [])
copy_parts (copy.Index size (part.Immediate start) (part.Register step) zd) =
    says (G30 (copy_form.Index false true))
    (Unsigned (elem_number size) ∷ Unsigned zd ∷ Signed start ∷ Unsigned step ∷ [])
copy_parts (copy.Index size (part.Register start) (part.Register step) zd) =
    says (G30 (copy_form.Index true true)) (unsigned (elem_number size ∷ zd ∷ start ∷ step ∷ []))
copy_parts (copy.AddImmediate op size shifted imm zdn) =
    says (G30 (copy_form.AddImmediate op))
    (Unsigned (elem_number size) ∷ Unsigned zdn ∷ Unsigned imm ∷ flag_number shifted ∷ [])
copy_parts (copy.MultiplyImmediate size imm zdn) =
    says (G30 copy_form.MultiplyImmediate) (Unsigned (elem_number size) ∷ Unsigned zdn ∷ Signed imm ∷ [])
copy_parts (copy.Select size zm pg zn zd) =
    says (G30 copy_form.Select) (unsigned (elem_number size ∷ zd ∷ pg ∷ zn ∷ zm ∷ []))
copy_parts (copy.Prefix zn zd) = says (G30 copy_form.Prefix) (unsigned (zd ∷ zn ∷ []))

unfoldable pub permute_parts : VectorPermute → Option (Parts VectorOperation)
permute_parts (permute.Interleave op size zm zn zd) =
    says (G31 (permute_form.Interleave op)) (unsigned (elem_number size ∷ zd ∷ zn ∷ zm ∷ []))
permute_parts (permute.Reverse size zn zd) =
    says (G31 permute_form.Reverse) (unsigned (elem_number size ∷ zd ∷ zn ∷ []))
permute_parts (permute.Table size zm zn zd) =
    says (G31 permute_form.Table) (unsigned (elem_number size ∷ zd ∷ zn ∷ zm ∷ []))
permute_parts (permute.Extract amount zm zdn) =
    says (G31 permute_form.Extract) (unsigned (zdn ∷ zm ∷ amount ∷ []))
permute_parts (permute.Unpack signed high size zn zd) =
    says (G31 (permute_form.Unpack signed high)) (unsigned (elem_number size ∷ zd ∷ zn ∷ []))

unfoldable pub reduction_parts : VectorReduction → Option (Parts VectorOperation)
reduction_parts (reduction.Last active size pg zn rd) =
    says (G32 (reduction_form.Last active)) (unsigned (elem_number size ∷ rd ∷ pg ∷ zn ∷ []))
reduction_parts (reduction.Reduce op size pg zn vd) =
    says (G32 (reduction_form.Reduce op)) (unsigned (elem_number size ∷ vd ∷ pg ∷ zn ∷ []))

unfoldable pub compare_parts : VectorCompare → Option (Parts VectorOperation)
compare_parts (compare.Vectors op size zm pg zn pd) =
    says (G33 (compare_form.Vectors op)) (unsigned (elem_number size ∷ pd ∷ pg ∷ zn ∷ zm ∷ []))
compare_parts (compare.Immediate op size imm pg zn pd) =
    says (G33 (compare_form.Immediate op))
    (Unsigned (elem_number size) ∷ Unsigned pd ∷ Unsigned pg ∷ Unsigned zn ∷ Signed imm ∷ [])

unfoldable pub predicate_parts : Predicate → Option (Parts VectorOperation)
predicate_parts (predicate.True size pattern pd) =
    says (G34 predicate_form.True) (unsigned (elem_number size ∷ pd ∷ pattern ∷ []))
predicate_parts (predicate.False pd) = says (G34 predicate_form.False) (Unsigned pd ∷ [])
predicate_parts (predicate.Test pg pn) = says (G34 predicate_form.Test) (unsigned (pg ∷ pn ∷ []))
predicate_parts (predicate.Logical Sel false pm pg pn pd) =
    says (G34 (predicate_form.Logical Sel)) (unsigned (pd ∷ pg ∷ pn ∷ pm ∷ []))
predicate_parts (predicate.Logical Sel true pm pg pn pd) = None
predicate_parts (predicate.Logical op flags pm pg pn pd) =
    says (G34 (predicate_form.Logical op)) (flag_number flags ∷ unsigned (pd ∷ pg ∷ pn ∷ pm ∷ []))

unfoldable pub count_parts : PredicateCount → Option (Parts VectorOperation)
count_parts (count.While signed wide size rm rn pd) =
    says (G35 (count_form.While signed)) (flag_number wide ∷ unsigned (elem_number size ∷ pd ∷ rn ∷ rm ∷ []))
count_parts (count.Active size pg pn rd) =
    says (G35 count_form.Active) (unsigned (elem_number size ∷ rd ∷ pg ∷ pn ∷ []))
count_parts count.SetFfr = says (G35 count_form.SetFfr) []
count_parts (count.ReadFfr pd) = says (G35 count_form.ReadFfr) (Unsigned pd ∷ [])
count_parts (count.WriteFfr pn) = says (G35 count_form.WriteFfr) (Unsigned pn ∷ [])

unfoldable pub element_parts : ElementCount → Option (Parts VectorOperation)
element_parts (element.Count size pattern multiplier rd) =
    says (G36 element_form.Count)
    (unsigned (elem_number size ∷ rd ∷ pattern ∷ number_from 1 4 multiplier ∷ []))
element_parts (element.Change decrement size pattern multiplier rd) =
    says (G36 (element_form.Change decrement))
    (unsigned (elem_number size ∷ rd ∷ pattern ∷ number_from 1 4 multiplier ∷ []))
element_parts (element.Length imm rd) = says (G36 element_form.Length) (Unsigned rd ∷ Signed imm ∷ [])
element_parts (element.AddLength predicate imm rn rd) =
    says (G36 (element_form.AddLength predicate)) (Unsigned rd ∷ Unsigned rn ∷ Signed imm ∷ [])

unfoldable pub access_parts : VectorAccess → Option (Parts VectorOperation)
access_parts (access.Load kind (vector_offset.Vectors offset) pg rn zt) =
    says (G37 access_form.LoadVectors)
    (Unsigned (load_type_number kind) ∷ Unsigned zt ∷ Unsigned pg ∷ Unsigned rn ∷ Signed offset ∷ [])
access_parts (access.Load kind (vector_offset.Register rm) pg rn zt) =
    says (G37 access_form.LoadRegister) (unsigned (load_type_number kind ∷ zt ∷ pg ∷ rn ∷ rm ∷ []))
access_parts (access.Store memory element (vector_offset.Vectors offset) pg rn zt) =
    says (G37 access_form.StoreVectors)
    (Unsigned (elem_number memory) ∷ Unsigned (elem_number element) ∷ Unsigned zt ∷ Unsigned pg
    ∷ Unsigned rn ∷ Signed offset ∷ [])
access_parts (access.Store B element (vector_offset.Register rm) pg rn zt) =
    says (G37 access_form.StoreBytes) (unsigned (elem_number element ∷ zt ∷ pg ∷ rn ∷ rm ∷ []))
access_parts (access.Store H element (vector_offset.Register rm) pg rn zt) =
    says (G37 access_form.StoreHalfwords) (unsigned (elem_number element ∷ zt ∷ pg ∷ rn ∷ rm ∷ []))
access_parts (access.Store S element (vector_offset.Register rm) pg rn zt) =
    says (G37 access_form.StoreWords) (unsigned (elem_number element ∷ zt ∷ pg ∷ rn ∷ rm ∷ []))
access_parts (access.Store D D (vector_offset.Register rm) pg rn zt) =
    says (G37 access_form.StoreDoublewords) (unsigned (zt ∷ pg ∷ rn ∷ rm ∷ []))
access_parts (access.Store memory element (vector_offset.Register rm) pg rn zt) = None
access_parts (access.Vector store vectors rn zt) =
    says (G37 (access_form.Vector store)) (Unsigned zt ∷ Unsigned rn ∷ Signed vectors ∷ [])
access_parts (access.Predicate store vectors rn pt) =
    says (G37 (access_form.Predicate store)) (Unsigned pt ∷ Unsigned rn ∷ Signed vectors ∷ [])

unfoldable pub sve2_parts : Sve2 → Option (Parts VectorOperation)
sve2_parts (sve2.Multiply op size zm zn zd) =
    says (G38 (sve2_form.Multiply op)) (unsigned (elem_number size ∷ zd ∷ zn ∷ zm ∷ []))
sve2_parts (sve2.Ternary op zm zk zdn) = says (G38 (sve2_form.Ternary op)) (unsigned (zdn ∷ zm ∷ zk ∷ []))
sve2_parts (sve2.Widening op top size zm zn zd) =
    says (G38 (sve2_form.Widening op top)) (unsigned (elem_number size ∷ zd ∷ zn ∷ zm ∷ []))

unfoldable pub array_parts : ArrayAccess → Option (Parts VectorOperation)
array_parts (array.Zero mask) = says (G40 array_form.Zero) (Unsigned mask ∷ [])
array_parts (array.Transfer store rv offset rn) =
    says (G40 (array_form.Transfer store)) (unsigned (number_from 12 2 rv ∷ offset ∷ rn ∷ []))

unfoldable pub streaming_parts : StreamingLength → Option (Parts VectorOperation)
streaming_parts (streaming.Length imm rd) = says (G45 streaming_form.Length) (Unsigned rd ∷ Signed imm ∷ [])
streaming_parts (streaming.AddLength predicate imm rn rd) =
    says (G45 (streaming_form.AddLength predicate)) (Unsigned rd ∷ Unsigned rn ∷ Signed imm ∷ [])

-- the numbers of a slice
unfoldable pub slice_numbers : TileSlice → List Number → List Number
slice_numbers x ns =
    Unsigned x.tile ∷ flag_number x.vertical ∷ Unsigned (number_from 12 2 x.rv) ∷ Unsigned x.offset ∷ ns

-- a move of a slice, by its direction
unfoldable pub move_parts : TileMove → Bool → Option (Parts VectorOperation)
move_parts x true = says (G42 true x.slice.size) (slice_numbers x.slice (unsigned (x.pg ∷ x.z ∷ [])))
move_parts x false =
    says (G42 false x.slice.size) (Unsigned x.z ∷ Unsigned x.pg ∷ slice_numbers x.slice [])

-- the parts of an instruction
unfoldable pub parts_of : Insn → Option (Parts VectorOperation)
parts_of (insn.VectorArithmetic x) = says (G24 x.op) (unsigned (elem_number x.size ∷ x.zd ∷ x.zn ∷ x.zm ∷ []))
parts_of (insn.VectorLogical x) = says (G25 x.op) (unsigned (x.zd ∷ x.zn ∷ x.zm ∷ []))
parts_of (insn.PredicatedBinary x) =
    says (G26 x.op) (unsigned (elem_number x.size ∷ x.zdn ∷ x.pg ∷ x.zm ∷ []))
parts_of (insn.MultiplyAdd x) =
    says (G27 x.op) (unsigned (elem_number x.size ∷ x.zda ∷ x.pg ∷ x.zn ∷ x.zm ∷ []))
parts_of (insn.PredicatedUnary x) = says (G28 x.op) (unsigned (elem_number x.size ∷ x.zd ∷ x.pg ∷ x.zn ∷ []))
parts_of (insn.VectorShift x) = shift_parts x x.size
parts_of (insn.VectorCopy x) = copy_parts x
parts_of (insn.VectorPermute x) = permute_parts x
parts_of (insn.VectorReduction x) = reduction_parts x
parts_of (insn.VectorCompare x) = compare_parts x
parts_of (insn.Predicate x) = predicate_parts x
parts_of (insn.PredicateCount x) = count_parts x
parts_of (insn.ElementCount x) = element_parts x
parts_of (insn.VectorAccess x) = access_parts x
parts_of (insn.Sve2 x) = sve2_parts x
parts_of (insn.Mode x) = says (G39 x.start x.part) []
parts_of (insn.ArrayAccess x) = array_parts x
parts_of (insn.TileAccess x) =
    says (G41 x.store x.slice.size) (slice_numbers x.slice (unsigned (x.pg ∷ x.rn ∷ x.rm ∷ [])))
parts_of (insn.TileMove x) = move_parts x x.to_tile
parts_of (insn.TileAdd x) = says (G43 x.vertical x.wide) (unsigned (x.tile ∷ x.pn ∷ x.pm ∷ x.zn ∷ []))
parts_of (insn.OuterProduct x) =
    says (G44 x.op x.wide) (flag_number x.subtract ∷ unsigned (x.tile ∷ x.pn ∷ x.pm ∷ x.zn ∷ x.zm ∷ []))
parts_of (insn.StreamingLength x) = streaming_parts x
parts_of _ = None
