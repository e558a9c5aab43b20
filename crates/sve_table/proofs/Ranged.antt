-- The fields of an instruction that a row gives are in their ranges.
use Rattle.std.proofs.Common.{◌≡◌, ℕ, ◌+◌, ◌<◌, ◌%◌, ◌^◌, ◌&&◌, Bool, true, false, nat_le, refl, sym, ap, ◌∙◌, subst}
use Rattle.std.proofs.Common.{arith, le-leb}
use Rattle.std.proofs.lemmas.Bool.{ltb-true, and_parts}
use Rattle.insn_forms.specs.Fields.{field_in}
use Rattle.insn_forms.specs.Tables.{Means, numbers_in, signed_numbers_in}
use Rattle.insn_forms.specs.Values.{is_one}
use Rattle.insn_forms.proofs.Bits.{field_in-lt}
use Rattle.insn_forms.proofs.Numbers.{◌&◌, small, cut_below, signed_ranged}
use Rattle.sm_types.specs.declared.insn.Insn.{Insn}
use Rattle.sm_types.specs.declared.vector as types
use types.{Elem.Elem, PredicateLogicalOp.TheVariants.Sel, ReductionOp.ReductionOp}
use types.{VectorShiftOp.VectorShiftOp}
use types.VectorShiftOp.TheVariants.{Asr, Lsr, Lsl}
use types.Elem.TheVariants.{B, H, S, D, Q}
use Rattle.sve_table.specs.declared.fields.TheConstants.{AMOUNT_B, AMOUNT_D, AMOUNT_H, AMOUNT_S, ARRAY_OFFSET, COLUMN_PM, CPY_PG}
use Rattle.sve_table.specs.declared.fields.TheConstants.{ELEMENT_SIZE, EXT_IMM8, IMM4, IMM5, IMM5B, IMM6, IMM8, IMM9, MEMORY_SIZE}
use Rattle.sve_table.specs.declared.fields.TheConstants.{MULTIPLIER, OFFSET_B, OFFSET_D, OFFSET_H, OFFSET_Q, OFFSET_S, PATTERN, PD, PG, PG4}
use Rattle.sve_table.specs.declared.fields.TheConstants.{PM, PN, PT, RD, RM, RN, RN_HIGH, ROW_PN, RV, SH, SIZE, SOURCE_OFFSET_B}
use Rattle.sve_table.specs.declared.fields.TheConstants.{SOURCE_OFFSET_D, SOURCE_OFFSET_H, SOURCE_OFFSET_Q, SOURCE_OFFSET_S, SOURCE_TILE_B}
use Rattle.sve_table.specs.declared.fields.TheConstants.{SOURCE_TILE_D, SOURCE_TILE_H, SOURCE_TILE_Q, SOURCE_TILE_S, TILE_B, TILE_D, TILE_H}
use Rattle.sve_table.specs.declared.fields.TheConstants.{TILE_Q, TILE_S, VD, ZADA_D, ZADA_S, ZD, ZDA, ZDN, ZERO_MASK, ZK, ZM, ZM_LOW, ZN}
use Rattle.sve_table.specs.declared.fields.TheConstants.{ZT}
use Rattle.sve_table.specs.declared.operation as operations
use operations.{CopyForm.CopyForm, PermuteForm.PermuteForm, ReductionForm.ReductionForm, CompareForm.CompareForm}
use operations.{PredicateForm.PredicateForm, CountForm.CountForm, ElementForm.ElementForm, AccessForm.AccessForm, Sve2Form.Sve2Form}
use operations.{ArrayForm.ArrayForm, StreamingForm.StreamingForm, ShiftSize.ShiftSize, VectorOperation.VectorOperation}
use operations.VectorOperation.TheVariants.{G24, G25, G26, G27, G28, G29, G30, G31, G32, G33, G34, G35, G36, G37, G38, G39, G40, G41, G42}
use operations.VectorOperation.TheVariants.{G43, G44, G45}
use operations.ShiftSize.TheVariants as shift
use operations.CopyForm.TheVariants as copy_form
use operations.PermuteForm.TheVariants as permute_form
use operations.ReductionForm.TheVariants as reduction_form
use operations.CompareForm.TheVariants as compare_form
use operations.PredicateForm.TheVariants as predicate_form
use operations.CountForm.TheVariants as count_form
use operations.ElementForm.TheVariants as element_form
use operations.AccessForm.TheVariants as access_form
use operations.Sve2Form.TheVariants as sve2_form
use operations.ArrayForm.TheVariants as array_form
use operations.StreamingForm.TheVariants as streaming_form
use Rattle.sve_table.specs.Values.{elem_of, elem_number, shift_elem, shift_width, shift_amount, amount_field, tile_field, offset_field}
use Rattle.sve_table.specs.Values.{source_tile_field, source_offset_field, sum_field}
use Rattle.sve_table.specs.Sizes.{is_size_between, least_binary, least_unary, least_shifted, widest_reduced}
use Rattle.sve_table.specs.Conditions.{fits_of, is_from, is_up_to, is_offset}
use Rattle.sve_table.specs.Named.{named_copy, named_permute, named_reduction, named_compare, named_predicate, named_count, named_element}
use Rattle.sve_table.specs.Named.{named_access, named_sve2, named_array, named_streaming, named_slice, moved_slice, moved_vector, named}
use Rattle.sve_table.specs.Ranges.{IsInVectorRow, IsAmount, IsMultiplier, IsSliceRegister, IsTileSlice, bits_of_elem, sum_tiles}
use Rattle.sve_table.specs.Ranges.{IsVectorCopy}
use Rattle.sve_table.specs.Ranges.{IsVectorPermute, IsVectorReduction, IsVectorCompare, IsPredicate, IsPredicateCount, IsElementCount}
use Rattle.sve_table.specs.Ranges.{IsVectorAccess, IsSve2, IsArrayAccess, IsStreamingLength}
use Rattle.sve_table.specs.Table.{vector}
use Rattle.sve_table.proofs.Numbers.{elem_back}

-- ---- sizes and amounts
between : (l m : Elem) (n : ℕ) → n < 4 → nat_le (elem_number l) n ≡ true → nat_le n (elem_number m) ≡ true
    → is_size_between l m (elem_of n) ≡ true
between l m n lt f g = ap (λ k. nat_le (elem_number l) k && nat_le k (elem_number m)) (elem_back n lt) ∙ (f & g)

from : (l : Elem) (n : ℕ) → n < 4 → is_from l n ≡ true → is_size_between l D (elem_of n) ≡ true
unfolding is_from
from l n lt f = between l D n lt f (le-leb n 3 (omega arith))

up_to : (m : Elem) (n : ℕ) → n < 4 → is_up_to m n ≡ true → is_size_between B m (elem_of n) ≡ true
unfolding is_up_to
up_to m n lt f = between B m n lt (le-leb 0 n (omega arith)) f

no_wider : (m n : ℕ) → m < 4 → n < 4 → nat_le m n ≡ true → is_size_between (elem_of m) D (elem_of n) ≡ true
no_wider m n lt mt f = between (elem_of m) D n mt (ap (λ k. nat_le k n) (elem_back m lt) ∙ f) (le-leb n 3 (omega arith))

multiplied : (n : ℕ) → n < 16 → IsMultiplier (1 + n)
multiplied n lt = (omega arith, omega arith)

registered : (n : ℕ) → n < 4 → IsSliceRegister (12 + n)
registered n lt = (omega arith, omega arith)

amount_in : (op : VectorShiftOp) (width n : ℕ) → n < width → IsAmount op width (shift_amount op width n)
unfolding shift_amount
amount_in Lsl width n lt = lt
amount_in Asr width n lt = (omega arith, omega arith)
amount_in Lsr width n lt = (omega arith, omega arith)

-- the fields of a word
module _ (w : ℕ) where
  size : is_size_between B D (elem_of (field_in SIZE w)) ≡ true
  unfolding is_from
  size = from B _ (field_in-lt SIZE w) (le-leb 0 (field_in SIZE w) (omega arith))

  size_from : (l : Elem) → is_from l (field_in SIZE w) ≡ true → is_size_between l D (elem_of (field_in SIZE w)) ≡ true
  size_from l f = from l _ (field_in-lt SIZE w) f

  reduced : (op : ReductionOp) → is_up_to (widest_reduced op) (field_in SIZE w) ≡ true
      → is_size_between B (widest_reduced op) (elem_of (field_in SIZE w)) ≡ true
  reduced op f = up_to _ _ (field_in-lt SIZE w) f

  element_from : (l : Elem) → is_from l (field_in ELEMENT_SIZE w) ≡ true → is_size_between l D (elem_of (field_in ELEMENT_SIZE w)) ≡ true
  element_from l f = from l _ (field_in-lt ELEMENT_SIZE w) f

  element : is_size_between B D (elem_of (field_in ELEMENT_SIZE w)) ≡ true
  unfolding is_from
  element = element_from B (le-leb 0 (field_in ELEMENT_SIZE w) (omega arith))

  stored : nat_le (field_in MEMORY_SIZE w) (field_in ELEMENT_SIZE w) ≡ true
      → is_size_between (elem_of (field_in MEMORY_SIZE w)) D (elem_of (field_in ELEMENT_SIZE w)) ≡ true
  stored f = no_wider _ _ (field_in-lt MEMORY_SIZE w) (field_in-lt ELEMENT_SIZE w) f

  offset : is_offset (field_in RM w) ≡ true → field_in RM w % 2 ^ 8 < 31
  unfolding is_offset
  offset f = cut_below _ 31 (ltb-true _ _ f)

  slice_register : IsSliceRegister (12 + field_in RV w)
  slice_register = registered _ (field_in-lt RV w)

  shift_size : (s : ShiftSize) → is_size_between B D (shift_elem s) ≡ true
  unfolding shift_elem
  shift_size shift.B = refl
  shift_size _ = refl

  shift_ranged : (op : VectorShiftOp) (s : ShiftSize)
      → IsAmount op (bits_of_elem (shift_elem s)) (shift_amount op (shift_width s) (field_in (amount_field s) w))
  unfolding shift_elem shift_width amount_field
  shift_ranged op shift.B = amount_in op 8 _ (field_in-lt AMOUNT_B w)
  shift_ranged op shift.H = amount_in op 16 _ (field_in-lt AMOUNT_H w)
  shift_ranged op shift.S = amount_in op 32 _ (field_in-lt AMOUNT_S w)
  shift_ranged op shift.D = amount_in op 64 _ (field_in-lt AMOUNT_D w)

  slice : (e : Elem) → IsTileSlice (named_slice e (tile_field e) (offset_field e) (numbers_in w))
  unfolding named_slice tile_field offset_field
  slice B = record { rv = slice_register; tile = small TILE_B w; offset = small OFFSET_B w }
  slice H = record { rv = slice_register; tile = small TILE_H w; offset = small OFFSET_H w }
  slice S = record { rv = slice_register; tile = small TILE_S w; offset = small OFFSET_S w }
  slice D = record { rv = slice_register; tile = small TILE_D w; offset = small OFFSET_D w }
  slice Q = record { rv = slice_register; tile = small TILE_Q w; offset = small OFFSET_Q w }

  source_slice : (e : Elem) → IsTileSlice (named_slice e (source_tile_field e) (source_offset_field e) (numbers_in w))
  unfolding named_slice source_tile_field source_offset_field
  source_slice B = record { rv = slice_register; tile = small SOURCE_TILE_B w; offset = small SOURCE_OFFSET_B w }
  source_slice H = record { rv = slice_register; tile = small SOURCE_TILE_H w; offset = small SOURCE_OFFSET_H w }
  source_slice S = record { rv = slice_register; tile = small SOURCE_TILE_S w; offset = small SOURCE_OFFSET_S w }
  source_slice D = record { rv = slice_register; tile = small SOURCE_TILE_D w; offset = small SOURCE_OFFSET_D w }
  source_slice Q = record { rv = slice_register; tile = small SOURCE_TILE_Q w; offset = small SOURCE_OFFSET_Q w }

  sum_tile : (wide : Bool) → field_in (sum_field wide) w % 2 ^ 8 < sum_tiles wide
  unfolding sum_field
  sum_tile true = small ZADA_D w
  sum_tile false = small ZADA_S w

  -- ---- by operation
  copy_ranged : (form : CopyForm) → fits_of (G30 form) (numbers_in w) ≡ true
      → IsVectorCopy (named_copy form (numbers_in w) (signed_numbers_in w))
  unfolding fits_of named_copy
  copy_ranged copy_form.Register f = (size, small RN w, small ZD w)
  copy_ranged copy_form.PredicatedRegister f = (size, small PG w, small RN w, small ZD w)
  copy_ranged copy_form.Immediate f = (size_from (least_shifted (is_one (field_in SH w))) f, signed_ranged IMM8 w (omega arith), small ZD w)
  copy_ranged copy_form.PredicatedImmediate f =
      (size_from (least_shifted (is_one (field_in SH w))) f, small CPY_PG w, signed_ranged IMM8 w (omega arith), small ZD w)
  copy_ranged (copy_form.Index false false) f = (size, signed_ranged IMM5 w (omega arith), signed_ranged IMM5B w (omega arith), small ZD w)
  copy_ranged (copy_form.Index true false) f = (size, small RN w, signed_ranged IMM5B w (omega arith), small ZD w)
  copy_ranged (copy_form.Index false true) f = (size, signed_ranged IMM5 w (omega arith), small RM w, small ZD w)
  copy_ranged (copy_form.Index true true) f = (size, small RN w, small RM w, small ZD w)
  copy_ranged (copy_form.AddImmediate op) f = (size_from (least_shifted (is_one (field_in SH w))) f, small IMM8 w, small ZDN w)
  copy_ranged copy_form.MultiplyImmediate f = (size, signed_ranged IMM8 w (omega arith), small ZDN w)
  copy_ranged copy_form.Select f = (size, small ZM w, small PG4 w, small ZN w, small ZD w)
  copy_ranged copy_form.Prefix f = (small ZN w, small ZD w)

  permute_ranged : (form : PermuteForm) → fits_of (G31 form) (numbers_in w) ≡ true
      → IsVectorPermute (named_permute form (numbers_in w) (signed_numbers_in w))
  unfolding fits_of named_permute
  permute_ranged (permute_form.Interleave op) f = (size, small ZM w, small ZN w, small ZD w)
  permute_ranged permute_form.Reverse f = (size, small ZN w, small ZD w)
  permute_ranged permute_form.Table f = (size, small ZM w, small ZN w, small ZD w)
  permute_ranged permute_form.Extract f = (small EXT_IMM8 w, small ZM_LOW w, small ZDN w)
  permute_ranged (permute_form.Unpack by_sign high) f = (size_from H f, small ZN w, small ZD w)

  reduction_ranged : (form : ReductionForm) → fits_of (G32 form) (numbers_in w) ≡ true
      → IsVectorReduction (named_reduction form (numbers_in w) (signed_numbers_in w))
  unfolding fits_of named_reduction
  reduction_ranged (reduction_form.Last active) f = (size, small PG w, small ZN w, small RD w)
  reduction_ranged (reduction_form.Reduce op) f = (reduced op f, small PG w, small ZN w, small VD w)

  compare_ranged : (form : CompareForm) → fits_of (G33 form) (numbers_in w) ≡ true
      → IsVectorCompare (named_compare form (numbers_in w) (signed_numbers_in w))
  unfolding fits_of named_compare
  compare_ranged (compare_form.Vectors op) f = (size, small ZM w, small PG w, small ZN w, small PD w)
  compare_ranged (compare_form.Immediate op) f = (size, signed_ranged IMM5B w (omega arith), small PG w, small ZN w, small PD w)

  predicate_ranged : (form : PredicateForm) → fits_of (G34 form) (numbers_in w) ≡ true
      → IsPredicate (named_predicate form (numbers_in w) (signed_numbers_in w))
  unfolding fits_of named_predicate
  predicate_ranged predicate_form.True f = (size, small PATTERN w, small PD w)
  predicate_ranged predicate_form.False f = small PD w
  predicate_ranged predicate_form.Test f = (small PG4 w, small PN w)
  predicate_ranged (predicate_form.Logical Sel) f = (λ e. refl, small PM w, small PG4 w, small PN w, small PD w)
  predicate_ranged (predicate_form.Logical op) f = (λ e. cc, small PM w, small PG4 w, small PN w, small PD w)

  count_ranged : (form : CountForm) → fits_of (G35 form) (numbers_in w) ≡ true
      → IsPredicateCount (named_count form (numbers_in w) (signed_numbers_in w))
  unfolding fits_of named_count
  count_ranged (count_form.While by_sign) f = (size, small RM w, small RN w, small PD w)
  count_ranged count_form.Active f = (size, small PG4 w, small PN w, small RD w)
  count_ranged count_form.SetFfr f = tt
  count_ranged count_form.ReadFfr f = small PD w
  count_ranged count_form.WriteFfr f = small PN w

  element_ranged : (form : ElementForm) → fits_of (G36 form) (numbers_in w) ≡ true
      → IsElementCount (named_element form (numbers_in w) (signed_numbers_in w))
  unfolding fits_of named_element
  element_ranged element_form.Count f = (size, small PATTERN w, multiplied _ (field_in-lt MULTIPLIER w), small RD w)
  element_ranged (element_form.Change decrement) f = (size, small PATTERN w, multiplied _ (field_in-lt MULTIPLIER w), small RD w)
  element_ranged element_form.Length f = (signed_ranged IMM6 w (omega arith), small RD w)
  element_ranged (element_form.AddLength predicate) f = (signed_ranged IMM6 w (omega arith), small RN_HIGH w, small RD w)

  access_ranged : (form : AccessForm) → fits_of (G37 form) (numbers_in w) ≡ true
      → IsVectorAccess (named_access form (numbers_in w) (signed_numbers_in w))
  unfolding fits_of named_access
  access_ranged access_form.LoadVectors f = (signed_ranged IMM4 w (omega arith), small PG w, small RN w, small ZT w)
  access_ranged access_form.LoadRegister f = (offset f, small PG w, small RN w, small ZT w)
  access_ranged access_form.StoreVectors f = (stored f, signed_ranged IMM4 w (omega arith), small PG w, small RN w, small ZT w)
  access_ranged access_form.StoreBytes f = (element, offset f, small PG w, small RN w, small ZT w)
  access_ranged access_form.StoreHalfwords f =
      let p = and_parts _ _ f in (element_from H p.0, offset p.1, small PG w, small RN w, small ZT w)
  access_ranged access_form.StoreWords f = let p = and_parts _ _ f in (element_from S p.0, offset p.1, small PG w, small RN w, small ZT w)
  access_ranged access_form.StoreDoublewords f = (refl, offset f, small PG w, small RN w, small ZT w)
  access_ranged (access_form.Vector store) f = (signed_ranged IMM9 w (omega arith), small RN w, small ZT w)
  access_ranged (access_form.Predicate store) f = (signed_ranged IMM9 w (omega arith), small RN w, small PT w)

  sve2_ranged : (form : Sve2Form) → fits_of (G38 form) (numbers_in w) ≡ true → IsSve2 (named_sve2 form (numbers_in w) (signed_numbers_in w))
  unfolding fits_of named_sve2
  sve2_ranged (sve2_form.Multiply op) f = (size, small ZM w, small ZN w, small ZD w)
  sve2_ranged (sve2_form.Ternary op) f = (small ZM w, small ZK w, small ZDN w)
  sve2_ranged (sve2_form.Widening op top) f = (size_from H f, small ZM w, small ZN w, small ZD w)

  array_ranged : (form : ArrayForm) → fits_of (G40 form) (numbers_in w) ≡ true
      → IsArrayAccess (named_array form (numbers_in w) (signed_numbers_in w))
  unfolding fits_of named_array
  array_ranged array_form.Zero f = small ZERO_MASK w
  array_ranged (array_form.Transfer store) f = (slice_register, small ARRAY_OFFSET w, small RN w)

  streaming_ranged : (form : StreamingForm) → fits_of (G45 form) (numbers_in w) ≡ true
      → IsStreamingLength (named_streaming form (numbers_in w) (signed_numbers_in w))
  unfolding fits_of named_streaming
  streaming_ranged streaming_form.Length f = (signed_ranged IMM6 w (omega arith), small RD w)
  streaming_ranged (streaming_form.AddLength predicate) f = (signed_ranged IMM6 w (omega arith), small RN_HIGH w, small RD w)

  operation_ranged : (op : VectorOperation) → fits_of op (numbers_in w) ≡ true
      → IsInVectorRow (named op (numbers_in w) (signed_numbers_in w))
  unfolding fits_of named moved_slice moved_vector
  operation_ranged (G24 op) f = record { size = size; zm = small ZM w; zn = small ZN w; zd = small ZD w }
  operation_ranged (G25 op) f = record { zm = small ZM w; zn = small ZN w; zd = small ZD w }
  operation_ranged (G26 op) f = record { size = size_from (least_binary op) f; pg = small PG w; zm = small ZM_LOW w; zdn = small ZDN w }
  operation_ranged (G27 op) f = record { size = size; pg = small PG w; zm = small ZM w; zn = small ZN w; zda = small ZDA w }
  operation_ranged (G28 op) f = record { size = size_from (least_unary op) f; pg = small PG w; zn = small ZN w; zd = small ZD w }
  operation_ranged (G29 op size) f = record { size = shift_size size; amount = shift_ranged op size; zn = small ZN w; zd = small ZD w }
  operation_ranged (G30 form) f = copy_ranged form f
  operation_ranged (G31 form) f = permute_ranged form f
  operation_ranged (G32 form) f = reduction_ranged form f
  operation_ranged (G33 form) f = compare_ranged form f
  operation_ranged (G34 form) f = predicate_ranged form f
  operation_ranged (G35 form) f = count_ranged form f
  operation_ranged (G36 form) f = element_ranged form f
  operation_ranged (G37 form) f = access_ranged form f
  operation_ranged (G38 form) f = sve2_ranged form f
  operation_ranged (G39 start part) f = tt
  operation_ranged (G40 form) f = array_ranged form f
  operation_ranged (G41 store size) f = record { slice = slice size; pg = small PG w; rm = small RM w; rn = small RN w }
  operation_ranged (G42 true size) f = record { slice = slice size; pg = small PG w; z = small ZN w }
  operation_ranged (G42 false size) f = record { slice = source_slice size; pg = small PG w; z = small ZD w }
  operation_ranged (G43 vertical wide) f = record { tile = sum_tile wide; pn = small ROW_PN w; pm = small COLUMN_PM w; zn = small ZN w }
  operation_ranged (G44 op wide) f =
      record { tile = sum_tile wide; pn = small ROW_PN w; pm = small COLUMN_PM w; zn = small ZN w; zm = small ZM w }
  operation_ranged (G45 form) f = streaming_ranged form f

pub ranged : (w : ℕ) (it : Insn) → Means vector w it → IsInVectorRow it
unfolding vector
ranged w it m = subst IsInVectorRow (sym m.gives) (operation_ranged w m.line.operation m.fits)
