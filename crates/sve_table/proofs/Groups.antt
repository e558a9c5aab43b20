-- Group by group: an instruction tells what it was made of, and is made of what it tells.
use Rattle.std.proofs.Common.{◌≡◌, ℕ, ◌+◌, ◌^◌, Bool, true, false, refl, sym, ap, ◌∙◌, List, [], ◌∷◌, Option, Some, None, ℤ}
use Rattle.insn_forms.specs.declared.field.Field.{Field}
use Rattle.insn_forms.specs.declared.number.Parts.{Parts}
use Rattle.insn_forms.specs.Forms.{padded}
use Rattle.insn_forms.proofs.Laws.{Take, taken, are_small}
use Rattle.insn_forms.proofs.Ways.{Slot, flag, cut, code, signed, takes_of, fields_of, pass, eight, passed}
use Rattle.insn_forms.proofs.Ways.{are_kept, one}
use Rattle.sm_types.specs.declared.insn.Insn.{Insn}
use Rattle.sm_types.specs.declared.insn.Insn.TheVariants as insn
use Rattle.sm_types.specs.declared.vector as types
use Rattle.sm_types.specs.declared.matrix as matrix
use types.{Elem.Elem, PredicateLogicalOp.TheVariants.Sel, PredicateLogicalOp.TheVariants.And, VectorShift.VectorShift}
use types.{VectorShiftOp.VectorShiftOp}
use types.Elem.TheVariants.{B, H, S, D, Q}
use types.IndexPart.TheVariants as part
use types.VectorOffset.TheVariants as vector_offset
use matrix.TileMove.{TileMove}
use types.VectorCopy.TheVariants as copy
use types.VectorPermute.TheVariants as permute
use types.VectorReduction.TheVariants as reduction
use types.VectorCompare.TheVariants as compare
use types.Predicate.TheVariants as predicate
use types.PredicateCount.TheVariants as count
use types.ElementCount.TheVariants as element
use types.VectorAccess.TheVariants as access
use types.Sve2.TheVariants as sve2
use matrix.ArrayAccess.TheVariants as array
use matrix.StreamingLength.TheVariants as streaming
use Rattle.sve_table.specs.declared.fields.TheConstants.{ARRAY_OFFSET, COLUMN_PM, CPY_PG, DTYPE, ELEMENT_SIZE, EXT_IMM8, FLAGS, IMM4, IMM5}
use Rattle.sve_table.specs.declared.fields.TheConstants.{IMM5B, IMM6, IMM8, IMM9, MEMORY_SIZE, MERGING, MULTIPLIER, PATTERN, PD, PG, PG4}
use Rattle.sve_table.specs.declared.fields.TheConstants.{PM, PN, PT, RD, RM, RN, RN_HIGH, ROW_PN, RV, SF, SH, SIZE, SUBTRACT, VD, VERTICAL}
use Rattle.sve_table.specs.declared.fields.TheConstants.{ZD, ZDA, ZDN, ZERO_MASK, ZK, ZM, ZM_LOW, ZN, ZT, AMOUNT_B, AMOUNT_H, AMOUNT_S}
use Rattle.sve_table.specs.declared.fields.TheConstants.{AMOUNT_D}
use Rattle.sve_table.specs.declared.operation as operations
use operations.VectorOperation.{VectorOperation}
use operations.VectorOperation.TheVariants.{G24, G25, G26, G27, G28, G29, G30, G31, G32, G33, G34, G35, G36, G37, G38, G39, G40, G41, G42}
use operations.VectorOperation.TheVariants.{G43, G44, G45}
use operations.ShiftSize.TheVariants as shift
use operations.CopyForm.TheVariants as copy_form
use operations.PermuteForm.TheVariants as permute_form
use operations.ReductionForm.TheVariants as reduction_form
use operations.CompareForm.TheVariants as compare_form
use operations.PredicateForm.TheVariants as predicate_form
use operations.CountForm.TheVariants as count_form
use operations.ElementForm.TheVariants as element_form
use operations.AccessForm.TheVariants as access_form
use operations.Sve2Form.TheVariants as sve2_form
use operations.ArrayForm.TheVariants as array_form
use operations.StreamingForm.TheVariants as streaming_form
use Rattle.sve_table.specs.Values.{elem_of, elem_number, load_type_of, load_type_number, shift_elem, shift_width, shift_amount}
use Rattle.sve_table.specs.Values.{amount_field, tile_field, offset_field, source_tile_field, source_offset_field, sum_field}
use Rattle.sve_table.specs.Named.{named_copy, named_permute, named_reduction, named_compare, named_predicate, named_count, named_element}
use Rattle.sve_table.specs.Named.{named_access, named_sve2, named_array, named_streaming, named_slice, moved_slice, moved_vector, named}
use Rattle.sve_table.specs.Parts.{number_from, shift_number, copy_parts, permute_parts, reduction_parts, compare_parts, predicate_parts}
use Rattle.sve_table.specs.Parts.{count_parts, element_parts, access_parts, sve2_parts, array_parts, streaming_parts, shift_parts}
use Rattle.sve_table.specs.Parts.{slice_numbers, move_parts, parts_of}
use Rattle.sve_table.proofs.Numbers.{elem_back, elem_is, load_type_back, load_type_is, from_back, from_is, shift_back, shift_is}

-- how an instruction keeps the numbers of its operation's fields
abbrev r : Field → Slot
r = cut 8

abbrev elems : Field → Slot
elems = code 2 (λ k. elem_number (elem_of k)) elem_back

abbrev types_of : Field → Slot
types_of = code 4 (λ k. load_type_number (load_type_of k)) load_type_back

abbrev counts : ℕ → ℕ → Field → Slot
counts least bits = code bits (λ k. number_from least bits (least + k)) (from_back least bits)

abbrev amounts : VectorShiftOp → ℕ → Field → Slot
amounts op bits = code bits (λ k. shift_number op (2 ^ bits) (shift_amount op (2 ^ bits) k)) (shift_back op bits)

-- the fields of an operation's row in its order
unfoldable pub kept : VectorOperation → List Slot
kept (G24 op) = elems SIZE ∷ r ZD ∷ r ZN ∷ r ZM ∷ []
kept (G25 op) = r ZD ∷ r ZN ∷ r ZM ∷ []
kept (G26 op) = elems SIZE ∷ r ZDN ∷ r PG ∷ r ZM_LOW ∷ []
kept (G27 op) = elems SIZE ∷ r ZDA ∷ r PG ∷ r ZN ∷ r ZM ∷ []
kept (G28 op) = elems SIZE ∷ r ZD ∷ r PG ∷ r ZN ∷ []
kept (G29 op shift.B) = r ZD ∷ r ZN ∷ amounts op 3 AMOUNT_B ∷ []
kept (G29 op shift.H) = r ZD ∷ r ZN ∷ amounts op 4 AMOUNT_H ∷ []
kept (G29 op shift.S) = r ZD ∷ r ZN ∷ amounts op 5 AMOUNT_S ∷ []
kept (G29 op shift.D) = r ZD ∷ r ZN ∷ amounts op 6 AMOUNT_D ∷ []
kept (G30 copy_form.Register) = elems SIZE ∷ r ZD ∷ r RN ∷ []
kept (G30 copy_form.PredicatedRegister) = elems SIZE ∷ r ZD ∷ r PG ∷ r RN ∷ []
kept (G30 copy_form.Immediate) = elems SIZE ∷ r ZD ∷ signed IMM8 ∷ flag SH ∷ []
kept (G30 copy_form.PredicatedImmediate) = elems SIZE ∷ r ZD ∷ r CPY_PG ∷ flag MERGING ∷ signed IMM8 ∷ flag SH ∷ []
kept (G30 (copy_form.Index false false)) = elems SIZE ∷ r ZD ∷ signed IMM5 ∷ signed IMM5B ∷ []
kept (G30 (copy_form.Index true false)) = elems SIZE ∷ r ZD ∷ r RN ∷ signed IMM5B ∷ []
kept (G30 (copy_form.Index false true)) = elems SIZE ∷ r ZD ∷ signed IMM5 ∷ r RM ∷ []
kept (G30 (copy_form.Index true true)) = elems SIZE ∷ r ZD ∷ r RN ∷ r RM ∷ []
kept (G30 (copy_form.AddImmediate op)) = elems SIZE ∷ r ZDN ∷ r IMM8 ∷ flag SH ∷ []
kept (G30 copy_form.MultiplyImmediate) = elems SIZE ∷ r ZDN ∷ signed IMM8 ∷ []
kept (G30 copy_form.Select) = elems SIZE ∷ r ZD ∷ r PG4 ∷ r ZN ∷ r ZM ∷ []
kept (G30 copy_form.Prefix) = r ZD ∷ r ZN ∷ []
kept (G31 (permute_form.Interleave op)) = elems SIZE ∷ r ZD ∷ r ZN ∷ r ZM ∷ []
kept (G31 permute_form.Reverse) = elems SIZE ∷ r ZD ∷ r ZN ∷ []
kept (G31 permute_form.Table) = elems SIZE ∷ r ZD ∷ r ZN ∷ r ZM ∷ []
kept (G31 permute_form.Extract) = r ZDN ∷ r ZM_LOW ∷ r EXT_IMM8 ∷ []
kept (G31 (permute_form.Unpack by_sign high)) = elems SIZE ∷ r ZD ∷ r ZN ∷ []
kept (G32 (reduction_form.Last active)) = elems SIZE ∷ r RD ∷ r PG ∷ r ZN ∷ []
kept (G32 (reduction_form.Reduce op)) = elems SIZE ∷ r VD ∷ r PG ∷ r ZN ∷ []
kept (G33 (compare_form.Vectors op)) = elems SIZE ∷ r PD ∷ r PG ∷ r ZN ∷ r ZM ∷ []
kept (G33 (compare_form.Immediate op)) = elems SIZE ∷ r PD ∷ r PG ∷ r ZN ∷ signed IMM5B ∷ []
kept (G34 predicate_form.True) = elems SIZE ∷ r PD ∷ r PATTERN ∷ []
kept (G34 predicate_form.False) = r PD ∷ []
kept (G34 predicate_form.Test) = r PG4 ∷ r PN ∷ []
kept (G34 (predicate_form.Logical Sel)) = r PD ∷ r PG4 ∷ r PN ∷ r PM ∷ []
kept (G34 (predicate_form.Logical op)) = flag FLAGS ∷ r PD ∷ r PG4 ∷ r PN ∷ r PM ∷ []
kept (G35 (count_form.While by_sign)) = flag SF ∷ elems SIZE ∷ r PD ∷ r RN ∷ r RM ∷ []
kept (G35 count_form.Active) = elems SIZE ∷ r RD ∷ r PG4 ∷ r PN ∷ []
kept (G35 count_form.SetFfr) = []
kept (G35 count_form.ReadFfr) = r PD ∷ []
kept (G35 count_form.WriteFfr) = r PN ∷ []
kept (G36 element_form.Count) = elems SIZE ∷ r RD ∷ r PATTERN ∷ counts 1 4 MULTIPLIER ∷ []
kept (G36 (element_form.Change decrement)) = elems SIZE ∷ r RD ∷ r PATTERN ∷ counts 1 4 MULTIPLIER ∷ []
kept (G36 element_form.Length) = r RD ∷ signed IMM6 ∷ []
kept (G36 (element_form.AddLength predicate)) = r RD ∷ r RN_HIGH ∷ signed IMM6 ∷ []
kept (G37 access_form.LoadVectors) = types_of DTYPE ∷ r ZT ∷ r PG ∷ r RN ∷ signed IMM4 ∷ []
kept (G37 access_form.LoadRegister) = types_of DTYPE ∷ r ZT ∷ r PG ∷ r RN ∷ r RM ∷ []
kept (G37 access_form.StoreVectors) = elems MEMORY_SIZE ∷ elems ELEMENT_SIZE ∷ r ZT ∷ r PG ∷ r RN ∷ signed IMM4 ∷ []
kept (G37 access_form.StoreBytes) = elems ELEMENT_SIZE ∷ r ZT ∷ r PG ∷ r RN ∷ r RM ∷ []
kept (G37 access_form.StoreHalfwords) = elems ELEMENT_SIZE ∷ r ZT ∷ r PG ∷ r RN ∷ r RM ∷ []
kept (G37 access_form.StoreWords) = elems ELEMENT_SIZE ∷ r ZT ∷ r PG ∷ r RN ∷ r RM ∷ []
kept (G37 access_form.StoreDoublewords) = r ZT ∷ r PG ∷ r RN ∷ r RM ∷ []
kept (G37 (access_form.Vector store)) = r ZT ∷ r RN ∷ signed IMM9 ∷ []
kept (G37 (access_form.Predicate store)) = r PT ∷ r RN ∷ signed IMM9 ∷ []
kept (G38 (sve2_form.Multiply op)) = elems SIZE ∷ r ZD ∷ r ZN ∷ r ZM ∷ []
kept (G38 (sve2_form.Ternary op)) = r ZDN ∷ r ZM ∷ r ZK ∷ []
kept (G38 (sve2_form.Widening op top)) = elems SIZE ∷ r ZD ∷ r ZN ∷ r ZM ∷ []
kept (G39 start part) = []
kept (G40 array_form.Zero) = r ZERO_MASK ∷ []
kept (G40 (array_form.Transfer store)) = counts 12 2 RV ∷ r ARRAY_OFFSET ∷ r RN ∷ []
kept (G41 store size) = r (tile_field size) ∷ flag VERTICAL ∷ counts 12 2 RV ∷ r (offset_field size) ∷ r PG ∷ r RN ∷ r RM ∷ []
kept (G42 true size) = r (tile_field size) ∷ flag VERTICAL ∷ counts 12 2 RV ∷ r (offset_field size) ∷ r PG ∷ r ZN ∷ []
kept (G42 false size) =
    r ZD ∷ r PG ∷ r (source_tile_field size) ∷ flag VERTICAL ∷ counts 12 2 RV ∷ r (source_offset_field size) ∷ []
kept (G43 vertical wide) = r (sum_field wide) ∷ r ROW_PN ∷ r COLUMN_PM ∷ r ZN ∷ []
kept (G44 op wide) = flag SUBTRACT ∷ r (sum_field wide) ∷ r ROW_PN ∷ r COLUMN_PM ∷ r ZN ∷ r ZM ∷ []
kept (G45 streaming_form.Length) = r RD ∷ signed IMM6 ∷ []
kept (G45 (streaming_form.AddLength predicate)) = r RD ∷ r RN_HIGH ∷ signed IMM6 ∷ []

unfoldable pub slots : VectorOperation → List Slot
slots op = eight 8 (kept op)

unfoldable pub takes : VectorOperation → List Take
takes op = takes_of (slots op)

unfoldable pub format : VectorOperation → List Field
format op = fields_of (slots op)

-- an instruction tells what it was made of
computes : (op : VectorOperation) (u : Field → ℕ) (s : Field → ℤ)
    → parts_of (named op u s) ≡ Some (record { operation = op; numbers = pass (slots op) u s })
unfolding eight slots kept pass shift_elem shift_width amount_field named_copy named_permute named_reduction named_compare named_predicate
    named_count named_element named_access named_sve2 named_array named_streaming named_slice moved_slice moved_vector named copy_parts
    permute_parts reduction_parts compare_parts predicate_parts count_parts element_parts access_parts sve2_parts array_parts
    streaming_parts shift_parts slice_numbers move_parts parts_of padded
computes (G29 op shift.B) u s = refl
computes (G30 (copy_form.Index false false)) u s = refl
computes (G30 (copy_form.Index true false)) u s = refl
computes (G31 permute_form.Reverse) u s = refl
computes (G32 (reduction_form.Last active)) u s = refl
computes (G33 (compare_form.Vectors op)) u s = refl
computes (G34 (predicate_form.Logical And)) u s = refl
computes (G35 count_form.Active) u s = refl
computes (G36 element_form.Count) u s = refl
computes (G37 access_form.LoadVectors) u s = refl
computes (G38 (sve2_form.Multiply op)) u s = refl
computes (G40 array_form.Zero) u s = refl
computes (G42 true size) u s = refl
computes (G45 streaming_form.Length) u s = refl
computes _ u s = refl

pub back : (op : VectorOperation) (u : Field → ℕ) (s : Field → ℤ) → are_small (takes op) (format op) u
    → parts_of (named op u s) ≡ Some (record { operation = op; numbers = taken (takes op) (format op) u s })
unfolding takes format
back op u s h = computes op u s ∙ ap (λ ns. Some (record { operation = op; numbers = ns })) (passed (slots op) u s h)

-- and is made of what it tells
abbrev pub IsRemade : Insn → Option (Parts VectorOperation) → Type 0
IsRemade it None = Unit {0}
IsRemade it (Some p) =
    (u : Field → ℕ) (s : Field → ℤ) → are_kept (slots p.operation) p.numbers u s → named p.operation u s ≡ it

-- a shift, by its elements
remade_shift : (x : VectorShift) (size : Elem) → x.size ≡ size → IsRemade (insn.VectorShift x) (shift_parts x size)
unfolding eight slots kept are_kept shift_elem shift_width amount_field shift_parts named padded
remade_shift x B e = λ u s k.
    (λ i. insn.VectorShift (record { op = x.op; size = B; amount = shift_is x.op 3 _ x.amount k.1.1.0 i; zn = k.1.0 i; zd = k.0 i }))
    ∙ ap (λ y. insn.VectorShift (record x { size = y })) (sym e)
remade_shift x H e = λ u s k.
    (λ i. insn.VectorShift (record { op = x.op; size = H; amount = shift_is x.op 4 _ x.amount k.1.1.0 i; zn = k.1.0 i; zd = k.0 i }))
    ∙ ap (λ y. insn.VectorShift (record x { size = y })) (sym e)
remade_shift x S e = λ u s k.
    (λ i. insn.VectorShift (record { op = x.op; size = S; amount = shift_is x.op 5 _ x.amount k.1.1.0 i; zn = k.1.0 i; zd = k.0 i }))
    ∙ ap (λ y. insn.VectorShift (record x { size = y })) (sym e)
remade_shift x D e = λ u s k.
    (λ i. insn.VectorShift (record { op = x.op; size = D; amount = shift_is x.op 6 _ x.amount k.1.1.0 i; zn = k.1.0 i; zd = k.0 i }))
    ∙ ap (λ y. insn.VectorShift (record x { size = y })) (sym e)
remade_shift x Q e = tt

-- a move of a slice, by its direction
remade_move : (x : TileMove) (to_tile : Bool) → x.to_tile ≡ to_tile → IsRemade (insn.TileMove x) (move_parts x to_tile)
unfolding eight slots kept are_kept move_parts slice_numbers named named_slice moved_slice moved_vector padded
remade_move x true e = λ u s k.
    (λ i. insn.TileMove (record {
      to_tile = true;
      slice = record {
        size = x.slice.size;
        vertical = one _ x.slice.vertical k.1.0 i;
        rv = from_is 12 2 _ x.slice.rv k.1.1.0 i;
        tile = k.0 i;
        offset = k.1.1.1.0 i;
      };
      pg = k.1.1.1.1.0 i;
      z = k.1.1.1.1.1.0 i;
    }))
    ∙ ap (λ y. insn.TileMove (record x { to_tile = y })) (sym e)
remade_move x false e = λ u s k.
    (λ i. insn.TileMove (record {
      to_tile = false;
      slice = record {
        size = x.slice.size;
        vertical = one _ x.slice.vertical k.1.1.1.0 i;
        rv = from_is 12 2 _ x.slice.rv k.1.1.1.1.0 i;
        tile = k.1.1.0 i;
        offset = k.1.1.1.1.1.0 i;
      };
      pg = k.1.0 i;
      z = k.0 i;
    }))
    ∙ ap (λ y. insn.TileMove (record x { to_tile = y })) (sym e)

pub forth : (it : Insn) → IsRemade it (parts_of it)
unfolding eight slots kept are_kept named_copy named_permute named_reduction named_compare named_predicate named_count named_element
    named_access named_sve2 named_array named_streaming named_slice moved_slice moved_vector named copy_parts permute_parts reduction_parts
    compare_parts predicate_parts count_parts element_parts access_parts sve2_parts array_parts streaming_parts shift_parts slice_numbers
    move_parts parts_of padded
forth (insn.VectorArithmetic x) = λ u s k i.
    insn.VectorArithmetic (record { op = x.op; size = elem_is _ x.size k.0 i; zm = k.1.1.1.0 i; zn = k.1.1.0 i; zd = k.1.0 i })
forth (insn.VectorLogical x) = λ u s k i. insn.VectorLogical (record { op = x.op; zm = k.1.1.0 i; zn = k.1.0 i; zd = k.0 i })
forth (insn.PredicatedBinary x) = λ u s k i.
    insn.PredicatedBinary (record { op = x.op; size = elem_is _ x.size k.0 i; pg = k.1.1.0 i; zm = k.1.1.1.0 i; zdn = k.1.0 i })
forth (insn.MultiplyAdd x) = λ u s k i.
    insn.MultiplyAdd (record {
      op = x.op;
      size = elem_is _ x.size k.0 i;
      pg = k.1.1.0 i;
      zm = k.1.1.1.1.0 i;
      zn = k.1.1.1.0 i;
      zda = k.1.0 i;
    })
forth (insn.PredicatedUnary x) = λ u s k i.
    insn.PredicatedUnary (record { op = x.op; size = elem_is _ x.size k.0 i; pg = k.1.1.0 i; zn = k.1.1.1.0 i; zd = k.1.0 i })
forth (insn.VectorCopy (copy.Register size rn zd)) = λ u s k i. insn.VectorCopy (copy.Register (elem_is _ size k.0 i) (k.1.1.0 i) (k.1.0 i))
forth (insn.VectorCopy (copy.PredicatedRegister size pg rn zd)) = λ u s k i.
    insn.VectorCopy (copy.PredicatedRegister (elem_is _ size k.0 i) (k.1.1.0 i) (k.1.1.1.0 i) (k.1.0 i))
forth (insn.VectorCopy (copy.Immediate size shifted imm zd)) = λ u s k i.
    insn.VectorCopy (copy.Immediate (elem_is _ size k.0 i) (one _ shifted k.1.1.1.0 i) (k.1.1.0 i) (k.1.0 i))
forth (insn.VectorCopy (copy.PredicatedImmediate size pg merging shifted imm zd)) = λ u s k i.
    insn.VectorCopy (copy.PredicatedImmediate (elem_is _ size k.0 i) (k.1.1.0 i) (one _ merging k.1.1.1.0 i) (one _ shifted k.1.1.1.1.1.0 i)
    (k.1.1.1.1.0 i) (k.1.0 i))
forth (insn.VectorCopy (copy.Index size (part.Immediate start) (part.Immediate step) zd)) = λ u s k i.
    insn.VectorCopy (copy.Index (elem_is _ size k.0 i) (part.Immediate (k.1.1.0 i)) (part.Immediate (k.1.1.1.0 i)) (k.1.0 i))
forth (insn.VectorCopy (copy.Index size (part.Register start) (part.Immediate step) zd)) = λ u s k i.
    insn.VectorCopy (copy.Index (elem_is _ size k.0 i) (part.Register (k.1.1.0 i)) (part.Immediate (k.1.1.1.0 i)) (k.1.0 i))
forth (insn.VectorCopy (copy.Index size (part.Immediate start) (part.Register step) zd)) = λ u s k i.
    insn.VectorCopy (copy.Index (elem_is _ size k.0 i) (part.Immediate (k.1.1.0 i)) (part.Register (k.1.1.1.0 i)) (k.1.0 i))
forth (insn.VectorCopy (copy.Index size (part.Register start) (part.Register step) zd)) = λ u s k i.
    insn.VectorCopy (copy.Index (elem_is _ size k.0 i) (part.Register (k.1.1.0 i)) (part.Register (k.1.1.1.0 i)) (k.1.0 i))
forth (insn.VectorCopy (copy.AddImmediate op size shifted imm zdn)) = λ u s k i.
    insn.VectorCopy (copy.AddImmediate op (elem_is _ size k.0 i) (one _ shifted k.1.1.1.0 i) (k.1.1.0 i) (k.1.0 i))
forth (insn.VectorCopy (copy.MultiplyImmediate size imm zdn)) = λ u s k i.
    insn.VectorCopy (copy.MultiplyImmediate (elem_is _ size k.0 i) (k.1.1.0 i) (k.1.0 i))
forth (insn.VectorCopy (copy.Select size zm pg zn zd)) = λ u s k i.
    insn.VectorCopy (copy.Select (elem_is _ size k.0 i) (k.1.1.1.1.0 i) (k.1.1.0 i) (k.1.1.1.0 i) (k.1.0 i))
forth (insn.VectorCopy (copy.Prefix zn zd)) = λ u s k i. insn.VectorCopy (copy.Prefix (k.1.0 i) (k.0 i))
forth (insn.VectorPermute (permute.Interleave op size zm zn zd)) = λ u s k i.
    insn.VectorPermute (permute.Interleave op (elem_is _ size k.0 i) (k.1.1.1.0 i) (k.1.1.0 i) (k.1.0 i))
forth (insn.VectorPermute (permute.Reverse size zn zd)) = λ u s k i.
    insn.VectorPermute (permute.Reverse (elem_is _ size k.0 i) (k.1.1.0 i) (k.1.0 i))
forth (insn.VectorPermute (permute.Table size zm zn zd)) = λ u s k i.
    insn.VectorPermute (permute.Table (elem_is _ size k.0 i) (k.1.1.1.0 i) (k.1.1.0 i) (k.1.0 i))
forth (insn.VectorPermute (permute.Extract amount zm zdn)) = λ u s k i. insn.VectorPermute (permute.Extract (k.1.1.0 i) (k.1.0 i) (k.0 i))
forth (insn.VectorPermute (permute.Unpack by_sign high size zn zd)) = λ u s k i.
    insn.VectorPermute (permute.Unpack by_sign high (elem_is _ size k.0 i) (k.1.1.0 i) (k.1.0 i))
forth (insn.VectorReduction (reduction.Last active size pg zn rd)) = λ u s k i.
    insn.VectorReduction (reduction.Last active (elem_is _ size k.0 i) (k.1.1.0 i) (k.1.1.1.0 i) (k.1.0 i))
forth (insn.VectorReduction (reduction.Reduce op size pg zn vd)) = λ u s k i.
    insn.VectorReduction (reduction.Reduce op (elem_is _ size k.0 i) (k.1.1.0 i) (k.1.1.1.0 i) (k.1.0 i))
forth (insn.VectorCompare (compare.Vectors op size zm pg zn pd)) = λ u s k i.
    insn.VectorCompare (compare.Vectors op (elem_is _ size k.0 i) (k.1.1.1.1.0 i) (k.1.1.0 i) (k.1.1.1.0 i) (k.1.0 i))
forth (insn.VectorCompare (compare.Immediate op size imm pg zn pd)) = λ u s k i.
    insn.VectorCompare (compare.Immediate op (elem_is _ size k.0 i) (k.1.1.1.1.0 i) (k.1.1.0 i) (k.1.1.1.0 i) (k.1.0 i))
forth (insn.Predicate (predicate.True size pattern pd)) = λ u s k i.
    insn.Predicate (predicate.True (elem_is _ size k.0 i) (k.1.1.0 i) (k.1.0 i))
forth (insn.Predicate (predicate.False pd)) = λ u s k i. insn.Predicate (predicate.False (k.0 i))
forth (insn.Predicate (predicate.Test pg pn)) = λ u s k i. insn.Predicate (predicate.Test (k.0 i) (k.1.0 i))
forth (insn.Predicate (predicate.Logical Sel false pm pg pn pd)) = λ u s k i.
    insn.Predicate (predicate.Logical Sel false (k.1.1.1.0 i) (k.1.0 i) (k.1.1.0 i) (k.0 i))
forth (insn.Predicate (predicate.Logical Sel true pm pg pn pd)) = tt
forth (insn.Predicate (predicate.Logical op flags pm pg pn pd)) = λ u s k i.
    insn.Predicate (predicate.Logical op (one _ flags k.0 i) (k.1.1.1.1.0 i) (k.1.1.0 i) (k.1.1.1.0 i) (k.1.0 i))
forth (insn.PredicateCount (count.While by_sign wide size rm rn pd)) = λ u s k i.
    insn.PredicateCount (count.While by_sign (one _ wide k.0 i) (elem_is _ size k.1.0 i) (k.1.1.1.1.0 i) (k.1.1.1.0 i) (k.1.1.0 i))
forth (insn.PredicateCount (count.Active size pg pn rd)) = λ u s k i.
    insn.PredicateCount (count.Active (elem_is _ size k.0 i) (k.1.1.0 i) (k.1.1.1.0 i) (k.1.0 i))
forth (insn.PredicateCount count.SetFfr) = λ u s k i. insn.PredicateCount count.SetFfr
forth (insn.PredicateCount (count.ReadFfr pd)) = λ u s k i. insn.PredicateCount (count.ReadFfr (k.0 i))
forth (insn.PredicateCount (count.WriteFfr pn)) = λ u s k i. insn.PredicateCount (count.WriteFfr (k.0 i))
forth (insn.ElementCount (element.Count size pattern multiplier rd)) = λ u s k i.
    insn.ElementCount (element.Count (elem_is _ size k.0 i) (k.1.1.0 i) (from_is 1 4 _ multiplier k.1.1.1.0 i) (k.1.0 i))
forth (insn.ElementCount (element.Change decrement size pattern multiplier rd)) = λ u s k i.
    insn.ElementCount (element.Change decrement (elem_is _ size k.0 i) (k.1.1.0 i) (from_is 1 4 _ multiplier k.1.1.1.0 i) (k.1.0 i))
forth (insn.ElementCount (element.Length imm rd)) = λ u s k i. insn.ElementCount (element.Length (k.1.0 i) (k.0 i))
forth (insn.ElementCount (element.AddLength predicate imm rn rd)) = λ u s k i.
    insn.ElementCount (element.AddLength predicate (k.1.1.0 i) (k.1.0 i) (k.0 i))
forth (insn.VectorAccess (access.Load kind (vector_offset.Vectors offset) pg rn zt)) = λ u s k i.
    insn.VectorAccess (access.Load (load_type_is _ kind k.0 i) (vector_offset.Vectors (k.1.1.1.1.0 i)) (k.1.1.0 i) (k.1.1.1.0 i) (k.1.0 i))
forth (insn.VectorAccess (access.Load kind (vector_offset.Register offset) pg rn zt)) = λ u s k i.
    insn.VectorAccess (access.Load (load_type_is _ kind k.0 i) (vector_offset.Register (k.1.1.1.1.0 i)) (k.1.1.0 i) (k.1.1.1.0 i) (k.1.0 i))
forth (insn.VectorAccess (access.Store memory element (vector_offset.Vectors offset) pg rn zt)) = λ u s k i.
    insn.VectorAccess (access.Store (elem_is _ memory k.0 i) (elem_is _ element k.1.0 i) (vector_offset.Vectors (k.1.1.1.1.1.0 i))
    (k.1.1.1.0 i) (k.1.1.1.1.0 i) (k.1.1.0 i))
forth (insn.VectorAccess (access.Store B element (vector_offset.Register offset) pg rn zt)) = λ u s k i.
    insn.VectorAccess (access.Store B (elem_is _ element k.0 i) (vector_offset.Register (k.1.1.1.1.0 i)) (k.1.1.0 i) (k.1.1.1.0 i)
    (k.1.0 i))
forth (insn.VectorAccess (access.Store H element (vector_offset.Register offset) pg rn zt)) = λ u s k i.
    insn.VectorAccess (access.Store H (elem_is _ element k.0 i) (vector_offset.Register (k.1.1.1.1.0 i)) (k.1.1.0 i) (k.1.1.1.0 i)
    (k.1.0 i))
forth (insn.VectorAccess (access.Store S element (vector_offset.Register offset) pg rn zt)) = λ u s k i.
    insn.VectorAccess (access.Store S (elem_is _ element k.0 i) (vector_offset.Register (k.1.1.1.1.0 i)) (k.1.1.0 i) (k.1.1.1.0 i)
    (k.1.0 i))
forth (insn.VectorAccess (access.Store D D (vector_offset.Register offset) pg rn zt)) = λ u s k i.
    insn.VectorAccess (access.Store D D (vector_offset.Register (k.1.1.1.0 i)) (k.1.0 i) (k.1.1.0 i) (k.0 i))
forth (insn.VectorAccess (access.Store memory element (vector_offset.Register rm) pg rn zt)) = tt
forth (insn.VectorAccess (access.Vector store vectors rn zt)) = λ u s k i.
    insn.VectorAccess (access.Vector store (k.1.1.0 i) (k.1.0 i) (k.0 i))
forth (insn.VectorAccess (access.Predicate store vectors rn pt)) = λ u s k i.
    insn.VectorAccess (access.Predicate store (k.1.1.0 i) (k.1.0 i) (k.0 i))
forth (insn.Sve2 (sve2.Multiply op size zm zn zd)) = λ u s k i.
    insn.Sve2 (sve2.Multiply op (elem_is _ size k.0 i) (k.1.1.1.0 i) (k.1.1.0 i) (k.1.0 i))
forth (insn.Sve2 (sve2.Ternary op zm zk zdn)) = λ u s k i. insn.Sve2 (sve2.Ternary op (k.1.0 i) (k.1.1.0 i) (k.0 i))
forth (insn.Sve2 (sve2.Widening op top size zm zn zd)) = λ u s k i.
    insn.Sve2 (sve2.Widening op top (elem_is _ size k.0 i) (k.1.1.1.0 i) (k.1.1.0 i) (k.1.0 i))
forth (insn.ArrayAccess (array.Zero mask)) = λ u s k i. insn.ArrayAccess (array.Zero (k.0 i))
forth (insn.ArrayAccess (array.Transfer store rv offset rn)) = λ u s k i.
    insn.ArrayAccess (array.Transfer store (from_is 12 2 _ rv k.0 i) (k.1.0 i) (k.1.1.0 i))
forth (insn.StreamingLength (streaming.Length imm rd)) = λ u s k i. insn.StreamingLength (streaming.Length (k.1.0 i) (k.0 i))
forth (insn.StreamingLength (streaming.AddLength predicate imm rn rd)) = λ u s k i.
    insn.StreamingLength (streaming.AddLength predicate (k.1.1.0 i) (k.1.0 i) (k.0 i))
forth (insn.VectorShift x) = remade_shift x x.size refl
forth (insn.Mode x) = λ u s k. refl
forth (insn.TileAccess x) = λ u s k i.
    insn.TileAccess (record {
      store = x.store;
      slice = record {
        size = x.slice.size;
        vertical = one _ x.slice.vertical k.1.0 i;
        rv = from_is 12 2 _ x.slice.rv k.1.1.0 i;
        tile = k.0 i;
        offset = k.1.1.1.0 i;
      };
      pg = k.1.1.1.1.0 i;
      rm = k.1.1.1.1.1.1.0 i;
      rn = k.1.1.1.1.1.0 i;
    })
forth (insn.TileMove x) = remade_move x x.to_tile refl
forth (insn.TileAdd x) = λ u s k i.
    insn.TileAdd (record { vertical = x.vertical; wide = x.wide; tile = k.0 i; pn = k.1.0 i; pm = k.1.1.0 i; zn = k.1.1.1.0 i })
forth (insn.OuterProduct x) = λ u s k i.
    insn.OuterProduct (record {
      op = x.op;
      subtract = one _ x.subtract k.0 i;
      wide = x.wide;
      tile = k.1.0 i;
      pn = k.1.1.0 i;
      pm = k.1.1.1.0 i;
      zn = k.1.1.1.1.0 i;
      zm = k.1.1.1.1.1.0 i;
    })
forth _ = tt
