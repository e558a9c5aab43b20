-- An instruction whose fields are in their ranges is in its row: its numbers are in the row's fields, and meet its
-- condition.
use Rattle.std.proofs.Common.{◌≡◌, ℕ, ◌+◌, ◌-◌, ◌<◌, ◌≤◌, ◌^◌, ◌==◌, Bool, true, false, cond, nat_lt, nat_le, refl, ap, ap₂, ◌∙◌}
use Rattle.std.proofs.Common.{subst, arith, leb-true, le-leb, List, Some, ℤ}
use Rattle.std.proofs.lemmas.Bool.{and_parts}
use Rattle.insn_forms.specs.declared.field.Field.{Field}
use Rattle.insn_forms.specs.declared.number.Parts.{Parts}
use Rattle.insn_forms.specs.Fields.{bits_of}
use Rattle.insn_forms.specs.Forms.{flag_bit, are_in, is_in, padded}
use Rattle.insn_forms.specs.Values.{is_one}
use Rattle.insn_forms.proofs.Laws.{agrees}
use Rattle.insn_forms.proofs.Tables.{IsInLine}
use Rattle.insn_forms.proofs.Numbers.{◌&◌, low, flag, tag, twos_complement}
use Rattle.insn_forms.proofs.Ways.{eight, field_of_slot}
use Rattle.sm_types.specs.declared.insn.Insn.{Insn}
use Rattle.sm_types.specs.declared.insn.Insn.TheVariants as insn
use Rattle.sm_types.specs.contracts.vector as enums
use Rattle.sm_types.specs.declared.vector as types
use Rattle.sm_types.specs.declared.matrix as matrix
use types.{Elem.Elem, PredicateLogicalOp.TheVariants.Sel, ReductionOp.ReductionOp, ReductionOp.TheVariants.Saddv, VectorShift.VectorShift}
use types.{VectorShiftOp.VectorShiftOp}
use types.VectorShiftOp.TheVariants.{Asr, Lsr, Lsl}
use types.Elem.TheVariants.{B, H, S, D, Q}
use types.IndexPart.TheVariants as part
use types.VectorOffset.TheVariants as vector_offset
use matrix.TileMove.{TileMove}
use types.VectorCopy.TheVariants as copy
use types.VectorPermute.TheVariants as permute
use types.VectorReduction.TheVariants as reduction
use types.VectorCompare.TheVariants as compare
use types.Predicate.TheVariants as predicate
use types.PredicateCount.TheVariants as count
use types.ElementCount.TheVariants as element
use types.VectorAccess.TheVariants as access
use types.Sve2.TheVariants as sve2
use matrix.ArrayAccess.TheVariants as array
use matrix.StreamingLength.TheVariants as streaming
use Rattle.sve_table.specs.declared.operation.VectorOperation.{VectorOperation}
use Rattle.sve_table.specs.Values.{elem_number, tile_field, offset_field, source_tile_field, source_offset_field, sum_field}
use Rattle.sve_table.specs.Sizes.{is_size_between, least_binary, least_unary, least_shifted, widest_reduced}
use Rattle.sve_table.specs.Conditions.{fits_of, is_from, is_up_to, is_offset}
use Rattle.sve_table.specs.Parts.{number_from, shift_number, copy_parts, permute_parts, reduction_parts, compare_parts, predicate_parts}
use Rattle.sve_table.specs.Parts.{count_parts, element_parts, access_parts, sve2_parts, array_parts, streaming_parts, shift_parts}
use Rattle.sve_table.specs.Parts.{slice_numbers, move_parts, parts_of}
use Rattle.sve_table.specs.Ranges.{IsInVectorRow, IsAmount, IsMultiplier, IsSliceRegister, IsTileMove, IsVectorShift, bits_of_elem, offsets}
use Rattle.sve_table.specs.Ranges.{sum_tiles, tiles}
use Rattle.sve_table.specs.Table.{vector}
use Rattle.sve_table.proofs.Checks.{has_row, row-format}
use Rattle.sve_table.proofs.Groups.{format, slots, kept}

-- ---- numbers in their fields, and conditions
is_flag : (b : Bool) → (flag_bit b == 1) ≡ b
is_flag true = refl
is_flag false = refl

least : (l size : Elem) → is_size_between l D size ≡ true → is_from l (elem_number size) ≡ true
unfolding is_from
least l size e = (and_parts _ _ e).0

widest : (w size : Elem) → is_size_between B w size ≡ true → is_up_to w (elem_number size) ≡ true
unfolding is_up_to
widest w size e = (and_parts _ _ e).1

three : (n : ℕ) → nat_le n 3 ≡ true → nat_lt n 4 ≡ true
three n e = let le = leb-true n 3 e in low (omega arith)

elem_low : (l size : Elem) → is_size_between l D size ≡ true → nat_lt (elem_number size) 4 ≡ true
elem_low l size e = three _ (and_parts _ _ e).1

memory_low : (memory element : Elem) → is_size_between memory D element ≡ true → nat_lt (elem_number memory) 4 ≡ true
memory_low memory element e =
    let p = and_parts (nat_le (elem_number memory) (elem_number element)) (nat_le (elem_number element) 3) e in
    let m = leb-true (elem_number memory) (elem_number element) p.0 in
    let n = leb-true (elem_number element) 3 p.1 in
    low (omega arith)

reduced_low : (op : ReductionOp) (size : Elem) → is_size_between B (widest_reduced op) size ≡ true → nat_lt (elem_number size) 4 ≡ true
unfolding widest_reduced
reduced_low Saddv size e =
    let le = leb-true (elem_number size) 2 (and_parts (nat_le 0 (elem_number size)) (nat_le (elem_number size) 2) e).1 in
    low (omega arith)
reduced_low _ size e = elem_low B size e

offset_low : {rm : ℕ} → rm < 31 → nat_lt rm 32 ≡ true
offset_low lt = low (omega arith)

from_low : (least bits it : ℕ) → least ≤ it → it < least + 2 ^ bits → nat_lt (number_from least bits it) (2 ^ bits) ≡ true
unfolding number_from
from_low least bits it le lt = ap (λ b. nat_lt (cond b (it - least) (2 ^ bits)) (2 ^ bits)) (le-leb least it le) ∙ low (omega arith)

multiplier_low : (it : ℕ) → IsMultiplier it → nat_lt (number_from 1 4 it) 16 ≡ true
multiplier_low it h = let some = h.0 in let most = h.1 in from_low 1 4 it (omega arith) (omega arith)

register_low : (it : ℕ) → IsSliceRegister it → nat_lt (number_from 12 2 it) 4 ≡ true
register_low it h = from_low 12 2 it h.0 h.1

amount_low : (op : VectorShiftOp) (width amount : ℕ) → IsAmount op width amount → nat_lt (shift_number op width amount) width ≡ true
unfolding shift_number
amount_low Lsl width amount h = low h
amount_low Asr width amount h =
    let some = h.0 in
    ap (λ b. nat_lt (cond b (width - amount) width) width) (le-leb amount width h.1) ∙ low (let le = h.1 in omega arith)
amount_low Lsr width amount h =
    let some = h.0 in
    ap (λ b. nat_lt (cond b (width - amount) width) width) (le-leb amount width h.1) ∙ low (let le = h.1 in omega arith)

tile_low : (size : Elem) (n : ℕ) → n < tiles size → nat_lt n (2 ^ bits_of (tile_field size)) ≡ true
unfolding tile_field
tile_low B n lt = low lt
tile_low _ n lt = low lt

offset_in : (size : Elem) (n : ℕ) → n < offsets size → nat_lt n (2 ^ bits_of (offset_field size)) ≡ true
unfolding offset_field
offset_in B n lt = low lt
offset_in _ n lt = low lt

source_tile_low : (size : Elem) (n : ℕ) → n < tiles size → nat_lt n (2 ^ bits_of (source_tile_field size)) ≡ true
unfolding source_tile_field
source_tile_low B n lt = low lt
source_tile_low _ n lt = low lt

source_offset_in : (size : Elem) (n : ℕ) → n < offsets size → nat_lt n (2 ^ bits_of (source_offset_field size)) ≡ true
unfolding source_offset_field
source_offset_in B n lt = low lt
source_offset_in _ n lt = low lt

sum_low : (wide : Bool) (n : ℕ) → n < sum_tiles wide → nat_lt n (2 ^ bits_of (sum_field wide)) ≡ true
unfolding sum_field
sum_low true n lt = low lt
sum_low false n lt = low lt

-- ---- an instruction in its row
made : (it : Insn) (p : Parts VectorOperation) → parts_of it ≡ Some p → are_in (format p.operation) p.numbers ≡ true
    → ((u : Field → ℕ) (s : Field → ℤ) → agrees (format p.operation) p.numbers u s → fits_of p.operation u ≡ true)
    → IsInLine vector parts_of it
unfolding vector
made it p e w f =
    let r = has_row p.operation in
    let same = row-format r.place r.row r.listed ∙ ap format r.same in
    record {
      told = p;
      has = e;
      place = r.place;
      line = r.row;
      listed = r.listed;
      same = r.same;
      within = ap (λ fs. are_in fs p.numbers) same ∙ w;
      fits = λ u s a. ap (λ o. fits_of o u) r.same ∙ f u s (subst (λ (fs : List Field). agrees fs p.numbers u s) same a);
    }

-- a shift, by its elements
shift_line : (x : VectorShift) (size : Elem) → x.size ≡ size → IsVectorShift x → IsInLine vector parts_of (insn.VectorShift x)
unfolding are_in is_in format slots eight kept field_of_slot padded agrees fits_of parts_of shift_parts
shift_line x B e h =
    let amount = subst (λ z. IsAmount x.op (bits_of_elem z) x.amount) e h.amount in
    made _ _ (ap (shift_parts x) e) (low h.zd & low h.zn & amount_low x.op 8 x.amount amount & refl) (λ u s a. refl)
shift_line x H e h =
    let amount = subst (λ z. IsAmount x.op (bits_of_elem z) x.amount) e h.amount in
    made _ _ (ap (shift_parts x) e) (low h.zd & low h.zn & amount_low x.op 16 x.amount amount & refl) (λ u s a. refl)
shift_line x S e h =
    let amount = subst (λ z. IsAmount x.op (bits_of_elem z) x.amount) e h.amount in
    made _ _ (ap (shift_parts x) e) (low h.zd & low h.zn & amount_low x.op 32 x.amount amount & refl) (λ u s a. refl)
shift_line x D e h =
    let amount = subst (λ z. IsAmount x.op (bits_of_elem z) x.amount) e h.amount in
    made _ _ (ap (shift_parts x) e) (low h.zd & low h.zn & amount_low x.op 64 x.amount amount & refl) (λ u s a. refl)
shift_line x Q e h = let none : is_size_between B D Q ≡ true = subst (λ z. is_size_between B D z ≡ true) e h.size in cc

-- a move of a slice, by its direction
move_line : (x : TileMove) (to_tile : Bool) → x.to_tile ≡ to_tile → IsTileMove x → IsInLine vector parts_of (insn.TileMove x)
unfolding are_in is_in format slots eight kept field_of_slot padded agrees fits_of parts_of move_parts slice_numbers
move_line x true e h =
    made _ _ (ap (move_parts x) e)
    (tile_low x.slice.size x.slice.tile h.slice.tile & flag x.slice.vertical & register_low x.slice.rv h.slice.rv
    & offset_in x.slice.size x.slice.offset h.slice.offset & low h.pg & low h.z & refl)
    (λ u s a. refl)
move_line x false e h =
    made _ _ (ap (move_parts x) e)
    (low h.z & low h.pg & source_tile_low x.slice.size x.slice.tile h.slice.tile & flag x.slice.vertical
    & register_low x.slice.rv h.slice.rv & source_offset_in x.slice.size x.slice.offset h.slice.offset & refl)
    (λ u s a. refl)

pub in_line : (it : Insn) → IsInVectorRow it → IsInLine vector parts_of it
unfolding are_in is_in format slots eight kept field_of_slot padded agrees fits_of is_from is_offset copy_parts permute_parts
    reduction_parts compare_parts predicate_parts count_parts element_parts access_parts sve2_parts array_parts streaming_parts
    slice_numbers parts_of
in_line (insn.VectorArithmetic x) h = made _ _ refl (elem_low B x.size h.size & low h.zd & low h.zn & low h.zm & refl) (λ u s a. refl)
in_line (insn.VectorLogical x) h = made _ _ refl (low h.zd & low h.zn & low h.zm & refl) (λ u s a. refl)
in_line (insn.PredicatedBinary x) h =
    made _ _ refl (elem_low (least_binary x.op) x.size h.size & low h.zdn & low h.pg & low h.zm & refl)
    (λ u s a. ap (is_from (least_binary x.op)) a.0 ∙ least (least_binary x.op) x.size h.size)
in_line (insn.MultiplyAdd x) h =
    made _ _ refl (elem_low B x.size h.size & low h.zda & low h.pg & low h.zn & low h.zm & refl) (λ u s a. refl)
in_line (insn.PredicatedUnary x) h =
    made _ _ refl (elem_low (least_unary x.op) x.size h.size & low h.zd & low h.pg & low h.zn & refl)
    (λ u s a. ap (is_from (least_unary x.op)) a.0 ∙ least (least_unary x.op) x.size h.size)
in_line (insn.VectorCopy (copy.Register size rn zd)) h = made _ _ refl (elem_low B size h.0 & low h.2 & low h.1 & refl) (λ u s a. refl)
in_line (insn.VectorCopy (copy.PredicatedRegister size pg rn zd)) h =
    made _ _ refl (elem_low B size h.0 & low h.3 & low h.1 & low h.2 & refl) (λ u s a. refl)
in_line (insn.VectorCopy (copy.Immediate size shifted imm zd)) h =
    made _ _ refl (elem_low (least_shifted shifted) size h.0 & low h.2 & twos_complement 8 imm (omega arith) h.1 & flag shifted & refl)
    (λ u s a. ap₂ (λ b k. is_from (least_shifted b) k) (ap is_one a.1.1.1.0 ∙ is_flag shifted) a.0 ∙ least (least_shifted shifted) size h.0)
in_line (insn.VectorCopy (copy.PredicatedImmediate size pg merging shifted imm zd)) h =
    made _ _ refl (elem_low (least_shifted shifted) size h.0 & low h.3 & low h.1 & flag merging & twos_complement 8 imm (omega arith) h.2
    & flag shifted & refl)
    (λ u s a. ap₂ (λ b k. is_from (least_shifted b) k) (ap is_one a.1.1.1.1.1.0 ∙ is_flag shifted) a.0
    ∙ least (least_shifted shifted) size h.0)
in_line (insn.VectorCopy (copy.Index size (part.Immediate start) (part.Immediate step) zd)) h =
    made _ _ refl (elem_low B size h.0 & low h.3 & twos_complement 5 start (omega arith) h.1 & twos_complement 5 step (omega arith) h.2
    & refl)
    (λ u s a. refl)
in_line (insn.VectorCopy (copy.Index size (part.Register start) (part.Immediate step) zd)) h =
    made _ _ refl (elem_low B size h.0 & low h.3 & low h.1 & twos_complement 5 step (omega arith) h.2 & refl) (λ u s a. refl)
in_line (insn.VectorCopy (copy.Index size (part.Immediate start) (part.Register step) zd)) h =
    made _ _ refl (elem_low B size h.0 & low h.3 & twos_complement 5 start (omega arith) h.1 & low h.2 & refl) (λ u s a. refl)
in_line (insn.VectorCopy (copy.Index size (part.Register start) (part.Register step) zd)) h =
    made _ _ refl (elem_low B size h.0 & low h.3 & low h.1 & low h.2 & refl) (λ u s a. refl)
in_line (insn.VectorCopy (copy.AddImmediate op size shifted imm zdn)) h =
    made _ _ refl (elem_low (least_shifted shifted) size h.0 & low h.2 & low h.1 & flag shifted & refl)
    (λ u s a. ap₂ (λ b k. is_from (least_shifted b) k) (ap is_one a.1.1.1.0 ∙ is_flag shifted) a.0 ∙ least (least_shifted shifted) size h.0)
in_line (insn.VectorCopy (copy.MultiplyImmediate size imm zdn)) h =
    made _ _ refl (elem_low B size h.0 & low h.2 & twos_complement 8 imm (omega arith) h.1 & refl) (λ u s a. refl)
in_line (insn.VectorCopy (copy.Select size zm pg zn zd)) h =
    made _ _ refl (elem_low B size h.0 & low h.4 & low h.2 & low h.3 & low h.1 & refl) (λ u s a. refl)
in_line (insn.VectorCopy (copy.Prefix zn zd)) h = made _ _ refl (low h.1 & low h.0 & refl) (λ u s a. refl)
in_line (insn.VectorPermute (permute.Interleave op size zm zn zd)) h =
    made _ _ refl (elem_low B size h.0 & low h.3 & low h.2 & low h.1 & refl) (λ u s a. refl)
in_line (insn.VectorPermute (permute.Reverse size zn zd)) h = made _ _ refl (elem_low B size h.0 & low h.2 & low h.1 & refl) (λ u s a. refl)
in_line (insn.VectorPermute (permute.Table size zm zn zd)) h =
    made _ _ refl (elem_low B size h.0 & low h.3 & low h.2 & low h.1 & refl) (λ u s a. refl)
in_line (insn.VectorPermute (permute.Extract amount zm zdn)) h = made _ _ refl (low h.2 & low h.1 & low h.0 & refl) (λ u s a. refl)
in_line (insn.VectorPermute (permute.Unpack by_sign high size zn zd)) h =
    made _ _ refl (elem_low H size h.0 & low h.2 & low h.1 & refl) (λ u s a. ap (is_from H) a.0 ∙ least H size h.0)
in_line (insn.VectorReduction (reduction.Last active size pg zn rd)) h =
    made _ _ refl (elem_low B size h.0 & low h.3 & low h.1 & low h.2 & refl) (λ u s a. refl)
in_line (insn.VectorReduction (reduction.Reduce op size pg zn vd)) h =
    made _ _ refl (reduced_low op size h.0 & low h.3 & low h.1 & low h.2 & refl)
    (λ u s a. ap (is_up_to (widest_reduced op)) a.0 ∙ widest (widest_reduced op) size h.0)
in_line (insn.VectorCompare (compare.Vectors op size zm pg zn pd)) h =
    made _ _ refl (elem_low B size h.0 & low h.4 & low h.2 & low h.3 & low h.1 & refl) (λ u s a. refl)
in_line (insn.VectorCompare (compare.Immediate op size imm pg zn pd)) h =
    made _ _ refl (elem_low B size h.0 & low h.4 & low h.2 & low h.3 & twos_complement 5 imm (omega arith) h.1 & refl) (λ u s a. refl)
in_line (insn.Predicate (predicate.True size pattern pd)) h = made _ _ refl (elem_low B size h.0 & low h.2 & low h.1 & refl) (λ u s a. refl)
in_line (insn.Predicate (predicate.False pd)) h = made _ _ refl (low h & refl) (λ u s a. refl)
in_line (insn.Predicate (predicate.Test pg pn)) h = made _ _ refl (low h.0 & low h.1 & refl) (λ u s a. refl)
in_line (insn.Predicate (predicate.Logical Sel false pm pg pn pd)) h =
    made _ _ refl (low h.4 & low h.2 & low h.3 & low h.1 & refl) (λ u s a. refl)
in_line (insn.Predicate (predicate.Logical Sel true pm pg pn pd)) h = let none = h.0 refl in cc
in_line (insn.Predicate (predicate.Logical op flags pm pg pn pd)) h =
    made _ _ refl (flag flags & low h.4 & low h.2 & low h.3 & low h.1 & refl) (λ u s a. refl)
in_line (insn.PredicateCount (count.While by_sign wide size rm rn pd)) h =
    made _ _ refl (flag wide & elem_low B size h.0 & low h.3 & low h.2 & low h.1 & refl) (λ u s a. refl)
in_line (insn.PredicateCount (count.Active size pg pn rd)) h =
    made _ _ refl (elem_low B size h.0 & low h.3 & low h.1 & low h.2 & refl) (λ u s a. refl)
in_line (insn.PredicateCount count.SetFfr) h = made _ _ refl refl (λ u s a. refl)
in_line (insn.PredicateCount (count.ReadFfr pd)) h = made _ _ refl (low h & refl) (λ u s a. refl)
in_line (insn.PredicateCount (count.WriteFfr pn)) h = made _ _ refl (low h & refl) (λ u s a. refl)
in_line (insn.ElementCount (element.Count size pattern multiplier rd)) h =
    made _ _ refl (elem_low B size h.0 & low h.3 & low h.1 & multiplier_low multiplier h.2 & refl) (λ u s a. refl)
in_line (insn.ElementCount (element.Change decrement size pattern multiplier rd)) h =
    made _ _ refl (elem_low B size h.0 & low h.3 & low h.1 & multiplier_low multiplier h.2 & refl) (λ u s a. refl)
in_line (insn.ElementCount (element.Length imm rd)) h =
    made _ _ refl (low h.1 & twos_complement 6 imm (omega arith) h.0 & refl) (λ u s a. refl)
in_line (insn.ElementCount (element.AddLength predicate imm rn rd)) h =
    made _ _ refl (low h.2 & low h.1 & twos_complement 6 imm (omega arith) h.0 & refl) (λ u s a. refl)
in_line (insn.VectorAccess (access.Load kind (vector_offset.Vectors offset) pg rn zt)) h =
    made _ _ refl (tag enums.LoadType.the_type kind & low h.3 & low h.1 & low h.2 & twos_complement 4 offset (omega arith) h.0 & refl)
    (λ u s a. refl)
in_line (insn.VectorAccess (access.Load kind (vector_offset.Register offset) pg rn zt)) h =
    made _ _ refl (tag enums.LoadType.the_type kind & low h.3 & low h.1 & low h.2 & offset_low h.0 & refl)
    (λ u s a. ap is_offset a.1.1.1.1.0 ∙ low h.0)
in_line (insn.VectorAccess (access.Store memory element (vector_offset.Vectors offset) pg rn zt)) h =
    made _ _ refl (memory_low memory element h.0 & elem_low memory element h.0 & low h.4 & low h.2 & low h.3
    & twos_complement 4 offset (omega arith) h.1 & refl)
    (λ u s a. ap₂ nat_le a.0 a.1.0 ∙ least memory element h.0)
in_line (insn.VectorAccess (access.Store B element (vector_offset.Register offset) pg rn zt)) h =
    made _ _ refl (elem_low B element h.0 & low h.4 & low h.2 & low h.3 & offset_low h.1 & refl)
    (λ u s a. ap is_offset a.1.1.1.1.0 ∙ low h.1)
in_line (insn.VectorAccess (access.Store H element (vector_offset.Register offset) pg rn zt)) h =
    made _ _ refl (elem_low H element h.0 & low h.4 & low h.2 & low h.3 & offset_low h.1 & refl)
    (λ u s a. (ap (is_from H) a.0 ∙ least H element h.0) & (ap is_offset a.1.1.1.1.0 ∙ low h.1))
in_line (insn.VectorAccess (access.Store S element (vector_offset.Register offset) pg rn zt)) h =
    made _ _ refl (elem_low S element h.0 & low h.4 & low h.2 & low h.3 & offset_low h.1 & refl)
    (λ u s a. (ap (is_from S) a.0 ∙ least S element h.0) & (ap is_offset a.1.1.1.1.0 ∙ low h.1))
in_line (insn.VectorAccess (access.Store D D (vector_offset.Register offset) pg rn zt)) h =
    made _ _ refl (low h.4 & low h.2 & low h.3 & offset_low h.1 & refl) (λ u s a. ap is_offset a.1.1.1.0 ∙ low h.1)
in_line (insn.VectorAccess (access.Store Q B (vector_offset.Register rm) pg rn zt)) h = let none = h.0 in cc
in_line (insn.VectorAccess (access.Store memory element (vector_offset.Register rm) pg rn zt)) h = let none = h.0 in cc
in_line (insn.VectorAccess (access.Vector store vectors rn zt)) h =
    made _ _ refl (low h.2 & low h.1 & twos_complement 9 vectors (omega arith) h.0 & refl) (λ u s a. refl)
in_line (insn.VectorAccess (access.Predicate store vectors rn pt)) h =
    made _ _ refl (low h.2 & low h.1 & twos_complement 9 vectors (omega arith) h.0 & refl) (λ u s a. refl)
in_line (insn.Sve2 (sve2.Multiply op size zm zn zd)) h =
    made _ _ refl (elem_low B size h.0 & low h.3 & low h.2 & low h.1 & refl) (λ u s a. refl)
in_line (insn.Sve2 (sve2.Ternary op zm zk zdn)) h = made _ _ refl (low h.2 & low h.0 & low h.1 & refl) (λ u s a. refl)
in_line (insn.Sve2 (sve2.Widening op top size zm zn zd)) h =
    made _ _ refl (elem_low H size h.0 & low h.3 & low h.2 & low h.1 & refl) (λ u s a. ap (is_from H) a.0 ∙ least H size h.0)
in_line (insn.ArrayAccess (array.Zero mask)) h = made _ _ refl (low h & refl) (λ u s a. refl)
in_line (insn.ArrayAccess (array.Transfer store rv offset rn)) h =
    made _ _ refl (register_low rv h.0 & low h.1 & low h.2 & refl) (λ u s a. refl)
in_line (insn.StreamingLength (streaming.Length imm rd)) h =
    made _ _ refl (low h.1 & twos_complement 6 imm (omega arith) h.0 & refl) (λ u s a. refl)
in_line (insn.StreamingLength (streaming.AddLength predicate imm rn rd)) h =
    made _ _ refl (low h.2 & low h.1 & twos_complement 6 imm (omega arith) h.0 & refl) (λ u s a. refl)
in_line (insn.VectorShift x) h = shift_line x x.size refl h
in_line (insn.Mode x) h = made _ _ refl refl (λ u s a. refl)
in_line (insn.TileAccess x) h =
    made _ _ refl
    (tile_low x.slice.size x.slice.tile h.slice.tile & flag x.slice.vertical & register_low x.slice.rv h.slice.rv
    & offset_in x.slice.size x.slice.offset h.slice.offset & low h.pg & low h.rn & low h.rm & refl)
    (λ u s a. refl)
in_line (insn.TileMove x) h = move_line x x.to_tile refl h
in_line (insn.TileAdd x) h = made _ _ refl (sum_low x.wide x.tile h.tile & low h.pn & low h.pm & low h.zn & refl) (λ u s a. refl)
in_line (insn.OuterProduct x) h =
    made _ _ refl (flag x.subtract & sum_low x.wide x.tile h.tile & low h.pn & low h.pm & low h.zn & low h.zm & refl) (λ u s a. refl)
in_line _ h = absurd h
