-- The finite checks of the table, and its laws.
use Rattle.std.proofs.Common.{◌≡◌, ℕ, suc, ◌==◌, not, Bool, true, false, cond, refl, sym, ap, ◌∙◌, eq-eqb, bit_and, List, [], ◌∷◌}
use Rattle.std.proofs.Common.{slice_get, Option, Some, None, subst}
use Rattle.std.specs.List.{list_all}
use Rattle.std.specs.Prelude.{option_map}
use Rattle.std.proofs.lemmas.Bool.{both_ways}
use Rattle.plain_lemmas.proofs.Lists.{list_all-get}
use Rattle.insn_forms.specs.declared.line.Line.{Line}
use Rattle.insn_forms.specs.Fields.{is_field, list_of, mask_of}
use Rattle.insn_forms.specs.Forms.{is_form, fills}
use Rattle.insn_forms.specs.Tables.{HasAtMostOneLine}
use Rattle.insn_forms.proofs.Deciding.{some_is}
use Rattle.insn_forms.proofs.Lines.{same_field, same_fields, one_list, unequal}
use Rattle.insn_forms.proofs.Laws.{suits, pairwise, one_place}
use Rattle.insn_forms.proofs.Ways.{take_of, field_of_slot, eight, keeps}
use Rattle.insn_forms.proofs.Tables.{IsTable, differ, not_alike}
use Rattle.sm_types.specs.declared.vector as types
use Rattle.sm_types.specs.declared.matrix as matrix
use types.VectorArithmeticOp.TheVariants as arithmetic
use types.VectorLogicalOp.TheVariants as logical
use types.PredicatedBinaryOp.TheVariants as binary
use types.PredicatedUnaryOp.TheVariants as unary
use types.AddImmediateOp.TheVariants as add_immediate
use types.CompareVectorsOp.TheVariants.{Hs}
use types.CompareImmediateOp.TheVariants as compare_immediate
use types.PredicateLogicalOp.TheVariants as predicate_logical
use types.{Elem.TheVariants.B, MultiplyAddOp.TheVariants.Mla, InterleaveOp.TheVariants.Zip1, ReductionOp.TheVariants.Saddv}
use types.{VectorMultiplyOp.TheVariants.Mul, TernaryLogicalOp.TheVariants.Eor3}
use types.WideningOp.TheVariants.{Saddl, Uaddl, Smull, Umull, Smlal, Umlal}
use types.VectorShiftOp.TheVariants.{Asr, Lsr, Lsl}
use matrix.ModePart.TheVariants.{Sm}
use matrix.OuterProductOp.TheVariants.{Smopa, Sumopa, Usmopa, Umopa}
use Rattle.sve_table.specs.declared.operation as operations
use operations.VectorOperation.{VectorOperation}
use operations.VectorOperation.TheVariants.{G24, G25, G26, G27, G28, G29, G30, G31, G32, G33, G34, G35, G36, G37, G38, G39, G40, G41, G42}
use operations.VectorOperation.TheVariants.{G43, G44, G45}
use operations.ShiftSize.TheVariants as shift
use operations.CopyForm.TheVariants as copy
use operations.PermuteForm.TheVariants as permute
use operations.ReductionForm.TheVariants as reduction
use operations.CompareForm.TheVariants as compare
use operations.PredicateForm.TheVariants as predicate
use operations.CountForm.TheVariants as count
use operations.ElementForm.TheVariants as element
use operations.AccessForm.TheVariants as access
use operations.Sve2Form.TheVariants as sve2
use operations.ArrayForm.TheVariants as array
use operations.StreamingForm.TheVariants as streaming
use Rattle.sve_table.specs.declared.rows.TheConstants.{VECTOR_LINES}
use Rattle.sve_table.specs.Numbers.{copy_number, permute_number, reduction_number, compare_number, predicate_number, count_number}
use Rattle.sve_table.specs.Numbers.{element_number, access_number, sve2_number, array_number, streaming_number, number_of}
use Rattle.sve_table.specs.Values.{tile_field, offset_field, source_tile_field, source_offset_field, sum_field}
use Rattle.sve_table.specs.Parts.{parts_of}
use Rattle.sve_table.specs.Table.{vector}
use Rattle.sve_table.proofs.Groups.{takes, format, slots, kept, back, forth, IsRemade}

abbrev Row : Type 0
Row = Line VectorOperation

-- ---- no two rows have one operation
unfoldable unlike : Row → Row → Bool
unlike r s = not (number_of r.operation == number_of s.operation)

all_unlike : pairwise unlike VECTOR_LINES ≡ true
unfolding pairwise unlike number_of copy_number permute_number reduction_number compare_number predicate_number count_number element_number
    access_number sve2_number array_number streaming_number
all_unlike = refl

never_alike : (op : VectorOperation) (r s : Row) → unlike r s ≡ true → r.operation ≡ op → s.operation ≡ op → ⊥
unfolding unlike
never_alike op r s e f g = not_same (number_of r.operation) (number_of s.operation) e (ap number_of (f ∙ sym g))
  where
    not_same : (m n : ℕ) → not (m == n) ≡ true → m ≡ n → ⊥
    not_same m n e f = both_ways (not (m == n)) (ap not (eq-eqb m n f)) e

-- ---- and each operation has a row
unfoldable place_in : ℕ → List Row → ℕ
place_in n [] = 0
place_in n (r ∷ rs) = cond (number_of r.operation == n) 0 (suc (place_in n rs))

listed : (op : VectorOperation) → option_map (λ (r : Row). r.operation)
    (slice_get VECTOR_LINES (place_in (number_of op) VECTOR_LINES)) ≡ Some op
unfolding place_in number_of copy_number permute_number reduction_number compare_number predicate_number count_number element_number
    access_number sve2_number array_number streaming_number
listed (G24 arithmetic.Add) = refl
listed (G25 logical.And) = refl
listed (G26 binary.Add) = refl
listed (G27 Mla) = refl
listed (G28 unary.Abs) = refl
listed (G29 Asr shift.B) = refl
listed (G29 Lsr shift.B) = refl
listed (G29 Lsl shift.B) = refl
listed (G30 copy.Register) = refl
listed (G30 (copy.Index false false)) = refl
listed (G30 (copy.Index true false)) = refl
listed (G30 (copy.AddImmediate add_immediate.Add)) = refl
listed (G31 (permute.Interleave Zip1)) = refl
listed (G31 (permute.Unpack false false)) = refl
listed (G31 (permute.Unpack true false)) = refl
listed (G32 (reduction.Last false)) = refl
listed (G32 (reduction.Reduce Saddv)) = refl
listed (G33 (compare.Vectors Hs)) = refl
listed (G33 (compare.Immediate compare_immediate.Ge)) = refl
listed (G34 (predicate.Logical predicate_logical.And)) = refl
listed (G35 (count.While false)) = refl
listed (G36 (element.Change false)) = refl
listed (G36 (element.AddLength false)) = refl
listed (G37 (access.Vector false)) = refl
listed (G37 (access.Predicate false)) = refl
listed (G38 (sve2.Multiply Mul)) = refl
listed (G38 (sve2.Ternary Eor3)) = refl
listed (G38 (sve2.Widening Saddl false)) = refl
listed (G38 (sve2.Widening Uaddl false)) = refl
listed (G38 (sve2.Widening Smull false)) = refl
listed (G38 (sve2.Widening Umull false)) = refl
listed (G38 (sve2.Widening Smlal false)) = refl
listed (G38 (sve2.Widening Umlal false)) = refl
listed (G39 false Sm) = refl
listed (G39 true Sm) = refl
listed (G40 (array.Transfer false)) = refl
listed (G41 false B) = refl
listed (G41 true B) = refl
listed (G42 false B) = refl
listed (G42 true B) = refl
listed (G43 false false) = refl
listed (G43 true false) = refl
listed (G44 Smopa false) = refl
listed (G44 Sumopa false) = refl
listed (G44 Usmopa false) = refl
listed (G44 Umopa false) = refl
listed (G45 (streaming.AddLength false)) = refl
listed _ = refl

-- two operations of one number are one
pub same_operation : (a b : VectorOperation) → number_of a ≡ number_of b → a ≡ b
same_operation a b e =
    some_is (sym (listed a) ∙ ap (λ n. option_map (λ (r : Row). r.operation) (slice_get VECTOR_LINES (place_in n VECTOR_LINES))) e
    ∙ listed b)

pub record HasRow (op : VectorOperation) : Type 0 where
  pub place : ℕ
  pub row : Row
  pub listed : slice_get VECTOR_LINES place ≡ Some row
  pub same : row.operation ≡ op

pub has_row : (op : VectorOperation) → HasRow op
has_row op = go (slice_get VECTOR_LINES (place_in (number_of op) VECTOR_LINES)) refl (listed op)
  where
    go : (found : Option Row) → slice_get VECTOR_LINES (place_in (number_of op) VECTOR_LINES) ≡ found
        → option_map (λ (r : Row). r.operation) found ≡ Some op → HasRow op
    go None e f = cc
    go (Some row) e f =
        let same : row.operation ≡ op = cc in
        record { place = place_in (number_of op) VECTOR_LINES; row = row; listed = e; same = same }

-- ---- the rows are forms, and their fields are as narrow as what is taken of them
all_forms : list_all (λ (r : Row). is_form r.mask r.value (list_of r.fields)) VECTOR_LINES ≡ true
unfolding list_of is_form is_field mask_of fills
all_forms = refl

all_suit : list_all (λ (r : Row). suits (takes r.operation) (list_of r.fields)) VECTOR_LINES ≡ true
unfolding list_of suits takes slots eight kept take_of tile_field offset_field source_tile_field source_offset_field sum_field
all_suit = refl

-- ---- the fields that the instruction is read from are those of the rows
all_formats : list_all (λ (r : Row). same_fields (list_of r.fields) (format r.operation)) VECTOR_LINES ≡ true
unfolding list_of same_fields same_field format slots eight kept field_of_slot tile_field offset_field source_tile_field source_offset_field
    sum_field
all_formats = refl

pub row-format : (i : ℕ) (r : Row) → slice_get VECTOR_LINES i ≡ Some r → list_of r.fields ≡ format r.operation
row-format i r g =
    one_list (list_of r.fields) (format r.operation)
    (list_all-get (λ (r : Row). same_fields (list_of r.fields) (format r.operation)) VECTOR_LINES i r all_formats g)

-- ---- no two rows have the same fixed bits
pub all_unequal : pairwise unequal VECTOR_LINES ≡ true
unfolding pairwise unequal
all_unequal = refl

-- ---- no two rows match a word
unfoldable apart : Row → Row → Bool
apart r s = differ r.mask r.value s.mask s.value

all_apart : pairwise apart VECTOR_LINES ≡ true
unfolding pairwise apart differ
all_apart = refl

never_both : (word : ℕ) (r s : Row) → apart r s ≡ true → bit_and word r.mask ≡ r.value → bit_and word s.mask ≡ s.value → ⊥
unfolding apart
never_both word r s e m n = not_alike word r.mask r.value s.mask s.value e m n

pub one_match : (word i j : ℕ) (r s : Row) → slice_get VECTOR_LINES i ≡ Some r → slice_get VECTOR_LINES j ≡ Some s
    → bit_and word r.mask ≡ r.value
    → bit_and word s.mask ≡ s.value → i ≡ j
one_match word i j r s f g m n = one_place apart (λ x. bit_and word x.mask ≡ x.value) (never_both word) VECTOR_LINES all_apart i j
    r s f g m n

pub one_row : (word : ℕ) → HasAtMostOneLine vector word
unfolding vector
one_row word i j r s f g m n d e = one_match word i j r s f g m n

-- ---- the table meets what is asked of a table
one_operation : (i j : ℕ) (r s : Row) → slice_get VECTOR_LINES i ≡ Some r → slice_get VECTOR_LINES j ≡ Some s
    → r.operation ≡ s.operation → i ≡ j
one_operation i j r s f g e =
    one_place unlike (λ x. x.operation ≡ s.operation) (never_alike s.operation) VECTOR_LINES all_unlike i j r s f g e refl

pub is_table : IsTable vector parts_of
unfolding vector format takes
is_table = record {
  takes = takes;
  format = format;
  forms = all_forms;
  formats = row-format;
  suit = all_suit;
  own = one_operation;
  back = back;
  forth = λ it p e u s a h. subst (λ o. IsRemade it o) e (forth it) u s (keeps (slots p.operation) p.numbers u s a h);
}
