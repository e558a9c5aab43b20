-- The finite checks of the table, and its laws.
use Rattle.std.proofs.Common.{◌≡◌, ℕ, suc, ◌==◌, not, Bool, true, false, cond, refl, sym, ap, ◌∙◌, eq-eqb, bit_and, List, [], ◌∷◌}
use Rattle.std.proofs.Common.{slice_get, Option, Some, None, subst}
use Rattle.std.specs.List.{list_all}
use Rattle.std.specs.Prelude.{option_map}
use Rattle.std.proofs.lemmas.Bool.{both_ways}
use Rattle.plain_lemmas.proofs.Lists.{list_all-get}
use Rattle.insn_forms.specs.declared.line.Line.{Line}
use Rattle.insn_forms.specs.Fields.{is_field, list_of, mask_of}
use Rattle.insn_forms.specs.Forms.{is_form, fills}
use Rattle.insn_forms.specs.Tables.{HasAtMostOneLine}
use Rattle.insn_forms.proofs.Deciding.{some_is}
use Rattle.insn_forms.proofs.Lines.{same_field, same_fields, one_list, unequal}
use Rattle.insn_forms.proofs.Laws.{suits, pairwise, one_place}
use Rattle.insn_forms.proofs.Ways.{take_of, field_of_slot, eight}
use Rattle.insn_forms.proofs.Tables.{IsTable, differ, not_alike}
use Rattle.sm_types.specs.declared.insn as types
use types.BitfieldOp.TheVariants.{Sbfm, Bfm, Ubfm}
use types.Logical.TheVariants.{And, Orr, Eor, Ands}
use types.{AddSub.TheVariants.Add, BranchRegisterOp.TheVariants.Br, CompareOp.TheVariants.Ccmn, CompareOp.TheVariants.Ccmp}
use types.{LoadLiteralOp.TheVariants.Word, MoveOp.TheVariants.Movn, OneSourceOp.TheVariants.Rbit, PairIndex.TheVariants.Offset}
use types.{PairOp.TheVariants.Stp, PairOp.TheVariants.Ldp, PcRelativeOp.TheVariants.Adr, SelectOp.TheVariants.Csel}
use types.{SystemMoveOp.TheVariants.Mrs, SystemMoveOp.TheVariants.Msr, SystemRegister.TheVariants.Nzcv, TwoSourceOp.TheVariants.Udiv}
use types.AtomicOp.TheVariants as atomic_ops
use Rattle.a64_table.specs.declared.operation as operations
use operations.Operation.TheVariants.{G1, G2, G3, G4, G5, G6, G7, G8, G9, G10, G11, G12, G13, G14, G15, G16, G17, G18, G19, G20, G21, G22}
use operations.Operation.TheVariants.{G23}
use operations.{Operation.Operation, AtomicForm.TheVariants.Update, BranchOp.TheVariants.B, MultiplyOp.TheVariants.Madd}
use operations.{SystemOp.TheVariants.Svc}
use operations.AddressForm.TheVariants as address_form
use Rattle.a64_table.specs.declared.rows.TheConstants.{SCALAR_LINES}
use Rattle.a64_table.specs.Numbers.{form_number, number_of}
use Rattle.a64_table.specs.Parts.{parts_of}
use Rattle.a64_table.specs.Table.{scalar}
use Rattle.a64_table.proofs.Groups.{takes, format, slots, kept, back, forth, IsRemade}

abbrev Row : Type 0
Row = Line Operation

-- ---- no two rows have one operation
unfoldable unlike : Row → Row → Bool
unlike r s = not (number_of r.operation == number_of s.operation)

all_unlike : pairwise unlike SCALAR_LINES ≡ true
unfolding pairwise unlike number_of form_number
all_unlike = refl

never_alike : (op : Operation) (r s : Row) → unlike r s ≡ true → r.operation ≡ op → s.operation ≡ op → ⊥
unfolding unlike
never_alike op r s e f g = not_same (number_of r.operation) (number_of s.operation) e (ap number_of (f ∙ sym g))
  where
    not_same : (m n : ℕ) → not (m == n) ≡ true → m ≡ n → ⊥
    not_same m n e f = both_ways (not (m == n)) (ap not (eq-eqb m n f)) e

-- ---- and each operation has a row
unfoldable place_in : ℕ → List Row → ℕ
place_in n [] = 0
place_in n (r ∷ rs) = cond (number_of r.operation == n) 0 (suc (place_in n rs))

listed : (op : Operation) → option_map (λ (r : Row). r.operation) (slice_get SCALAR_LINES (place_in (number_of op) SCALAR_LINES)) ≡ Some op
unfolding place_in number_of form_number
listed (G1 Add) = refl
listed (G2 Add) = refl
listed (G3 And false) = refl
listed (G3 Orr false) = refl
listed (G3 Eor false) = refl
listed (G3 Ands false) = refl
listed (G4 Add) = refl
listed (G5 And) = refl
listed (G6 Movn) = refl
listed (G7 Sbfm false) = refl
listed (G7 Bfm false) = refl
listed (G7 Ubfm false) = refl
listed (G8 false) = refl
listed (G9 Adr) = refl
listed (G10 B) = refl
listed (G11 Br) = refl
listed (G12 Add) = refl
listed (G13 Csel) = refl
listed (G14 Ccmn false) = refl
listed (G14 Ccmp false) = refl
listed (G15 Rbit) = refl
listed (G16 Udiv) = refl
listed (G17 Madd) = refl
listed (G18 address_form.Offset) = refl
listed (G19 Word) = refl
listed (G20 Stp false Offset) = refl
listed (G20 Stp true Offset) = refl
listed (G20 Ldp false Offset) = refl
listed (G20 Ldp true Offset) = refl
listed (G21 (Update atomic_ops.Add)) = refl
listed (G22 Svc) = refl
listed (G23 Mrs Nzcv) = refl
listed (G23 Msr Nzcv) = refl
listed _ = refl

-- two operations of one number are one
pub same_operation : (a b : Operation) → number_of a ≡ number_of b → a ≡ b
same_operation a b e = some_is (sym (listed a) ∙ ap (λ n. option_map (λ (r : Row). r.operation)
    (slice_get SCALAR_LINES (place_in n SCALAR_LINES))) e ∙ listed b)

pub record HasRow (op : Operation) : Type 0 where
  pub place : ℕ
  pub row : Row
  pub listed : slice_get SCALAR_LINES place ≡ Some row
  pub same : row.operation ≡ op

pub has_row : (op : Operation) → HasRow op
has_row op = go (slice_get SCALAR_LINES (place_in (number_of op) SCALAR_LINES)) refl (listed op)
  where
    go : (found : Option Row) → slice_get SCALAR_LINES (place_in (number_of op) SCALAR_LINES) ≡ found
        → option_map (λ (r : Row). r.operation) found ≡ Some op → HasRow op
    go None e f = cc
    go (Some row) e f = let same : row.operation ≡ op = cc in record {
      place = place_in (number_of op) SCALAR_LINES;
      row = row;
      listed = e;
      same = same;
    }

-- ---- the rows are forms, and their fields are as narrow as what is taken of them
all_forms : list_all (λ (r : Row). is_form r.mask r.value (list_of r.fields)) SCALAR_LINES ≡ true
unfolding list_of is_form is_field mask_of fills
all_forms = refl

all_suit : list_all (λ (r : Row). suits (takes r.operation) (list_of r.fields)) SCALAR_LINES ≡ true
unfolding list_of suits takes slots eight kept take_of
all_suit = refl

-- ---- the fields that the instruction is read from are those of the rows
all_formats : list_all (λ (r : Row). same_fields (list_of r.fields) (format r.operation)) SCALAR_LINES ≡ true
unfolding list_of same_fields same_field format slots eight kept field_of_slot
all_formats = refl

pub row-format : (i : ℕ) (r : Row) → slice_get SCALAR_LINES i ≡ Some r → list_of r.fields ≡ format r.operation
row-format i r g = one_list (list_of r.fields) (format r.operation)
    (list_all-get (λ (r : Row). same_fields (list_of r.fields) (format r.operation)) SCALAR_LINES i r all_formats g)

-- ---- no two rows have the same fixed bits
pub all_unequal : pairwise unequal SCALAR_LINES ≡ true
unfolding pairwise unequal
all_unequal = refl

-- ---- no two rows match a word
unfoldable apart : Row → Row → Bool
apart r s = differ r.mask r.value s.mask s.value

all_apart : pairwise apart SCALAR_LINES ≡ true
unfolding pairwise apart differ
all_apart = refl

never_both : (word : ℕ) (r s : Row) → apart r s ≡ true → bit_and word r.mask ≡ r.value → bit_and word s.mask ≡ s.value → ⊥
unfolding apart
never_both word r s e m n = not_alike word r.mask r.value s.mask s.value e m n

pub one_match : (word i j : ℕ) (r s : Row) → slice_get SCALAR_LINES i ≡ Some r → slice_get SCALAR_LINES j ≡ Some s → bit_and word r.mask
    ≡ r.value → bit_and word s.mask ≡ s.value → i ≡ j
one_match word i j r s f g m n = one_place apart (λ x. bit_and word x.mask ≡ x.value) (never_both word) SCALAR_LINES all_apart i j
    r s f g m n

pub one_row : (word : ℕ) → HasAtMostOneLine scalar word
unfolding scalar
one_row word i j r s f g m n d e = one_match word i j r s f g m n

-- ---- the table meets what is asked of a table
one_operation : (i j : ℕ) (r s : Row) → slice_get SCALAR_LINES i ≡ Some r → slice_get SCALAR_LINES j ≡ Some s
    → r.operation ≡ s.operation → i ≡ j
one_operation i j r s f g e = one_place unlike (λ x. x.operation ≡ s.operation) (never_alike s.operation) SCALAR_LINES all_unlike i j r
    s f g e refl

pub is_table : IsTable scalar parts_of
unfolding scalar
is_table = record {
  takes = takes;
  format = format;
  forms = all_forms;
  formats = row-format;
  suit = all_suit;
  own = one_operation;
  back = back;
  forth = λ it p e u s a h. subst (λ o. IsRemade it o) e (forth it) u s a h;
}
