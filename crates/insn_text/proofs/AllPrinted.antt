-- Each word that means an instruction has a text.
use Rattle.std.proofs.Common.{◌≡◌, ℕ, Bool, true, bit_and, refl, sym, ◌∙◌, inl, inr}
use Rattle.std.specs.List.{list_all}
use Rattle.plain_lemmas.proofs.Lists.{list_all-get}
use Rattle.bit_ops.specs.Masks.{highest_one}
use Rattle.sm_types.specs.declared.insn.Insn.{Insn}
use Rattle.insn_forms.specs.declared.line.Line.{Line}
use Rattle.insn_forms.specs.Tables.{numbers_in}
use Rattle.a64_table.specs.declared.operation.Operation.{Operation}
use Rattle.a64_table.specs.declared.rows.TheConstants.{SCALAR_LINES}
use Rattle.a64_table.specs.Table.{scalar}
use Rattle.insn_text.proofs.VectorsPrinted.{vector_printed}
use Rattle.insn_forms.specs.Fields.{field_of, bit_of}
use Rattle.a64_table.specs.Conditions.{fits_of}
use Rattle.a64_encode.specs.Either.{MeansEither}
use Rattle.insn_text.specs.declared.shapes.TheConstants.{SHAPES}
use Rattle.insn_text.specs.Texts.{items_in, items_of, printed_shape}
use Rattle.insn_text.specs.Rules.{IsPrinted}
use Rattle.insn_text.proofs.Regions.{is_apart, is_inside, free_bit, covers_at, covers, keep_unless, kept, find-kept, covers-printed}
use Rattle.insn_text.proofs.Known.{same, fixed, ends, never, is_field, has_three_shifts, has_amounts, has_masks, accesses_one, loads_two}
use Rattle.insn_text.proofs.Known.{writes_two, sizes, is_mask_field, says_kind, says_rule, says_item, says, said}

-- each word that matches the row and meets its condition is printed
unfoldable pub row_printed : Line Operation → Bool
row_printed r = covers (ends r.operation) (says r.operation) 1000 r.mask r.value (kept r.mask r.value SHAPES)

rows_printed : list_all row_printed SCALAR_LINES ≡ true
unfolding row_printed highest_one field_of bit_of items_in items_of is_apart is_inside free_bit covers_at covers keep_unless kept same fixed
    ends is_field has_three_shifts has_amounts has_masks accesses_one loads_two writes_two sizes is_mask_field says_kind says_rule says_item
    says
rows_printed = refl

row-printed : (word : ℕ) (r : Line Operation) → bit_and word r.mask ≡ r.value → fits_of r.operation (numbers_in word) ≡ true
    → row_printed r ≡ true → IsPrinted word
unfolding row_printed printed_shape
row-printed word r m f e =
    let p =
    covers-printed word (says r.operation) (λ n v s q h. said r.operation word n v s q f h) (ends r.operation)
    (λ n v q h. never r.operation word n v q h f) 1000 r.mask r.value (kept r.mask r.value SHAPES) e m in
    record { shape = p.shape; found = sym (find-kept word r.mask r.value SHAPES m) ∙ p.found; sayable = p.sayable }

pub all_printed : (word : ℕ) (it : Insn) → MeansEither word it → IsPrinted word
unfolding scalar
all_printed word it (inl m) =
    row-printed word m.line m.matches m.fits (list_all-get row_printed SCALAR_LINES m.place m.line rows_printed m.listed)
all_printed word it (inr m) = vector_printed word it m
