-- Each word that means a vector instruction has a text.
use Rattle.std.proofs.Common.{◌≡◌, ℕ, Bool, true, bit_and, refl, sym, ◌∙◌}
use Rattle.std.specs.List.{list_all}
use Rattle.plain_lemmas.proofs.Lists.{list_all-get}
use Rattle.bit_ops.specs.Masks.{highest_one}
use Rattle.sm_types.specs.declared.insn.Insn.{Insn}
use Rattle.insn_forms.specs.declared.line.Line.{Line}
use Rattle.insn_forms.specs.Tables.{Means, numbers_in}
use Rattle.insn_forms.specs.Fields.{field_of, bit_of, field_in, mask_of}
use Rattle.sve_table.specs.declared.operation.VectorOperation.{VectorOperation}
use Rattle.sve_table.specs.declared.rows.TheConstants.{VECTOR_LINES}
use Rattle.sve_table.specs.Table.{vector}
use Rattle.sve_table.specs.Sizes.{least_binary, least_unary, least_shifted, widest_reduced}
use Rattle.sve_table.specs.Conditions.{is_from, is_up_to, fits_of}
use Rattle.insn_text.specs.declared.shapes.TheConstants.{SHAPES}
use Rattle.insn_text.specs.Texts.{items_in, items_of, printed_shape}
use Rattle.insn_text.specs.Rules.{IsPrinted}
use Rattle.insn_text.proofs.Regions.{is_apart, is_inside, free_bit, covers_at, covers, keep_unless, kept, find-kept, covers-printed}
use Rattle.insn_text.proofs.VectorKnown.{has_size, size_of_word, is_known, has_none, ends_by, vector_ends, vector_never, says_each}
use Rattle.insn_text.proofs.VectorKnown.{gives_offset}
use Rattle.insn_text.proofs.VectorKnown.{vector_rule, says_vector_item, vector_says, vector_said}

-- each word that matches the row and meets its condition is printed
unfoldable pub vector_row_printed : Line VectorOperation → Bool
vector_row_printed r = covers (vector_ends r.operation) (vector_says r.operation) 1000 r.mask r.value (kept r.mask r.value SHAPES)

vector_rows_printed : list_all vector_row_printed VECTOR_LINES ≡ true
unfolding vector_row_printed highest_one field_of bit_of field_in mask_of items_in items_of is_apart is_inside free_bit covers_at covers
    keep_unless kept least_binary least_unary least_shifted widest_reduced is_from is_up_to has_size size_of_word is_known has_none ends_by
    vector_ends says_each gives_offset vector_rule says_vector_item vector_says
vector_rows_printed = refl

vector_row-printed : (word : ℕ) (r : Line VectorOperation) → bit_and word r.mask ≡ r.value → fits_of r.operation (numbers_in word) ≡ true
    → vector_row_printed r ≡ true → IsPrinted word
unfolding vector_row_printed printed_shape
vector_row-printed word r m f e =
    let p =
    covers-printed word (vector_says r.operation) (λ n v s q h. vector_said r.operation word n v s q f h) (vector_ends r.operation)
    (λ n v q h. vector_never r.operation word n v q h f) 1000 r.mask r.value (kept r.mask r.value SHAPES) e m in
    record { shape = p.shape; found = sym (find-kept word r.mask r.value SHAPES m) ∙ p.found; sayable = p.sayable }

pub vector_printed : (word : ℕ) (it : Insn) → Means vector word it → IsPrinted word
unfolding vector
vector_printed word it m =
    vector_row-printed word m.line m.matches m.fits
    (list_all-get vector_row_printed VECTOR_LINES m.place m.line vector_rows_printed m.listed)
