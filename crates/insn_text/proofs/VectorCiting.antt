-- Each text of each vector row has a shape.
use Rattle.std.proofs.Common.{◌≡◌, true, refl}
use Rattle.std.specs.List.{list_all}
use Rattle.std.specs.Fmt.{digits}
use Rattle.insn_forms.specs.Fields.{field_of, field_in, list_of, mask_of, placed}
use Rattle.sve_table.specs.declared.rows.TheConstants.{VECTOR_LINES}
use Rattle.sve_table.specs.Sizes.{least_binary, least_unary, least_shifted, widest_reduced}
use Rattle.sve_table.specs.Conditions.{is_from, is_up_to, is_offset, fits_of}
use Rattle.insn_text.specs.Texts.{text_in, items_in, items_of, gap, is_punctuation, is_comma, file_text, vector_file_text}
use Rattle.insn_text.specs.Mnemonics.{text_or_none, nth}
use Rattle.insn_text.specs.Operands.{is, names_from, same_texts, number_text}
use Rattle.insn_text.specs.VectorMnemonics.{arithmetic_name, vector_logical_name, binary_name, multiply_add_name, unary_name}
use Rattle.insn_text.specs.VectorMnemonics.{vector_shift_name, immediate_name, interleave_name, reduction_name, compare_vectors_name}
use Rattle.insn_text.specs.VectorMnemonics.{compare_immediate_name, predicate_name, vector_multiply_name, ternary_name, widening_name}
use Rattle.insn_text.specs.VectorMnemonics.{element_letter, elem_letter, copy_name, permute_name, reduced_name, comparison_name}
use Rattle.insn_text.specs.VectorMnemonics.{predicate_form_name, count_name, element_name, memory_letters, transfer_name}
use Rattle.insn_text.specs.VectorMnemonics.{vector_access_name, sve2_name, array_name, signs_name, streaming_name, vector_mnemonic_of}
use Rattle.insn_text.specs.Templates.{is_of_row, suffix_symbol, last_symbol, rule_symbol, pattern_words, number_symbol, symbol, template}
use Rattle.insn_text.specs.Templates.{has}
use Rattle.insn_text.specs.Templates.{template_by, loaded, load_shift, width_letter, shifted, shift_letter, shift_width}
use Rattle.insn_text.specs.Templates.{shifted_vectors, copy_templates, permute_templates, reduced_letter, reduction_templates}
use Rattle.insn_text.specs.Templates.{compare_templates, predicate_templates, count_templates, element_templates, with_lengths}
use Rattle.insn_text.specs.Templates.{with_register, access_templates, sve2_templates, mode_templates, array_templates, slice}
use Rattle.insn_text.specs.Templates.{moved_slice, elem_suffix, slice_shift, slice_template, move_template, streaming_templates}
use Rattle.insn_text.specs.Templates.{templates_of, agrees, is_set_well, fixes_row, has_name}
use Rattle.insn_text.specs.Templates.{with_each, all_values, all_bits, choices_in, is_template_of, has_template, has_templates_at}
use Rattle.insn_text.specs.Templates.{has_templates_in, has_templates}

pub all_templates : list_all has_templates VECTOR_LINES ≡ true
unfolding digits text_in items_in items_of gap is_punctuation is_comma file_text vector_file_text field_of field_in list_of mask_of placed
    text_or_none nth is names_from same_texts number_text least_binary least_unary least_shifted widest_reduced is_from is_up_to is_offset
    fits_of arithmetic_name vector_logical_name binary_name multiply_add_name unary_name vector_shift_name immediate_name interleave_name
    reduction_name compare_vectors_name compare_immediate_name predicate_name vector_multiply_name ternary_name widening_name element_letter
    elem_letter copy_name permute_name reduced_name comparison_name predicate_form_name count_name element_name memory_letters transfer_name
    vector_access_name sve2_name array_name signs_name streaming_name vector_mnemonic_of is_of_row suffix_symbol last_symbol rule_symbol
    pattern_words number_symbol symbol template has template_by loaded load_shift width_letter shifted shift_letter shift_width
    shifted_vectors copy_templates permute_templates reduced_letter reduction_templates compare_templates predicate_templates
    count_templates element_templates with_lengths with_register access_templates sve2_templates mode_templates array_templates slice
    moved_slice elem_suffix slice_shift slice_template move_template streaming_templates templates_of agrees is_set_well fixes_row has_name
    with_each all_values all_bits choices_in is_template_of has_template has_templates_at has_templates_in has_templates
all_templates = refl
