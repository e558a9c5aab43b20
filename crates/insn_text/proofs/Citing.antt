-- Each shape is a text of a row.
use Rattle.std.proofs.Common.{◌≡◌, true, refl}
use Rattle.std.specs.List.{list_all}
use Rattle.std.specs.Fmt.{digits}
use Rattle.insn_forms.specs.Fields.{field_of, field_in, list_of, mask_of, placed}
use Rattle.insn_text.specs.declared.shapes.TheConstants.{SHAPES}
use Rattle.insn_text.specs.Texts.{text_in, items_in, items_of, gap, is_punctuation, is_comma, file_text, vector_file_text}
use Rattle.insn_text.specs.Rules.{has_room, have_room}
use Rattle.insn_text.specs.Mnemonics.{text_or_none, nth, condition_name, add_sub_name, carry_name, logical_name, move_name, bitfield_name}
use Rattle.insn_text.specs.Mnemonics.{relative_name, branch_name, jump_name, select_name, compare_name, one_source_name, two_source_name}
use Rattle.insn_text.specs.Mnemonics.{multiply_name, size_letter, unscaled_letter, access_name, literal_name, pair_name, order_letters}
use Rattle.insn_text.specs.Mnemonics.{atomic_name, form_name, call_name, system_name, mnemonic_of}
use Rattle.insn_text.specs.Operands.{is, shift_name, extend_name, system_register_name, long_wide, is_wide, sets_no_flags, writes_no_flags}
use Rattle.insn_text.specs.Operands.{has_sp, is_long, last_register, is_distance_field, is_offset_field, unit_of, is_register, names_from}
use Rattle.insn_text.specs.Operands.{words_in, same_texts, are_words, greatest, written_base, second_of, rule_of, rule_number, is_own}
use Rattle.insn_text.specs.Operands.{is_opposed, is_shifted, is_moved, is_plain, is_written, says_field, letter, frame, frames_of}
use Rattle.insn_text.specs.Operands.{is_logical_mask, is_shift_left, is_halfword, same, is_operand, number_text, address_words, words_of}
use Rattle.insn_text.specs.Aliases.{aliases_of}
use Rattle.insn_text.specs.Cited.{free, is_set, is_left, said, constant, constant_in, choices, defaults, fixes, may_set, set_well}
use Rattle.insn_text.specs.Cited.{is_fixed_in, is_text, has_bits, is_cited_by, is_cited, hides, none_is_hidden}
use Rattle.insn_text.specs.VectorMnemonics.{arithmetic_name, vector_logical_name, binary_name, multiply_add_name, unary_name}
use Rattle.insn_text.specs.VectorMnemonics.{vector_shift_name, immediate_name, interleave_name, reduction_name, compare_vectors_name}
use Rattle.insn_text.specs.VectorMnemonics.{compare_immediate_name, predicate_name, vector_multiply_name, ternary_name, widening_name}
use Rattle.insn_text.specs.VectorMnemonics.{element_letter, elem_letter, copy_name, permute_name, reduced_name, comparison_name}
use Rattle.insn_text.specs.VectorMnemonics.{predicate_form_name, count_name, element_name, memory_letters, transfer_name}
use Rattle.insn_text.specs.VectorMnemonics.{vector_access_name, sve2_name, array_name, signs_name, streaming_name, vector_mnemonic_of}
use Rattle.insn_text.specs.Templates.{has, choices_in, all_bits, is_of_row, suffix_symbol, last_symbol, rule_symbol, pattern_words}
use Rattle.insn_text.specs.Templates.{number_symbol, symbol, template, with_each, all_values, agrees, values_in, has_name}
use Rattle.insn_text.specs.Templates.{template_by, loaded, load_shift, width_letter, shifted, shift_letter, shift_width}
use Rattle.insn_text.specs.Templates.{shifted_vectors, copy_templates, permute_templates, reduced_letter, reduction_templates}
use Rattle.insn_text.specs.Templates.{compare_templates, predicate_templates, count_templates, element_templates, with_lengths}
use Rattle.insn_text.specs.Templates.{with_register, access_templates, sve2_templates, mode_templates, array_templates, slice}
use Rattle.insn_text.specs.Templates.{moved_slice, elem_suffix, slice_shift, slice_template, move_template, streaming_templates}
use Rattle.insn_text.specs.Templates.{templates_of, is_set_well, fixes_row, is_vector_text, is_vector_cited_by, is_vector_cited}

pub all_cited : list_all is_cited SHAPES ≡ true
unfolding digits text_in items_in items_of field_of field_in list_of mask_of text_or_none nth condition_name add_sub_name carry_name
    logical_name move_name bitfield_name relative_name branch_name jump_name select_name compare_name one_source_name two_source_name
    multiply_name size_letter unscaled_letter access_name literal_name pair_name order_letters atomic_name form_name call_name system_name
    mnemonic_of is shift_name extend_name system_register_name long_wide is_wide sets_no_flags writes_no_flags has_sp is_long last_register
    is_distance_field is_offset_field unit_of is_register names_from words_in same_texts are_words greatest written_base second_of rule_of
    rule_number is_own is_opposed is_shifted is_moved is_plain is_written says_field letter frame frames_of is_logical_mask is_shift_left
    is_halfword same is_operand number_text address_words words_of aliases_of free is_set is_left said constant constant_in choices defaults
    fixes may_set set_well is_fixed_in is_text has_bits gap is_punctuation is_comma file_text vector_file_text arithmetic_name
    vector_logical_name
    binary_name multiply_add_name unary_name vector_shift_name immediate_name interleave_name reduction_name compare_vectors_name
    compare_immediate_name predicate_name vector_multiply_name ternary_name widening_name element_letter elem_letter copy_name permute_name
    reduced_name comparison_name predicate_form_name count_name element_name memory_letters transfer_name vector_access_name sve2_name
    array_name signs_name streaming_name vector_mnemonic_of placed has choices_in all_bits is_of_row suffix_symbol last_symbol rule_symbol
    pattern_words number_symbol symbol template template_by with_each all_values agrees values_in has_name loaded load_shift width_letter
    shifted shift_letter shift_width shifted_vectors copy_templates permute_templates reduced_letter reduction_templates compare_templates
    predicate_templates count_templates element_templates with_lengths with_register access_templates sve2_templates mode_templates
    array_templates slice moved_slice elem_suffix slice_shift slice_template move_template streaming_templates templates_of is_set_well
    fixes_row is_vector_text is_vector_cited_by is_vector_cited is_cited_by is_cited
all_cited = refl

pub all_in_order : none_is_hidden SHAPES ≡ true
unfolding hides none_is_hidden
all_in_order = refl

pub all_have_room : list_all have_room SHAPES ≡ true
unfolding items_in items_of has_room have_room
all_have_room = refl
