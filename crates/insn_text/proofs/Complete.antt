-- Each alias of each row has its shapes.
use Rattle.std.proofs.Common.{◌≡◌, true, refl}
use Rattle.std.specs.List.{list_all}
use Rattle.std.specs.Fmt.{digits}
use Rattle.insn_forms.specs.Fields.{field_of, field_in, list_of, mask_of, placed}
use Rattle.a64_table.specs.declared.rows.TheConstants.{SCALAR_LINES}
use Rattle.insn_text.specs.Texts.{text_in, items_in, items_of}
use Rattle.insn_text.specs.Mnemonics.{text_or_none, nth, condition_name, add_sub_name, carry_name, logical_name, move_name, bitfield_name}
use Rattle.insn_text.specs.Mnemonics.{relative_name, branch_name, jump_name, select_name, compare_name, one_source_name, two_source_name}
use Rattle.insn_text.specs.Mnemonics.{multiply_name, size_letter, unscaled_letter, access_name, literal_name, pair_name, order_letters}
use Rattle.insn_text.specs.Mnemonics.{atomic_name, form_name, call_name, system_name, mnemonic_of}
use Rattle.insn_text.specs.Operands.{is, shift_name, extend_name, system_register_name, long_wide, is_wide, sets_no_flags, writes_no_flags}
use Rattle.insn_text.specs.Operands.{has_sp, is_long, last_register, is_distance_field, is_offset_field, unit_of, is_register, names_from}
use Rattle.insn_text.specs.Operands.{words_in, same_texts, are_words, greatest, written_base, second_of, rule_of, rule_number, is_own}
use Rattle.insn_text.specs.Operands.{is_opposed, is_shifted, is_moved, is_plain, is_written, says_field, letter, frame, frames_of}
use Rattle.insn_text.specs.Operands.{is_logical_mask, is_shift_left, is_halfword, same, is_operand, number_text, address_words, words_of}
use Rattle.insn_text.specs.Aliases.{aliases_of}
use Rattle.insn_text.specs.Cited.{free, is_set, is_left, said, constant, constant_in, choices, defaults, fixes, may_set, set_well}
use Rattle.insn_text.specs.Cited.{is_fixed_in, is_text, has_bits}
use Rattle.insn_text.specs.Complete.{masks, fixed_mask, fixed_value, has_field, widths_of, forms_by, choosing, is_of_form, agrees}
use Rattle.insn_text.specs.Complete.{is_in_form, aliases_in, has_slots, is_text_in, has_shape, has_shapes, has_aliases_in, has_aliases}
use Rattle.insn_text.specs.Complete.{set_each, all_of, accesses, own_forms, own_choices, has_own_in, has_own}

pub all_aliases : list_all has_aliases SCALAR_LINES ≡ true
unfolding digits text_in items_in items_of field_of field_in list_of mask_of text_or_none nth condition_name add_sub_name carry_name
    logical_name move_name bitfield_name relative_name branch_name jump_name select_name compare_name one_source_name two_source_name
    multiply_name size_letter unscaled_letter access_name literal_name pair_name order_letters atomic_name form_name call_name system_name
    mnemonic_of is shift_name extend_name system_register_name long_wide is_wide sets_no_flags writes_no_flags has_sp is_long last_register
    is_distance_field is_offset_field unit_of is_register names_from words_in same_texts are_words greatest written_base second_of rule_of
    rule_number is_own is_opposed is_shifted is_moved is_plain is_written says_field letter frame frames_of is_logical_mask is_shift_left
    is_halfword same is_operand number_text address_words words_of aliases_of free is_set is_left said constant constant_in choices defaults
    fixes may_set set_well is_fixed_in is_text has_bits placed masks fixed_mask fixed_value has_field widths_of forms_by choosing is_of_form
    agrees is_in_form aliases_in set_each all_of accesses has_slots is_text_in has_shape has_shapes has_aliases_in has_aliases
all_aliases = refl

pub all_own : list_all has_own SCALAR_LINES ≡ true
unfolding digits text_in items_in items_of field_of field_in list_of mask_of text_or_none nth condition_name add_sub_name carry_name
    logical_name move_name bitfield_name relative_name branch_name jump_name select_name compare_name one_source_name two_source_name
    multiply_name size_letter unscaled_letter access_name literal_name pair_name order_letters atomic_name form_name call_name system_name
    mnemonic_of is shift_name extend_name system_register_name long_wide is_wide sets_no_flags writes_no_flags has_sp is_long last_register
    is_distance_field is_offset_field unit_of is_register names_from words_in same_texts are_words greatest written_base second_of rule_of
    rule_number is_own is_opposed is_shifted is_moved is_plain is_written says_field letter frame frames_of is_logical_mask is_shift_left
    is_halfword same is_operand number_text address_words words_of free is_set is_left said constant constant_in choices defaults fixes
    may_set set_well is_fixed_in is_text has_bits placed masks fixed_mask fixed_value has_field widths_of forms_by choosing is_of_form
    set_each all_of accesses has_slots is_text_in has_shape has_shapes own_forms own_choices has_own_in has_own
all_own = refl
