-- The shapes follow from the texts.
use Rattle.std.proofs.Common.{◌≡◌, ◌+◌, true, refl, length}
use Rattle.insn_forms.specs.Fields.{list_of, mask_of, placed}
use Rattle.a64_table.specs.Numbers.{form_number, number_of}
use Rattle.sve_table.specs.Numbers.{copy_number, permute_number, reduction_number, compare_number, predicate_number, count_number}
use Rattle.sve_table.specs.Numbers.{element_number, access_number, sve2_number, array_number, streaming_number}
use Rattle.sve_table.specs.Numbers.{number_of as vector_number_of}
use Rattle.insn_text.specs.declared.shapes.TheConstants.{ORDER, SHAPES}
use Rattle.insn_text.specs.Texts.{text_in, items_in, items_of}
use Rattle.insn_text.specs.Operands.{is, is_long, rule_number, same}
use Rattle.insn_text.specs.Wordings.{texts, vector_texts, operands_of, settings_of, held, set_bits, has_bits, is_set_of, is_said, is_whole}
use Rattle.insn_text.specs.Wordings.{fixes}
use Rattle.insn_text.specs.Wordings.{is_of_line, flag, vector_text_at, file_number, kind_numbers, same_item, same_items, is_shape_of}
use Rattle.insn_text.specs.Wordings.{is_shape_at, are_shapes, is_before}
use Rattle.insn_text.specs.Wordings.{stand_after, stand_in_order, have_shapes}

pub all_shapes : are_shapes texts vector_texts ORDER SHAPES ≡ true
unfolding list_of mask_of placed form_number number_of copy_number permute_number reduction_number compare_number predicate_number
    count_number element_number access_number sve2_number array_number streaming_number vector_number_of text_in items_in items_of is
    is_long same texts vector_texts operands_of settings_of held set_bits has_bits is_set_of is_said is_whole fixes is_of_line flag
    kind_numbers rule_number same_item same_items is_shape_of is_shape_at vector_text_at file_number are_shapes
all_shapes = refl

pub in_order : stand_in_order SHAPES ORDER ≡ true
unfolding is_before stand_after stand_in_order
in_order = refl

pub all_there : have_shapes (length texts + length vector_texts) ORDER ≡ true
unfolding texts vector_texts have_shapes
all_there = refl
