-- BL to a name is read as its word with the distance 0, and its operand as that of the target.
use Rattle.std.proofs.Common.{◌≡◌, [], ◌∷◌, Some, refl}
use Rattle.insn_forms.specs.Fields as fields
use Rattle.insn_forms.specs.Fields.{field_in, field_of, bit_of}
use Rattle.insn_forms.specs.Tables.{meaning_by, meaning_in, stands_for}
use Rattle.a64_table.specs.Table.{scalar, meaning_of}
use Rattle.a64_table.specs.Conditions as conditions
use Rattle.sve_table.specs.Table.{vector, vector_meaning_of}
use Rattle.sve_table.specs.Conditions as vector_conditions
use Rattle.a64_encode.specs.Either.{instruction_of}
use Rattle.insn_text.specs.Rules.{meets}
use Rattle.insn_text.specs.Texts.{items_in, items_of}
use Rattle.asm_tokens.specs.Tokens.{is_name}
use Rattle.asm_tokens.specs.declared.token.Token.TheVariants.{Name}
use Rattle.asm_operands.specs.Fields.{field_said, on_target}
use Rattle.asm_operands.specs.Operands as operands
use Rattle.asm_operands.specs.Operands.{partial_with, with_field, agrees, partial_after, taken, fixed, word_in, shapes_of, first_word}
use Rattle.asm_operands.specs.Operands.{if_meant, word_said, is_distance, target_in, target_of, operands_said}
use Rattle.asm_core.specs.Code.{restore_target}

-- index 39 of the table of mnemonics
pub call_is_said : operands_said 39 (Name ∷ []) ≡ operands.Says 0x94000000 (Some (record { index = 0; operand = restore_target.operand }))
unfolding operands_said word_said if_meant first_word shapes_of word_in taken items_of items_in partial_after partial_with with_field
    agrees fixed target_of target_in is_distance field_said on_target fields.mask_of fields.placed meets is_name instruction_of meaning_of
    vector_meaning_of meaning_by meaning_in stands_for scalar vector field_in field_of bit_of conditions.fits_of
    vector_conditions.fits_of conditions.has_load conditions.is_below_width
call_is_said = refl
