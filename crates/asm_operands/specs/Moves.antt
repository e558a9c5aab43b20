-- What `mov` of a number says: the instruction that moves a halfword where one holds the number, else the
-- one that moves an inverted halfword, else the one of a mask.
-- Source: DDI 0487, C6.2: MOV (wide immediate), MOV (inverted wide immediate), MOV (bitmask immediate), of
-- which the second is preferred where the first has not the number, and the third where neither has it; and
-- MOVZ, MOVN and ORR (immediate).
use Rattle.std.specs.Prelude.{ℕ, ◌+◌, ◌-◌, ◌*◌, ◌^◌, Bool, true, false, not, List, [], ◌∷◌, length, Option}
use Rattle.std.specs.Prelude.{Some, bit_or, option_map, if◌then◌else◌}
use Rattle.std.specs.List.{take_while}
use Rattle.std.specs.Str.{bytes_eq}
use Rattle.bit_ops.specs.Bits.{width_of}
use Rattle.insn_forms.specs.declared.field.Field.{Field}
use Rattle.insn_forms.specs.Fields.{placed}
use Rattle.a64_table.specs.declared.fields.TheConstants.{RD}
use Rattle.insn_text.specs.declared.item.RegisterFile.{RegisterFile}
use Rattle.insn_text.specs.declared.item.RegisterFile.TheVariants.{X, W}
use Rattle.insn_text.specs.declared.operands.TheConstants.{HW_IMM16, IMMR_IMMS, N_IMMR_IMMS, SHORT_HW_IMM16}
use Rattle.insn_text.specs.declared.keywords.TheConstants.{MNEMONICS}
use Rattle.insn_text.specs.Texts.{text_in}
use Rattle.asm_tokens.specs.declared.token.Token.{Token}
use Rattle.asm_tokens.specs.declared.token.Token.TheVariants.{Register, Number, Punctuation}
use Rattle.asm_operands.specs.Fields.{halfword_field, mask_field}
use Rattle.asm_operands.specs.Operands.{first_of_words}

-- the index of a mnemonic in its table
unfoldable pub index_of : List ℕ → ℕ
index_of mnemonic = length (take_while (λ t. not (bytes_eq (text_in (Some t)) mnemonic)) MNEMONICS)

abbrev pub file_of : Bool → RegisterFile
file_of true = X
file_of false = W

-- a register by its number, a comma and a number
abbrev pub move_tokens : Bool → ℕ → Bool → ℕ → List Token
move_tokens wide register negative size =
    Register (file_of wide) register ∷ Punctuation 44 ∷ Number negative size ∷ []

-- the bits of the three instructions, in bits 30:23, with the width above them; ORR has Rn 31
abbrev pub width_bit : Bool → ℕ
width_bit wide = if wide then 2 ^ 31 else 0

abbrev pub movz : Bool → ℕ
movz wide = width_bit wide + 165 * 2 ^ 23

abbrev pub movn : Bool → ℕ
movn wide = width_bit wide + 37 * 2 ^ 23

abbrev pub orr : Bool → ℕ
orr wide = width_bit wide + 100 * 2 ^ 23 + 31 * 2 ^ 5

-- where hw above imm16 stand, and N above immr above imms
abbrev pub halfword_index : Bool → Field
halfword_index wide = if wide then HW_IMM16 else SHORT_HW_IMM16

abbrev pub mask_index : Bool → Field
mask_index wide = if wide then N_IMMR_IMMS else IMMR_IMMS

-- the word of an instruction with the register in Rd and the field at its place
abbrev pub word_with : ℕ → ℕ → Field → ℕ → ℕ
word_with bits register f field = bit_or (bit_or bits (placed RD register)) (placed f field)

-- the word that moves a number of the width to the register
abbrev pub moved : Bool → ℕ → ℕ → Option ℕ
moved wide register number =
    first_of_words
    (option_map (word_with (movz wide) register (halfword_index wide)) (halfword_field wide number))
    (first_of_words
    (option_map (word_with (movn wide) register (halfword_index wide))
    (halfword_field wide (2 ^ width_of wide - 1 - number)))
    (option_map (word_with (orr wide) register (mask_index wide)) (mask_field wide number)))
