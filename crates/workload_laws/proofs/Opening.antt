-- The lines before the first instruction.
use Rattle.std.proofs.Common.{◌≡◌, None, Some, Ok, refl}
use Rattle.std.specs.Prelude.{codes}
use Rattle.asm_tokens.specs.Characters.{is_digit, is_name_character, is_blank, before_comment}
use Rattle.asm_tokens.specs.Tokens.{is_name, index_in, name_token, file_of, register_of, register_in, vector_file_of, file_size, has_suffix}
use Rattle.asm_tokens.specs.Tokens.{sized_of, sized_after, begins_za, sized_in, token_of_name, read_run, read_character, has_sign}
use Rattle.asm_tokens.specs.Tokens.{read_distance, read_token, lexemes_from}
use Rattle.insn_text.specs.Texts.{text_in}
use Rattle.asm_parser.specs.Statements.{IntoText, Globals, Nothing}
use Rattle.asm_parser.specs.Lines.{text_of_lexeme, ends, one_name, directive_of, directive_says, tokens_say, blanks, has_label, label_of}
use Rattle.asm_parser.specs.Lines.{label_end, line_lexemes, line_of}

pub text_line : line_of (codes ".text") ≡ Ok (record { label = None; says = IntoText })
unfolding is_digit is_name_character is_blank before_comment is_name index_in name_token file_of register_of register_in vector_file_of
    file_size has_suffix sized_of sized_after begins_za sized_in token_of_name read_run read_character has_sign read_distance read_token
    lexemes_from text_in text_of_lexeme ends one_name directive_of directive_says tokens_say blanks has_label label_of label_end
    line_lexemes line_of
text_line = refl

pub global_line : line_of (codes ".global _start") ≡ Ok (record { label = None; says = Globals (codes "_start") })
unfolding is_digit is_name_character is_blank before_comment is_name index_in name_token file_of register_of register_in vector_file_of
    file_size has_suffix sized_of sized_after begins_za sized_in token_of_name read_run read_character has_sign read_distance read_token
    lexemes_from text_in text_of_lexeme ends one_name directive_of directive_says tokens_say blanks has_label label_of label_end
    line_lexemes line_of
global_line = refl

pub start_line : line_of (codes "_start:") ≡ Ok (record { label = Some (codes "_start"); says = Nothing })
unfolding is_digit is_name_character is_blank before_comment is_name index_in name_token file_of register_of register_in vector_file_of
    file_size has_suffix sized_of sized_after begins_za sized_in token_of_name read_run read_character has_sign read_distance read_token
    lexemes_from text_in text_of_lexeme ends one_name directive_of directive_says tokens_say blanks has_label label_of label_end
    line_lexemes line_of
start_line = refl
