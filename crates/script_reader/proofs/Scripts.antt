-- The script that is read of a file is the one that it is.
use Rattle.std.proofs.Common.{◌≡◌, ℕ, List, length, Ok, ◌∙◌}
use Rattle.line_reader.specs.Lines.{line_text, words_in}
use Rattle.line_reader.specs.File.{file_lines, all_said}
use Rattle.line_reader.proofs.Files.{IsReadingOf, lines_say, lines_read, within, not_too_long}
use Rattle.script_reader.specs.Words.{command_in}
use Rattle.script_reader.specs.Script.{IsLineOf, IsScriptOf, script_in}
use Rattle.script_reader.specs.declared.command.DebugCommand.{DebugCommand}
use Rattle.script_reader.proofs.Spoken.{command_words, words_read}

-- the words of a line are read as the command that it says
pub reading : IsReadingOf command_in IsLineOf
reading = record {
  right = λ line command h. command_words (words_in (line_text line)) command h;
  full = λ line command h. words_read command (words_in (line_text line)) h;
}

pub is_script : (bytes : List ℕ) (commands : List DebugCommand) → script_in bytes ≡ Ok commands → IsScriptOf bytes commands
unfolding script_in
is_script bytes commands e =
    let it = within _ (length bytes) _ (all_said command_in (file_lines bytes)) commands e in
    record { fits = it.0; said = lines_say command_in IsLineOf reading (file_lines bytes) commands it.1 }

pub script_is : (bytes : List ℕ) (commands : List DebugCommand) → IsScriptOf bytes commands → script_in bytes ≡ Ok commands
unfolding script_in
script_is bytes commands h =
    not_too_long _ (length bytes) _ (all_said command_in (file_lines bytes)) h.fits
    ∙ lines_read command_in IsLineOf reading (file_lines bytes) commands h.said
