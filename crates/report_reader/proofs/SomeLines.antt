-- A line that is of a kind, or says something, is not empty.
use Rattle.std.proofs.Common.{◌≡◌, ℕ, true, List, [], ◌∷◌, length, Some, sym, arith}
use Rattle.std.proofs.Common.{◌≢◌}
use Rattle.std.proofs.lemmas.Bool.{false≢true}
use Rattle.line_reader.specs.Lines.{words_of, is_ended}
use Rattle.line_reader.specs.Fields.{said_by, named}
use Rattle.report_reader.specs.Forms.{is_line, has_form}
use Rattle.text_lines.specs.declared.forms.LineKind.{LineKind}
use Rattle.report_reader.specs.Events.{setting_line}
use Rattle.report_reader.specs.declared.events.Setting.{Setting}

-- a line of a kind is not empty
pub some_line : (kind : LineKind) (line : List ℕ) → true ≡ is_line kind line → length line ≢ 0
unfolding is_line has_form words_of is_ended
some_line kind [] e = absurd (false≢true (sym e))
some_line kind (b ∷ bs) e = λ none. omega arith

-- a line of a word is not empty
pub some_setting : (name : List ℕ) (bound : ℕ) (line : List ℕ) (setting : Setting) → Some setting ≡ setting_line name bound line
    → length line ≢ 0
unfolding setting_line said_by named words_of is_ended
some_setting name bound [] setting e = λ none. cc
some_setting name bound (b ∷ bs) setting e = λ none. omega arith
