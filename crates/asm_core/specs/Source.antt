-- The lines of a source, which are numbered from 1.
-- Source: this project's own assembly language.
use Rattle.std.specs.Prelude.{ℕ, ◌==◌, List, [], ◌∷◌, Option, Some, None, Result, Ok, Err, if◌then◌else◌}
use Rattle.std.specs.List.{filter_map}
use Rattle.asm_parser.specs.declared.line.LineFault.{LineFault}
use Rattle.asm_parser.specs.Statements.{SourceLine}
use Rattle.asm_parser.specs.Lines.{line_of}

-- the character put before the first line
abbrev pub onto_first : ℕ → List (List ℕ) → List (List ℕ)
onto_first c [] = (c ∷ []) ∷ []
onto_first c (line ∷ lines) = (c ∷ line) ∷ lines

-- the lines of a source, which line feeds end; the last may have none
unfoldable pub lines_of : List ℕ → List (List ℕ)
lines_of [] = []
lines_of (c ∷ cs) = if c == 10 then [] ∷ lines_of cs else onto_first c (lines_of cs)

abbrev pub if_line : Result SourceLine LineFault → Option SourceLine
if_line (Ok line) = Some line
if_line (Err fault) = None

-- what the lines say that are in the grammar
unfoldable pub said_lines : List (List ℕ) → List SourceLine
said_lines lines = filter_map (λ line. if_line (line_of line)) lines
