-- What the code tells of some tokens of a line: a value, or where the line stops.
-- Source: this project's own assembly language.
use Rattle.std.specs.Prelude.{◌≡◌, ℕ, List, ◌++◌, Bool, not, ◌&&◌, ◌==◌, length, drop, slice_get, slice_index}
use Rattle.std.specs.Prelude.{Option, Some, None, Result, Ok, Err, option_map}
use Rattle.asm_tokens.specs.declared.token.Lexeme.{Lexeme}
use Rattle.asm_tokens.specs.Characters.{is_digit, column_at}
use Rattle.asm_tokens.specs.Tokens.{lexemes_of}
use Rattle.asm_parser.specs.declared.line.LineFault.{LineFault}
use Rattle.asm_parser.specs.declared.parse_fault.ParseFault.{ParseFault}
use Rattle.asm_parser.specs.declared.parse_fault.ParseFault.TheVariants.{Syntax, Memory}
use Rattle.asm_parser.specs.declared.line.LineFault.TheVariants as fault
use Rattle.asm_parser.specs.declared.directives.Directive.{Directive}
use Rattle.asm_parser.specs.declared.directives.Directive.TheVariants as directive
use Rattle.asm_parser.specs.Lines as lines
use Rattle.asm_parser.specs.Lines.{Answer, Tells, Stops, fault_of_kind}

-- what some tokens say, with a fault where its token begins in the line, or nowhere if it stands past the
-- last token
unfoldable pub located : {A : Type 0} → List Lexeme → Answer A → Result A ParseFault
located ls (Tells a) = Ok a
located ls (Stops index kind) = Err (Syntax (option_map (λ l. l.start) (slice_get ls index)) kind)

-- the tokens of a text from an offset on
abbrev pub lexemes_from : List ℕ → ℕ → List Lexeme
lexemes_from text offset = lexemes_of offset (drop offset text)

-- what the tokens of a text from an offset on say
unfoldable pub said_from : {A : Type 0} → (List Lexeme → Answer A) → List ℕ → ℕ → Result A ParseFault
said_from says text offset = located (lexemes_from text offset) (says (lexemes_from text offset))

-- a line stops there, but where it is out of memory
abbrev pub FaultsAs : {A : Type 0} → ParseFault → Result A ParseFault → Type 0
FaultsAs Memory said = Unit {0}
FaultsAs (Syntax start kind) said = said ≡ Err (Syntax start kind)

-- a result shows what is said, but where it is out of memory
abbrev pub Shows : {R A : Type 0} → (R → A) → Result R ParseFault → Result A ParseFault → Type 0
Shows view (Ok r) said = said ≡ Ok (view r)
Shows view (Err fault) said = FaultsAs fault said

-- values that stand before those of a list
abbrev pub before : {A : Type 0} → List A → Result (List A) ParseFault → Result (List A) ParseFault
before values (Ok others) = Ok (values ++ others)
before values (Err fault) = Err fault

-- the column of a byte of the line, or just past the line's end
unfoldable pub column_from : List ℕ → Option ℕ → ℕ
column_from line None = column_at line (length line)
column_from line (Some start) = column_at line start

-- the fault of a line that stops
unfoldable pub line_fault_of : List ℕ → ParseFault → LineFault
line_fault_of line (Syntax start kind) = fault_of_kind kind (column_from line start)
line_fault_of line Memory = fault.Memory

-- the directive of a name
abbrev pub directive_said : Directive → lines.Directive
directive_said directive.Text = lines.TextDirective
directive_said directive.Data = lines.DataDirective
directive_said directive.Quad = lines.QuadDirective
directive_said directive.Word = lines.WordDirective
directive_said directive.Byte = lines.ByteDirective
directive_said directive.Zero = lines.ZeroDirective
directive_said directive.Align = lines.AlignDirective
directive_said directive.Global = lines.GlobalDirective
directive_said directive.SmeAbi = lines.AbiDirective
directive_said directive.SmeTail = lines.TailDirective

-- a name with no digit first is a label where a colon stands after it
abbrev pub is_label : List ℕ → List ℕ → ℕ → Bool
is_label text name end =
    not (length name == 0) && not (is_digit (slice_index name 0)) && (slice_index text end == 58)
