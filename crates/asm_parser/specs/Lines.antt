-- The grammar of a line: an optional label, an optional directive or instruction, and an optional comment.
-- Source: this project's own assembly language, with the directives of the GNU assembler.
use Rattle.std.specs.Prelude.{ℕ, ◌+◌, ◌-◌, ◌^◌, Bool, true, false, not, ◌&&◌, ◌==◌, nat_le, List, [], ◌∷◌}
use Rattle.std.specs.Prelude.{length, take, drop, map, slice_get, slice_index, Option, Some, None, Result, Ok}
use Rattle.std.specs.Prelude.{Err, codes, if◌then◌else◌, option_map}
use Rattle.std.specs.Str.{bytes_eq}
use Rattle.insn_text.specs.declared.item.Item.{Item}
use Rattle.insn_text.specs.declared.keywords.TheConstants.{MNEMONICS}
use Rattle.asm_tokens.specs.declared.token.Token.{Token}
use Rattle.asm_tokens.specs.declared.token.Token.TheVariants.{Bare, Punctuation}
use Rattle.asm_tokens.specs.declared.token.Lexeme.{Lexeme}
use Rattle.asm_tokens.specs.Characters.{is_digit, is_blank, characters, column_at, before_comment, front}
use Rattle.asm_tokens.specs.Characters.{back}
use Rattle.asm_tokens.specs.Tokens.{run, lexemes_of, index_in, is_name, is_number_token}
use Rattle.asm_operands.specs.declared.fault.FaultKind.{FaultKind}
use Rattle.asm_operands.specs.declared.fault.FaultKind.TheVariants.{UnknownName, BadNumber, Extra, BadOperand}
use Rattle.asm_operands.specs.Operands.{OperandsSaid, operands_said}
use Rattle.asm_operands.specs.declared.operands.Target.{Target}
use Rattle.asm_operands.specs.Operands as operands
use Rattle.asm_parser.specs.declared.line.LineFault.{LineFault}
use Rattle.asm_parser.specs.declared.line.LineFault.TheVariants as fault
use Rattle.asm_parser.specs.Statements.{QuadValue, IsNumber, IsAddressOf, TargetSaid, Says, Nothing, IntoText}
use Rattle.asm_parser.specs.Statements.{IntoData, Quads, Words, Bytes, Zeros, Aligns, Globals, Codes}
use Rattle.asm_parser.specs.Statements.{Instruction, SupportRoutines, CallTail, SourceLine}

-- the bytes of a token of the line
unfoldable pub text_of_lexeme : List ℕ → Lexeme → List ℕ
text_of_lexeme line l = take (l.end - l.start) (drop l.start line)

-- ---- what some tokens say: that, or at which of them no line goes on, and why

pub data Answer (A : Type 0) : Type 0 where
  Tells : A → Answer A
  Stops : ℕ → FaultKind → Answer A

abbrev pub and_then : {A B : Type 0} → (A → B) → Answer A → Answer B
and_then make (Tells a) = Tells (make a)
and_then make (Stops index kind) = Stops index kind

-- the same of tokens that stand so many tokens further on
abbrev pub further : {A : Type 0} → ℕ → Answer A → Answer A
further indices (Tells a) = Tells a
further indices (Stops index kind) = Stops (indices + index) kind

-- nothing is to follow
unfoldable pub ends : {A : Type 0} → A → List Lexeme → Answer A
ends a [] = Tells a
ends a (l ∷ ls) = Stops 0 Extra

-- a token is not what is to stand there: a number
unfoldable pub no_number : {A : Type 0} → Token → Answer A
no_number t = Stops 0 (if is_number_token t then BadNumber else BadOperand)

-- ---- directives

-- a number without `#`, up to the greatest
unfoldable pub number_up_to : ℕ → Token → Option ℕ
number_up_to most (Bare n) = if nat_le n most then Some n else None
number_up_to most _ = None

abbrev pub number_then_end : Token → Option ℕ → List Lexeme → Answer ℕ
number_then_end t None ls = no_number t
number_then_end t (Some n) ls = further 1 (ends n ls)

-- one number
unfoldable pub one_number : ℕ → List Lexeme → Answer ℕ
one_number most [] = Stops 0 BadOperand
one_number most (l ∷ ls) = number_then_end l.token (number_up_to most l.token) ls

-- one name
unfoldable pub one_name : List ℕ → List Lexeme → Answer (List ℕ)
one_name line [] = Stops 0 BadOperand
one_name line (l ∷ ls) =
    if is_name l.token then further 1 (ends (text_of_lexeme line l) ls) else Stops 0 BadOperand

abbrev pub cons_answer : {A : Type 0} → A → Answer (List A) → Answer (List A)
cons_answer a (Tells rest) = Tells (a ∷ rest)
cons_answer a (Stops index kind) = Stops index kind

-- `,`
abbrev pub is_comma_token : Token → Bool
is_comma_token (Punctuation c) = c == 44
is_comma_token _ = false

-- one value or more with a comma between each two; `value` tells whether a token is one
module _ {A : Type 0} (value : Lexeme → Option A) where
  abbrev pub value_or_fault : Token → (A → Answer (List A)) → Option A → Answer (List A)
  value_or_fault t on None = no_number t
  value_or_fault t on (Some a) = on a

  -- a list of values that begins here, or the rest of one after a value
  unfoldable pub values_from : Bool → List Lexeme → Answer (List A)
  values_from true [] = Stops 0 BadOperand
  values_from false [] = Tells []
  values_from true (l ∷ ls) =
      value_or_fault l.token (λ a. further 1 (cons_answer a (values_from false ls))) (value l)
  values_from false (l ∷ ls) =
      if is_comma_token l.token then further 1 (values_from true ls) else Stops 0 Extra

unfoldable pub number_value : ℕ → Lexeme → Option ℕ
number_value most l = number_up_to most l.token

-- a number of 64 bits, or a name
unfoldable pub quad_value : List ℕ → Lexeme → Option QuadValue
quad_value line l =
    if is_name l.token then Some (IsAddressOf (text_of_lexeme line l)) else option_map IsNumber
    (number_up_to (2 ^ 64 - 1) l.token)

pub data Directive : Type 0 where
  TextDirective DataDirective QuadDirective WordDirective ByteDirective ZeroDirective AlignDirective
      GlobalDirective AbiDirective TailDirective : Directive

unfoldable pub directive_of : List ℕ → Option Directive
directive_of name =
    if bytes_eq name (codes ".text") then Some TextDirective
    else if bytes_eq name (codes ".data") then Some DataDirective
    else if bytes_eq name (codes ".quad") then Some QuadDirective
    else if bytes_eq name (codes ".word") then Some WordDirective
    else if bytes_eq name (codes ".byte") then Some ByteDirective
    else if bytes_eq name (codes ".zero") then Some ZeroDirective
    else if bytes_eq name (codes ".align") then Some AlignDirective
    else if bytes_eq name (codes ".global") then Some GlobalDirective
    else if bytes_eq name (codes ".sme_abi") then Some AbiDirective
    else if bytes_eq name (codes ".sme_tail") then Some TailDirective
    else None

-- what a directive says with the tokens after its name, which stands at that column
unfoldable pub directive_says : List ℕ → ℕ → Directive → List Lexeme → Answer Says
directive_says line column TextDirective ls = ends IntoText ls
directive_says line column DataDirective ls = ends IntoData ls
directive_says line column QuadDirective ls = and_then Quads (values_from (quad_value line) true ls)
directive_says line column WordDirective ls = and_then Words (values_from (number_value (2 ^ 32 - 1)) true ls)
directive_says line column ByteDirective ls = and_then Bytes (values_from (number_value 255) true ls)
directive_says line column ZeroDirective ls = and_then Zeros (one_number (2 ^ 64 - 1) ls)
directive_says line column AlignDirective ls = and_then Aligns (one_number 12 ls)
directive_says line column GlobalDirective ls = and_then Globals (one_name line ls)
directive_says line column AbiDirective ls = ends (Codes SupportRoutines column) ls
directive_says line column TailDirective ls = ends (Codes CallTail column) ls

-- a list of values follows the directive
unfoldable pub is_of_list : Directive → Bool
is_of_list QuadDirective = true
is_of_list WordDirective = true
is_of_list ByteDirective = true
is_of_list other = false

abbrev pub if_of_list : Option Directive → Bool
if_of_list None = false
if_of_list (Some directive) = is_of_list directive

-- the tokens begin with a directive that a list of values follows
unfoldable pub begin_list : List ℕ → List Lexeme → Bool
begin_list line [] = false
begin_list line (l ∷ ls) = is_name l.token && if_of_list (directive_of (text_of_lexeme line l))

-- ---- instructions

-- the target, from the index of its token
abbrev pub target_named : List ℕ → Item → Option Lexeme → Option TargetSaid
target_named line i None = None
target_named line i (Some l) = Some (record { name = text_of_lexeme line l; operand = i })

abbrev pub target_at : List ℕ → List Lexeme → Option Target → Option TargetSaid
target_at line ls None = None
target_at line ls (Some target) = target_named line target.operand (slice_get ls target.index)

abbrev pub instruction_or_fault : List ℕ → ℕ → List Lexeme → OperandsSaid → Answer Says
instruction_or_fault line column ls (operands.Says word target) =
    Tells (Codes (Instruction word (target_at line ls target)) column)
instruction_or_fault line column ls (operands.Fails f) = Stops f.index f.kind

-- what an instruction says, whose mnemonic has that index in its table and stands at that column
unfoldable pub instruction_says : List ℕ → ℕ → ℕ → List Lexeme → Answer Says
instruction_says line mnemonic column ls =
    instruction_or_fault line column ls (operands_said mnemonic (map (λ l. l.token) ls))

-- ---- a line

abbrev pub named_says : List ℕ → Lexeme → List Lexeme → Option Directive → Option ℕ → Answer Says
named_says line l ls (Some directive) index =
    further 1 (directive_says line (column_at line l.start) directive ls)
named_says line l ls None (Some mnemonic) =
    further 1 (instruction_says line mnemonic (column_at line l.start) ls)
named_says line l ls None None = Stops 0 UnknownName

-- what the tokens after the label say
unfoldable pub tokens_say : List ℕ → List Lexeme → Answer Says
tokens_say line [] = Tells Nothing
tokens_say line (l ∷ ls) =
    if is_name l.token then named_says line l ls (directive_of (text_of_lexeme line l))
    (index_in MNEMONICS (text_of_lexeme line l))
    else Stops 0 Extra

-- how many bytes the blanks, the name and the colon of a label that a text begins with have: the colon stands
-- right after the name
unfoldable pub blanks : List ℕ → ℕ
blanks text = length (front is_blank text)

abbrev pub label_in : List ℕ → List ℕ
label_in text = run (back is_blank text)

unfoldable pub has_label : List ℕ → Bool
has_label text =
    not (length (label_in text) == 0) && not (is_digit (slice_index (label_in text) 0))
    && (slice_index (back is_blank text) (length (label_in text)) == 58)

unfoldable pub label_of : List ℕ → Option (List ℕ)
label_of text = if has_label text then Some (label_in text) else None

-- where the text after the label begins
unfoldable pub label_end : List ℕ → ℕ
label_end text = if has_label text then blanks text + length (label_in text) + 1 else 0

-- the column of a token, or just past the end of the line
abbrev pub column_of : List ℕ → Option Lexeme → ℕ
column_of line None = characters line + 1
column_of line (Some l) = column_at line l.start

abbrev pub fault_of_kind : FaultKind → ℕ → LineFault
fault_of_kind UnknownName column = fault.UnknownName column
fault_of_kind BadNumber column = fault.BadNumber column
fault_of_kind Extra column = fault.Extra column
fault_of_kind BadOperand column = fault.BadOperand column

abbrev pub line_answer : List ℕ → Option (List ℕ) → List Lexeme → Answer Says → Result SourceLine LineFault
line_answer line label ls (Tells says) = Ok (record { label = label; says = says })
line_answer line label ls (Stops index kind) = Err (fault_of_kind kind (column_of line (slice_get ls index)))

-- the tokens of a line after its label
unfoldable pub line_lexemes : List ℕ → List Lexeme
line_lexemes line =
    lexemes_of (label_end (before_comment line)) (drop (label_end (before_comment line))
    (before_comment line))

-- the directive of the line is `.quad`, `.word` or `.byte`
unfoldable pub keeps_list : List ℕ → Bool
keeps_list line = begin_list line (line_lexemes line)

-- what a line says, or its first fault
unfoldable pub line_of : List ℕ → Result SourceLine LineFault
line_of line =
    line_answer line (label_of (before_comment line)) (line_lexemes line)
    (tokens_say line (line_lexemes line))
