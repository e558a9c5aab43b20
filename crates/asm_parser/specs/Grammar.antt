-- The grammar of a line: the tokens after its label, for each thing that it can say; and with which token
-- no line goes on.
-- Source: this project's own assembly language, with the directives of the GNU assembler.
use Rattle.std.specs.Prelude.{◌≡◌, ℕ, suc, ◌+◌, ◌-◌, ◌^◌, ◌<◌, ◌≤◌, Bool, true, false, List, [], ◌∷◌, ◌++◌}
use Rattle.std.specs.Prelude.{length, take, map, slice_get, slice_index, Option, Some, None, codes, is_some}
use Rattle.std.specs.Prelude.{option_map}
use Rattle.std.specs.List.{list_all}
use Rattle.a64_encode.specs.Either.{instruction_of}
use Rattle.insn_text.specs.declared.keywords.TheConstants.{MNEMONICS}
use Rattle.asm_tokens.specs.declared.token.Token.{Token}
use Rattle.asm_tokens.specs.declared.token.Token.TheVariants.{Bare, Punctuation}
use Rattle.asm_tokens.specs.declared.token.Lexeme.{Lexeme}
use Rattle.asm_tokens.specs.Characters.{is_blank, is_digit, is_name_character, characters, column_at}
use Rattle.asm_tokens.specs.Characters.{before_comment}
use Rattle.asm_tokens.specs.Tokens.{index_in, is_name, is_number_token}
use Rattle.asm_operands.specs.declared.fault.FaultKind.{FaultKind}
use Rattle.asm_operands.specs.declared.fault.FaultKind.TheVariants.{UnknownName, BadNumber, Extra, BadOperand}
use Rattle.asm_operands.specs.declared.operands.Target.{Target}
use Rattle.asm_operands.specs.Operands.{first_word, target_of, shapes_of}
use Rattle.asm_parser.specs.declared.line.LineFault.{LineFault}
use Rattle.asm_parser.specs.Statements.{QuadValue, IsNumber, IsAddressOf, TargetSaid, Says, Nothing, IntoText}
use Rattle.asm_parser.specs.Statements.{IntoData, Quads, Words, Bytes, Zeros, Aligns, Globals, Codes}
use Rattle.asm_parser.specs.Statements.{Instruction, SupportRoutines, CallTail, SourceLine}
use Rattle.asm_parser.specs.Lines.{text_of_lexeme, line_lexemes, label_of, fault_of_kind}

-- a token as it is written: its text, and its column
pub record Written : Type 0 where
  pub token : Token
  pub text : List ℕ
  pub column : ℕ

abbrev pub written : List ℕ → Lexeme → Written
written line l = record { token = l.token; text = text_of_lexeme line l; column = column_at line l.start }

-- the tokens of a line after its label
unfoldable pub written_of : List ℕ → List Written
written_of line = map (written line) (line_lexemes line)

-- ---- the parts of a line

-- a text begins with a label: blanks, a name that begins with no digit, and a colon right after it
pub record IsLabelled (name text rest : List ℕ) : Type 0 where
  pub blanks : List ℕ
  pub are_blank : list_all is_blank blanks ≡ true
  pub names : list_all is_name_character name ≡ true
  pub some_name : 0 < length name
  pub no_digit : is_digit (slice_index name 0) ≡ false
  pub all : text ≡ blanks ++ (name ++ 58 ∷ rest)

-- a name
abbrev pub IsName : List ℕ → Written → Type 0
IsName name t = (is_name t.token ≡ true) × (t.text ≡ name)

-- a number up to the greatest, without `#`
abbrev pub IsNumberTo : ℕ → ℕ → Written → Type 0
IsNumberTo most n t = (t.token ≡ Bare n) × (n ≤ most)

-- a value of `.quad`: a number of 64 bits, or a name
abbrev pub IsValue : QuadValue → Written → Type 0
IsValue (IsNumber n) t = IsNumberTo (2 ^ 64 - 1) n t
IsValue (IsAddressOf name) t = IsName name t

-- a comma
abbrev pub IsComma : Written → Type 0
IsComma t = t.token ≡ Punctuation 44

-- nothing
abbrev pub IsNothing : List Written → Type 0
IsNothing ts = ts ≡ []

-- one item
abbrev pub IsOne : {A : Type 0} → (A → Written → Type 0) → A → List Written → Type 0
IsOne IsItem a ts = (t : Written) × (ts ≡ t ∷ []) × IsItem a t

-- each of some items after a comma
abbrev pub AreMore : {A : Type 0} → (A → Written → Type 0) → List A → List Written → Type 0
AreMore IsItem [] ts = ts ≡ []
AreMore IsItem (a ∷ items) ts =
    (comma : Written) × (t : Written) × (rest : List Written) × (ts ≡ comma ∷ t ∷ rest)
    × IsComma comma × IsItem a t × AreMore IsItem items rest

-- one item or more, with a comma between each two
abbrev pub AreListed : {A : Type 0} → (A → Written → Type 0) → List A → List Written → Type 0
AreListed IsItem [] ts = ⊥
AreListed IsItem (a ∷ items) ts =
    (t : Written) × (rest : List Written) × (ts ≡ t ∷ rest) × IsItem a t × AreMore IsItem items rest

-- a name, and then what is to follow it
pub record Begins (name : List ℕ) (Follows : List Written → Type 0) (ts : List Written) : Type 0 where
  pub first : Written
  pub rest : List Written
  pub all : ts ≡ first ∷ rest
  pub named : IsName name first
  pub follows : Follows rest

-- a name at that column, and nothing else
pub record IsAlone (name : List ℕ) (column : ℕ) (ts : List Written) : Type 0 where
  pub first : Written
  pub all : ts ≡ first ∷ []
  pub named : IsName name first
  pub column_is : column ≡ first.column

-- the target of an instruction: the text of its token, and the operand that is to have the distance
abbrev pub target_written : List Written → Option Target → Option TargetSaid
target_written ts None = None
target_written ts (Some target) =
    option_map (λ t. record { name = t.text; operand = target.operand }) (slice_get ts target.index)

-- the name of an instruction, and operands that a shape of that name takes as that word
pub record IsInstruction (word : ℕ) (target : Option TargetSaid) (column : ℕ) (ts : List Written) : Type 0
  where
    pub first : Written
    pub operands : List Written
    pub all : ts ≡ first ∷ operands
    pub named : is_name first.token ≡ true
    pub name : ℕ
    pub listed : index_in MNEMONICS first.text ≡ Some name
    pub takes : first_word (shapes_of name) (map (λ t. t.token) operands) ≡ Some word
    pub aims : target ≡ target_written operands (target_of (shapes_of name) (map (λ t. t.token) operands))
    pub column_is : column ≡ first.column

-- ---- the grammar

-- the tokens of what a line says
unfoldable pub IsWritten : Says → List Written → Type 0
IsWritten Nothing ts = IsNothing ts
IsWritten IntoText ts = Begins (codes ".text") IsNothing ts
IsWritten IntoData ts = Begins (codes ".data") IsNothing ts
IsWritten (Quads values) ts = Begins (codes ".quad") (AreListed IsValue values) ts
IsWritten (Words numbers) ts = Begins (codes ".word") (AreListed (IsNumberTo (2 ^ 32 - 1)) numbers) ts
IsWritten (Bytes numbers) ts = Begins (codes ".byte") (AreListed (IsNumberTo 255) numbers) ts
IsWritten (Zeros count) ts = Begins (codes ".zero") (IsOne (IsNumberTo (2 ^ 64 - 1)) count) ts
IsWritten (Aligns power) ts = Begins (codes ".align") (IsOne (IsNumberTo 12) power) ts
IsWritten (Globals name) ts = Begins (codes ".global") (IsOne IsName name) ts
IsWritten (Codes (Instruction word target) column) ts = IsInstruction word target column ts
IsWritten (Codes SupportRoutines column) ts = IsAlone (codes ".sme_abi") column ts
IsWritten (Codes CallTail column) ts = IsAlone (codes ".sme_tail") column ts

-- the word of an instruction is one that means an instruction
abbrev pub IsMeaning : Says → Type 0
IsMeaning (Codes (Instruction word target) column) = is_some (instruction_of word) ≡ true
IsMeaning other = Unit {0}

-- a line says that: its label, and what its tokens are
pub record IsLine (line : List ℕ) (said : SourceLine) : Type 0 where
  pub label : said.label ≡ label_of (before_comment line)
  pub tokens : IsWritten said.says (written_of line)
  pub meaning : IsMeaning said.says

-- ---- the first token with which no line goes on, in any grammar of tokens

-- why tokens do not go on with one, or may not end
abbrev pub Whys : Type 1
Whys = List Written → Option Written → FaultKind → Type 0

module _ {A : Type 0} (Is : A → List Written → Type 0) where
  -- with others after them the tokens are one of the grammar
  abbrev pub GoesOn : List Written → Type 0
  GoesOn ts = (rest : List Written) × (a : A) × Is a (ts ++ rest)

  -- they are one by themselves
  abbrev pub IsWhole : List Written → Type 0
  IsWhole ts = (a : A) × Is a ts

  -- with a number after them they go on
  abbrev pub WantsNumber : List Written → Type 0
  WantsNumber ts = (t : Written) × (is_number_token t.token ≡ true) × GoesOn (ts ++ t ∷ [])

  -- why they do not go on with a token, or end where there is none: the token is a number, and one may
  -- stand there; they are whole without it; all else
  abbrev pub IsWhy : List Written → Option Written → FaultKind → Type 0
  IsWhy ts (Some t) BadNumber = (is_number_token t.token ≡ true) × WantsNumber ts
  IsWhy ts (Some t) Extra = (is_number_token t.token ≡ true → WantsNumber ts → ⊥) × IsWhole ts
  IsWhy ts (Some t) BadOperand = (is_number_token t.token ≡ true → WantsNumber ts → ⊥) × (IsWhole ts → ⊥)
  IsWhy ts None BadOperand = Unit {0}
  IsWhy ts other kind = ⊥

  -- they do not go on with the token at an index; or there they end, and are none that is allowed
  abbrev pub StopsAt : (A → Type 0) → List Written → ℕ → Option Written → Type 0
  StopsAt IsAllowed ts index (Some t) = GoesOn (take (suc index) ts) → ⊥
  StopsAt IsAllowed ts index None = (index ≡ length ts) × ((a : A) → Is a ts → IsAllowed a → ⊥)

  -- the first token with which they do not go on, or their end where they are not allowed to end
  pub record IsFirstFault (IsAllowed : A → Type 0) (Why : Whys) (ts : List Written) (index : ℕ)
      (kind : FaultKind) : Type 0 where
    pub goes_on : GoesOn (take index ts)
    pub stops : StopsAt IsAllowed ts index (slice_get ts index)
    pub why : Why (take index ts) (slice_get ts index) kind

-- ---- the fault of a line

-- a name that begins a line
abbrev pub is_leading_name : List Written → Option Written → Bool
is_leading_name [] (Some t) = is_name t.token
is_leading_name ts o = false

-- why a line does not go on: no instruction and no directive has the name that begins it; else as anywhere
abbrev pub IsReason : Bool → List Written → Option Written → FaultKind → Type 0
IsReason true ts o kind = kind ≡ UnknownName
IsReason false ts o kind = IsWhy IsWritten ts o kind

abbrev pub IsLineWhy : List Written → Option Written → FaultKind → Type 0
IsLineWhy ts o kind = IsReason (is_leading_name ts o) ts o kind

-- the column of a token, or just past the end of the line
abbrev pub column_of_written : List ℕ → Option Written → ℕ
column_of_written line None = characters line + 1
column_of_written line (Some t) = t.column

-- the fault of a line: the first token with which no line goes on, or the end of one that may not end there
pub record IsFaultOf (line : List ℕ) (fault : LineFault) : Type 0 where
  pub index : ℕ
  pub kind : FaultKind
  pub first : IsFirstFault IsWritten IsMeaning IsLineWhy (written_of line) index kind
  pub fault_is : fault ≡ fault_of_kind kind (column_of_written line (slice_get (written_of line) index))
