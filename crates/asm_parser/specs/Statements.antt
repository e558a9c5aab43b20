-- What a line of a source says: its label, and a directive or an instruction.
-- Source: this project's own assembly language, with the directives of the GNU assembler.
use Rattle.std.specs.Prelude.{ℕ, List, Option, map, option_map}
use Rattle.insn_text.specs.declared.item.Item.{Item}
use Rattle.asm_parser.specs.declared.line.Line.{Line}
use Rattle.asm_parser.specs.declared.line.Statement.{Statement}
use Rattle.asm_parser.specs.declared.line.Statement.TheVariants as statement
use Rattle.asm_parser.specs.declared.line.Target.{Target}
use Rattle.asm_parser.specs.declared.line.Value.{Value}
use Rattle.asm_parser.specs.declared.line.Value.TheVariants as value

-- a value of `.quad`: a number, or the address of a label
pub data QuadValue : Type 0 where
  IsNumber : ℕ → QuadValue
  IsAddressOf : List ℕ → QuadValue

-- the name of an instruction's target, and the operand that is to have the distance to it
pub record TargetSaid : Type 0 where
  pub name : List ℕ
  pub operand : Item

-- the code that a line puts
pub data Code : Type 0 where
  -- an instruction's word, and its target where that is a name, the distance in the word being 0 then
  Instruction : ℕ → Option TargetSaid → Code
  -- the support routines of the lazy saving of ZA
  SupportRoutines : Code
  -- the tail of a call, which restores ZA where the call left it dormant
  CallTail : Code

pub data Says : Type 0 where
  -- nothing
  Nothing : Says
  -- what follows goes to the text, or to the data
  IntoText : Says
  IntoData : Says
  -- numbers of 8, 4 and 1 bytes
  Quads : List QuadValue → Says
  Words : List ℕ → Says
  Bytes : List ℕ → Says
  -- so many zeros
  Zeros : ℕ → Says
  -- zeros up to a multiple of this power of 2
  Aligns : ℕ → Says
  -- a name that is to be seen from outside, which has no effect
  Globals : List ℕ → Says
  -- code, and the column of the name of its instruction or directive
  Codes : Code → ℕ → Says

pub record SourceLine : Type 0 where
  pub label : Option (List ℕ)
  pub says : Says

-- what the code's values stand for
abbrev pub value_of : Value → QuadValue
value_of (value.Number n) = IsNumber n
value_of (value.Name name) = IsAddressOf name.now

abbrev pub target_said : Target → TargetSaid
target_said target = record { name = target.name.now; operand = target.operand }

abbrev pub says_of : Statement → Says
says_of statement.Empty = Nothing
says_of statement.Text = IntoText
says_of statement.Data = IntoData
says_of (statement.Quad values) = Quads (map value_of values.items)
says_of (statement.Word values) = Words values.items
says_of (statement.Byte values) = Bytes values.items
says_of (statement.Zero count) = Zeros count
says_of (statement.Align power) = Aligns power
says_of (statement.Global name) = Globals name.now
says_of (statement.Instruction word target column) =
    Codes (Instruction word (option_map target_said target)) column
says_of (statement.SupportRoutines column) = Codes SupportRoutines column
says_of (statement.CallTail column) = Codes CallTail column

abbrev pub line_said : Line → SourceLine
line_said line = record { label = option_map (λ name. name.now) line.label; says = says_of line.statement }
