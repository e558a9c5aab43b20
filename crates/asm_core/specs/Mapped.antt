-- What the symbols of an object say of its text: which of its bytes begin code.
-- Source: ELF for the Arm 64-bit Architecture (AArch64), mapping symbols `$x` and `$d`.
use Rattle.std.specs.Prelude.{◌≡◌, ℕ, ◌+◌, ◌<◌, ◌≤◌, List, length, slice_get, Some}
use Rattle.sm_types.specs.declared.object.Object.{Object}
use Rattle.sm_types.specs.declared.object.Section.TheVariants.{Text}
use Rattle.sm_types.specs.Objects.{text_address, is_text_code, mappings_of}
use Rattle.asm_parser.specs.Statements.{SourceLine}
use Rattle.asm_core.specs.Assembly.{puts_code}
use Rattle.asm_core.specs.Layout.{here, counter_of, size_of}
use Rattle.asm_core.specs.Source.{lines_of, said_lines}

-- the line put the byte of the text at an offset
pub record IsPutBy (lines : List SourceLine) (offset : ℕ) (line : SourceLine) : Type 0 where
  pub number : ℕ
  pub listed : slice_get lines number ≡ Some line
  pub in_text : (counter_of lines number).part ≡ Text
  pub from : (counter_of lines number).text_size ≤ offset
  pub to : offset < (counter_of lines number).text_size + size_of line.says (here (counter_of lines number))

-- some line put the byte, and the symbols say that it begins code exactly where that line puts code
pub record IsMapped (lines : List SourceLine) (object : Object) (offset : ℕ) : Type 0 where
  pub line : SourceLine
  pub put : IsPutBy lines offset line
  pub code :
      is_text_code (mappings_of object.symbols.items) (text_address + offset) ≡ puts_code line.says

-- each byte of the text of a source's object is mapped so
abbrev pub MapsCode : List ℕ → Object → Type 0
MapsCode source object =
    (offset : ℕ) → offset < length object.text_bytes.items
    → IsMapped (said_lines (lines_of source)) object offset
