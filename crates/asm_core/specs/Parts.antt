-- The parts of an object before its start is known.
use Rattle.std.specs.Prelude.{◌≡◌, ℕ, List, length, map, slice_get, Some, None}
use Rattle.sm_types.specs.declared.object.Section.{Section}
use Rattle.sm_types.specs.declared.object.Section.TheVariants.{Text, Data}
use Rattle.asm_parser.specs.Statements.{SourceLine}
use Rattle.asm_core.specs.declared.object_parts.Parts.{Parts}
use Rattle.asm_core.specs.Layout.{first_counter, counter_past, counter_of, names_in}
use Rattle.asm_core.specs.Faults.{text_length_of}
use Rattle.asm_core.specs.Assembly.{Puts, symbol_said, symbols_from}

-- the bytes of a part
abbrev pub bytes_in : Parts → Section → List ℕ
bytes_in parts Text = parts.text_bytes.items
bytes_in parts Data = parts.data_bytes.items

-- the parts are what the lines put, and the symbols those of the lines
pub record ArePartsOf (lines : List SourceLine) (parts : Parts) : Type 0 where
  pub text_size : length parts.text_bytes.items ≡ text_length_of lines
  pub data_size : length parts.data_bytes.items ≡ (counter_past first_counter lines).data_size
  pub puts : (k : ℕ) (line : SourceLine) → slice_get lines k ≡ Some line
      → Puts (text_length_of lines) (names_in lines) (bytes_in parts (counter_of lines k).part)
      (counter_of lines k) line.says
  pub symbols :
      map symbol_said parts.symbols.items ≡ symbols_from (text_length_of lines) first_counter None lines
