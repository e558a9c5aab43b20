-- Objects: where their parts stand in memory, which of their words are code, and which can start.
-- Source: ELF for the Arm 64-bit Architecture (AArch64), mapping symbols `$x` and `$d`; the addresses are
-- this project's own.
use Rattle.std.specs.Prelude.{◌≡◌, ℕ, ◌+◌, ◌*◌, ◌/◌, ◌%◌, ◌<◌, ◌≤◌, Bool, true, false, cond, List, [], ◌∷◌}
use Rattle.std.specs.Prelude.{length, take, drop, Option, Some, None, ◌==◌, ◌&&◌, nat_le}
use Rattle.std.specs.List.{filter_map, range_with_len}
use Rattle.sm_types.specs.Bytes.{little_number}
use Rattle.sm_types.specs.declared.object.Section.{Section}
use Rattle.sm_types.specs.declared.object.Section.TheVariants.{Text, Data}
use Rattle.sm_types.specs.declared.object.Content.{Content}
use Rattle.sm_types.specs.declared.object.Content.TheVariants as content
use Rattle.sm_types.specs.declared.object.Symbol.{Symbol}
use Rattle.sm_types.specs.declared.object.Object.{Object}

-- where the text stands
abbrev pub text_address : ℕ
text_address = 0x400000

-- the first multiple of 4096 that is not below the address
abbrev pub page_after : ℕ → ℕ
page_after address = (address + 4095) / 4096 * 4096

-- where the data stands: at the first page after the text
abbrev pub data_address : ℕ → ℕ
data_address text_length = page_after (text_address + text_length)

-- ---- mapping symbols

-- the characters `$`, `x`, `d` and `.` of their names
abbrev pub dollar : ℕ
dollar = 36

abbrev pub code_letter : ℕ
code_letter = 120

abbrev pub data_letter : ℕ
data_letter = 100

abbrev pub dot : ℕ
dot = 46

-- nothing, or `.` and a suffix
abbrev pub is_suffix : List ℕ → Bool
is_suffix [] = true
is_suffix (c ∷ cs) = c == dot

-- what the letter after `$` says of the bytes from the symbol's address on: `x` that they are code, `d` that
-- they are data
abbrev pub letter_means : ℕ → Option Content
letter_means c =
    cond (c == code_letter) (Some content.Code) (cond (c == data_letter) (Some content.Data) None)

-- what a name says of the bytes from its address on, after `$`: the letter alone, or with `.` and a suffix
abbrev pub letter_says : List ℕ → Option Content
letter_says [] = None
letter_says (c ∷ cs) = cond (is_suffix cs) (letter_means c) None

-- what a name says of the bytes from its address on; one that is no mapping symbol's says nothing
abbrev pub name_says : List ℕ → Option Content
name_says [] = None
name_says (c ∷ cs) = cond (c == dollar) (letter_says cs) None

-- what a symbol says of the bytes of the text; one of the data says nothing
abbrev pub says_in : Section → Option Content → Option Content
says_in Text says = says
says_in Data says = None

unfoldable pub symbol_says : Symbol → Option Content
symbol_says s = says_in s.section (name_says s.name.items)

-- a mapping symbol: its address, and what begins there
pub record Mapping : Type 0 where
  pub address : ℕ
  pub content : Content

abbrev pub mapping_at : ℕ → Option Content → Option Mapping
mapping_at address None = None
mapping_at address (Some says) = Some (record { address = address; content = says })

abbrev pub mapping_of : Symbol → Option Mapping
mapping_of s = mapping_at s.address (symbol_says s)

-- the mapping symbols of the text, in the order of the symbols
unfoldable pub mappings_of : List Symbol → List Mapping
mappings_of symbols = filter_map mapping_of symbols

-- of one mapping symbol and a later one, that which says what stands at an address: the one of the greater
-- address not above it, and of equal ones the later
abbrev pub later_mapping : ℕ → Option Mapping → Mapping → Option Mapping
later_mapping a None m = cond (nat_le m.address a) (Some m) None
later_mapping a (Some best) m =
    cond (nat_le m.address a && nat_le best.address m.address) (Some m) (Some best)

-- of one mapping symbol and a list of later ones, that which says what stands at an address
abbrev pub governing_mapping : ℕ → Option Mapping → List Mapping → Option Mapping
governing_mapping a best [] = best
governing_mapping a best (m ∷ ms) = governing_mapping a (later_mapping a best m) ms

-- something was said before, and it is what is said now
abbrev pub is_same : Option Content → Content → Bool
is_same (Some content.Code) content.Code = true
is_same (Some content.Data) content.Data = true
is_same before now = false

-- the bytes are instructions
abbrev pub is_code : Content → Bool
is_code content.Code = true
is_code content.Data = false

-- code where no mapping symbol says otherwise
abbrev pub mapping_says : Option Mapping → Content
mapping_says None = content.Code
mapping_says (Some m) = m.content

-- what begins at the byte of the text at an address
unfoldable pub text_content : List Mapping → ℕ → Content
text_content mappings a = mapping_says (governing_mapping a None mappings)

-- the byte of the text at an address begins code
unfoldable pub is_text_code : List Mapping → ℕ → Bool
is_text_code mappings a = is_code (text_content mappings a)

-- ---- code words

-- the number of four bytes from a place of the text on, the low byte first
unfoldable pub text_word : List ℕ → ℕ → ℕ
text_word text at = little_number (take 4 (drop at text))

-- word number n of the text with its address, where its first byte begins code
unfoldable pub object_word : Object → ℕ → Option (ℕ × ℕ)
object_word o n =
    cond (is_text_code (mappings_of o.symbols.items) (text_address + 4 * n))
    (Some (text_address + 4 * n, text_word o.text_bytes.items (4 * n))) None

-- the code words of an object with their addresses, in order of address
unfoldable pub object_code : Object → List (ℕ × ℕ)
object_code o = filter_map (object_word o) (range_with_len 0 (length o.text_bytes.items / 4))

-- the object can start: its entry is a multiple of 4 at a byte of its text
pub record IsStartable (o : Object) : Type 0 where
  pub aligned : o.entry % 4 ≡ 0
  pub from : text_address ≤ o.entry
  pub before : o.entry < text_address + length o.text_bytes.items
