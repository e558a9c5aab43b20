-- What a debugger prints of a state.
-- Source: DDI 0487, B1.4 (ZA tiles and their slices) for what a slice is; the lines are this project's own.
use Rattle.std.specs.Prelude.{ℕ, ◌/◌, ◌%◌, ◌==◌, ◌&&◌, ◌∷◌, [], nat_lt, Bool, true, false, List}
use Rattle.std.specs.Prelude.{length, Option, Some, None, codes, decimal, if◌then◌else◌, option_and_then}
use Rattle.std.specs.List.{concat}
use Rattle.hex.specs.Hex.{encode_lower}
use Rattle.sm_types.specs.declared.insn.Insn.{Insn}
use Rattle.sm_types.specs.declared.vector.Elem.{Elem}
use Rattle.a64_encode.specs.Either.{instruction_of}
use Rattle.insn_text.specs.Texts.{text_of}
use Rattle.paged_memory.specs.Memory.{AddressSpace, bytes_with, first_without, word_at}
use Rattle.tile_ops.specs.declared.slices.SliceAt.{SliceAt}
use Rattle.tile_ops.specs.Named.{element_size}
use Rattle.tile_ops.specs.Slices.{slice_bytes}
use Rattle.kernel_contexts.specs.State.{State}
use Rattle.text_lines.specs.Lines.{hex64}
use Rattle.text_lines.specs.declared.forms.LineKind.{LineKind}
use Rattle.text_lines.specs.declared.forms.LineKind.TheVariants as kind
use Rattle.report_text.specs.State.{lines_text}
use Rattle.script_reader.specs.declared.command.Direction.{Direction}
use Rattle.script_reader.specs.declared.command.Direction.TheVariants.{Horizontal, Vertical}

-- bytes in hexadecimal on a line of their own
abbrev pub bytes_text : List ℕ → List ℕ
bytes_text bytes = concat (encode_lower bytes ∷ codes "\n" ∷ [])

-- ---- registers and ZA

-- the lines of a thread's block in a report from PC to FFR
abbrev pub register_lines : List LineKind
register_lines =
    kind.Pc ∷ kind.X ∷ kind.Sp ∷ kind.Nzcv ∷ kind.Tpidr ∷ kind.Tpidr2 ∷ kind.Svcr ∷ kind.Z ∷ kind.P ∷ kind.Ffr
    ∷ []

abbrev pub registers_text : State → List ℕ
registers_text s = lines_text s register_lines

-- those of its vectors of ZA, where ZA is on
abbrev pub za_text : State → List ℕ
za_text s = lines_text s (kind.Za ∷ [])

-- ---- slices

-- the vertical slices of a tile are its columns
abbrev pub is_vertical : Direction → Bool
is_vertical Horizontal = false
is_vertical Vertical = true

-- a slice by the size of its elements, the number of its tile, its direction, and its own number
abbrev pub slice_named : Elem → ℕ → Direction → ℕ → SliceAt
slice_named elem tile direction number =
    record { bytes = element_size elem; tile = tile; vertical = is_vertical direction; number = number }

-- ZA has the tile, and the tile the slice: as many tiles as an element has bytes, each of as many slices as a
-- vector of ZA has elements
abbrev pub is_there : SliceAt → List (List ℕ) → Bool
is_there slice za = nat_lt slice.tile slice.bytes && nat_lt slice.number (length za / slice.bytes)

-- the bytes of a slice, where ZA is on and has it
unfoldable pub slice_text : SliceAt → List (List ℕ) → Bool → List ℕ
slice_text slice za za_on =
    if za_on then if is_there slice za then bytes_text (slice_bytes slice za) else codes "outside\n"
    else codes "off\n"

-- ---- memory

-- bytes that can all be read, or the address of the first that cannot
abbrev pub read_text : Option ℕ → Option (List ℕ) → List ℕ
read_text (Some first) bytes = concat (codes "fault " ∷ hex64 first ∷ codes "\n" ∷ [])
read_text None (Some bytes) = bytes_text bytes
read_text None None = []

-- so many bytes from an address on, addresses modulo 2 ^ 64
unfoldable pub memory_text : ℕ → ℕ → AddressSpace → List ℕ
memory_text address size m = read_text (first_without 4 m address size) (bytes_with 4 m address size)

-- ---- the place

-- the word at an address that can be fetched there: the address is a multiple of 4, and the bytes are in
-- executable pages
abbrev pub fetched_word : AddressSpace → ℕ → Option ℕ
fetched_word m pc = if pc % 4 == 0 then word_at m pc else None

-- a word that has a row
abbrev pub with_row : ℕ → Option Insn → Option ℕ
with_row word None = None
with_row word (Some insn) = Some word

-- the word of the instruction at an address
unfoldable pub listed_word : AddressSpace → ℕ → Option ℕ
listed_word m pc = option_and_then (λ word. with_row word (instruction_of word)) (fetched_word m pc)

-- the text of an instruction, or none
abbrev pub insn_words : Option ℕ → List ℕ
insn_words (Some word) = text_of word
insn_words None = codes "none"

-- how many instructions are counted, PC, and the instruction there
unfoldable pub place_text : State → List ℕ
place_text s = concat (
    codes "at "
    ∷ decimal s.count
    ∷ codes " "
    ∷ hex64 s.core.scalars.pc
    ∷ codes " "
    ∷ insn_words (listed_word s.core.memory s.core.scalars.pc)
    ∷ codes "\n"
    ∷ [])
