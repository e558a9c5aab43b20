-- Which files are loaded, and as what; which are refused, and why.
-- Source: ELF-64 Object File Format; which instructions are listed is this project's own.
use Rattle.std.specs.Prelude.{◌≡◌, ℕ, List, [], ◌∷◌, Option, Some, None, map}
use Rattle.sm_types.specs.declared.insn.Insn.{Insn}
use Rattle.a64_encode.specs.Either.{instruction_of}
use Rattle.paged_memory.specs.Image.{Program, IsMemoryOf}
use Rattle.elf_headers.specs.declared.fault.LoadFault.{LoadFault}
use Rattle.elf_headers.specs.declared.fault.LoadFault.TheVariants.{Unlisted}
use Rattle.sm_types.specs.Checks.{first_fault}
use Rattle.elf_headers.specs.Header.{header_entry}
use Rattle.elf_headers.specs.Loads.{extents_of, headers_fault}
use Rattle.elf_sections.specs.Sections.{sections_fault}
use Rattle.elf_sections.specs.Code.{code_words}

-- the fault of a code word, from its address, the word and the instruction that it means
abbrev pub unless_listed : ℕ → ℕ → Option Insn → Option LoadFault
unless_listed address word None = Some (Unlisted address word)
unless_listed address word (Some insn) = None

-- the fault of a code word that means no instruction
unfoldable pub unlisted : ℕ × ℕ → Option LoadFault
unlisted entry = unless_listed entry.0 entry.1 (instruction_of entry.1)

-- the fault of the first of some code words that means no instruction
unfoldable pub words_fault : List (ℕ × ℕ) → Option LoadFault
words_fault entries = first_fault (map unlisted entries)

-- the fault of the first check that fails: those on the headers, those on the sections, and that each code
-- word is listed, from the lowest on
unfoldable pub load_fault : List ℕ → Option LoadFault
load_fault file = first_fault (headers_fault file ∷ sections_fault file ∷ words_fault (code_words file) ∷ [])

-- the file is loaded, as this program: the memory of its loads, its entry, and its code words
pub record Loads (file : List ℕ) (program : Program) : Type 0 where
  pub accepted : load_fault file ≡ None
  pub memory : IsMemoryOf (extents_of file) program.memory
  pub entry_is : program.entry ≡ header_entry file
  pub code_is : program.code ≡ code_words file

-- the file is refused, for this fault
abbrev pub Refuses : List ℕ → LoadFault → Type 0
Refuses file fault = load_fault file ≡ Some fault
