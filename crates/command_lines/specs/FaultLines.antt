-- The line of the fault for which a file is refused: sizes, places, types, indices and sums in decimal,
-- addresses and words in hexadecimal.
use Rattle.std.specs.Prelude.{ℕ, ◌∷◌, [], List, decimal, codes}
use Rattle.std.specs.List.{concat}
use Rattle.elf_headers.specs.declared.fault.LoadFault.{LoadFault}
use Rattle.elf_headers.specs.declared.fault.LoadFault.TheVariants.{TooLong, Truncated, NotElf, NotThisMachine}
use Rattle.elf_headers.specs.declared.fault.LoadFault.TheVariants.{NotStatic, BadTable, InShared, Overlap}
use Rattle.elf_headers.specs.declared.fault.LoadFault.TheVariants.{TooManyPages, EntryOutside, Unlisted}
use Rattle.elf_headers.specs.declared.fault.LoadFault.TheVariants.{Memory}
use Rattle.text_lines.specs.Lines.{hex64, hex32}

-- why a file is refused, with the values of the fault in their order
unfoldable pub fault_words : LoadFault → List ℕ
fault_words TooLong = codes "toolong"
fault_words (Truncated size) = concat (codes "truncated " ∷ decimal size ∷ [])
fault_words NotElf = codes "notelf"
fault_words (NotThisMachine machine) = concat (codes "notthismachine " ∷ decimal machine ∷ [])
fault_words (NotStatic kind) = concat (codes "notstatic " ∷ decimal kind ∷ [])
fault_words (BadTable place) = concat (codes "badtable " ∷ decimal place ∷ [])
fault_words (InShared index) = concat (codes "inshared " ∷ decimal index ∷ [])
fault_words (Overlap first second) =
    concat (codes "overlap " ∷ decimal first ∷ codes " " ∷ decimal second ∷ [])
fault_words (TooManyPages pages) = concat (codes "toomanypages " ∷ decimal pages ∷ [])
fault_words (EntryOutside address) = concat (codes "entryoutside 0x" ∷ hex64 address ∷ [])
fault_words (Unlisted address word) =
    concat (codes "unlisted 0x" ∷ hex64 address ∷ codes " 0x" ∷ hex32 word ∷ [])
fault_words Memory = codes "memory"

-- the line of a fault
unfoldable pub fault_line : LoadFault → List ℕ
fault_line fault = concat (codes "bad file: " ∷ fault_words fault ∷ codes "\n" ∷ [])
