-- The headers of a file that was written, as a reader finds them.
use Rattle.std.proofs.Common.{◌≡◌, ℕ, ◌+◌, ◌*◌, ◌%◌, ◌^◌, ◌<◌, Bool, true, false, List, refl, ap, ◌∙◌, arith}
use Rattle.std.specs.Prelude.{◌==◌, cond}
use Rattle.sm_types.specs.Objects.{data_address}
use Rattle.elf_headers.specs.declared.program_header.ProgramHeader.{ProgramHeader}
use Rattle.elf_headers.specs.Header.{number_at, header_type, header_machine, header_entry, program_headers_offset, program_header_size}
use Rattle.elf_headers.specs.Header.{program_header_count}
use Rattle.elf_headers.specs.Segments.{program_header, segment_of}
use Rattle.elf_sections.specs.declared.section.SectionHeader.{SectionHeader}
use Rattle.elf_sections.specs.Sections.{section_header, section_of, section_headers_offset, section_header_size, section_count}
use Rattle.elf_writer.specs.declared.layout.Layout.{Layout}
use Rattle.elf_writer.specs.Layout.{all_fields, header_fields, segments_fields, segment_fields, part_sections_fields, table_sections_fields}
use Rattle.elf_writer.specs.Layout.{section_fields, no_section, text_segment, data_segment, full_data_segment, text_section, data_section}
use Rattle.elf_writer.specs.Layout.{symbols_section, strings_section, strings_offset, names_offset, data_offset, symbols_offset, load_count}
use Rattle.elf_writer.specs.Layout.{IsSmall}
use Rattle.elf_writer.proofs.Reading.{Reads, data_offset-near, symbols_offset-near}

low8 : (x : ℕ) → x < 2 ^ 64 → x % 256 ^ 8 ≡ x
low8 x h = omega arith

-- ---- the file's header

pub magic-is : (file : List ℕ) (l : Layout) → Reads file l → number_at file 0 4 ≡ 0x464C457F
unfolding all_fields header_fields
magic-is file l r = r 0

pub class-is : (file : List ℕ) (l : Layout) → Reads file l → number_at file 4 2 ≡ 0x0102
unfolding all_fields header_fields
class-is file l r = r 1

pub version-is : (file : List ℕ) (l : Layout) → Reads file l → number_at file 6 1 ≡ 1
unfolding all_fields header_fields
version-is file l r = r 2

pub type-is : (file : List ℕ) (l : Layout) → Reads file l → header_type file ≡ 2
unfolding all_fields header_fields
type-is file l r = r 5

pub machine-is : (file : List ℕ) (l : Layout) → Reads file l → header_machine file ≡ 183
unfolding all_fields header_fields
machine-is file l r = r 6

pub entry-is : (file : List ℕ) (l : Layout) → IsSmall l → Reads file l → header_entry file ≡ l.entry
unfolding all_fields header_fields
entry-is file l s r = r 8 ∙ low8 l.entry s.entry

pub program_headers_offset-is : (file : List ℕ) (l : Layout) → Reads file l → program_headers_offset file ≡ 64
unfolding all_fields header_fields
program_headers_offset-is file l r = r 9

pub section_headers_offset-is : (file : List ℕ) (l : Layout) → Reads file l → section_headers_offset file ≡ 176
unfolding all_fields header_fields
section_headers_offset-is file l r = r 10

pub program_header_size-is : (file : List ℕ) (l : Layout) → Reads file l → program_header_size file ≡ 56
unfolding all_fields header_fields
program_header_size-is file l r = r 13

one_or_two : (b : Bool) → cond b 1 2 % 256 ^ 2 ≡ cond b 1 2
one_or_two true = refl
one_or_two false = refl

pub program_header_count-is : (file : List ℕ) (l : Layout) → Reads file l → program_header_count file ≡ load_count l
unfolding all_fields header_fields
program_header_count-is file l r = r 14 ∙ one_or_two (l.data_size == 0)

pub section_header_size-is : (file : List ℕ) (l : Layout) → Reads file l → section_header_size file ≡ 64
unfolding all_fields header_fields
section_header_size-is file l r = r 15

pub section_count-is : (file : List ℕ) (l : Layout) → Reads file l → section_count file ≡ 6
unfolding all_fields header_fields
section_count-is file l r = r 16

-- ---- the program headers

segment_from : (file : List ℕ) (at : ℕ) (s : ProgramHeader) → number_at file at 4 ≡ s.kind → number_at file (at + 4) 4 ≡ s.flags
    → number_at file (at + 8) 8 ≡ s.offset → number_at file (at + 16) 8 ≡ s.address
    → number_at file (at + 32) 8 ≡ s.file_size → number_at file (at + 40) 8 ≡ s.memory_size → program_header file at ≡ s
unfolding program_header
segment_from file at s kind flags offset address file_size memory_size =
    λ i. record {
      kind = kind i;
      flags = flags i;
      offset = offset i;
      address = address i;
      file_size = file_size i;
      memory_size = memory_size i;
    }

text_header : (file : List ℕ) (l : Layout) → IsSmall l → Reads file l → program_header file 64 ≡ text_segment l
unfolding all_fields header_fields segments_fields segment_fields text_segment
text_header file l s r =
    segment_from file 64 (text_segment l) (r 18) (r 19) (r 20) (r 21) (r 23 ∙ low8 l.text_size (omega (arith, s.text)))
    (r 24 ∙ low8 l.text_size (omega (arith, s.text)))

data_header : (file : List ℕ) (l : Layout) → IsSmall l → Reads file l → (l.data_size == 0) ≡ false
    → program_header file 120 ≡ full_data_segment l
unfolding all_fields header_fields segments_fields segment_fields data_segment
data_header file l s r e =
    let d : data_segment l ≡ full_data_segment l = rw e refl in
    segment_from file 120 (full_data_segment l)
    (r 26 ∙ ap (λ (h : ProgramHeader). h.kind % 256 ^ 4) d)
    (r 27 ∙ ap (λ (h : ProgramHeader). h.flags % 256 ^ 4) d)
    (r 28 ∙ ap (λ (h : ProgramHeader). h.offset % 256 ^ 8) d ∙ low8 (data_offset l) (omega (arith, s.text, data_offset-near l)))
    (r 29 ∙ ap (λ (h : ProgramHeader). h.address % 256 ^ 8) d ∙ low8 (data_address l.text_size) (omega (arith, s.text)))
    (r 31 ∙ ap (λ (h : ProgramHeader). h.file_size % 256 ^ 8) d ∙ low8 l.data_size (omega (arith, s.data_bytes)))
    (r 32 ∙ ap (λ (h : ProgramHeader). h.memory_size % 256 ^ 8) d ∙ low8 l.data_size (omega (arith, s.data_bytes)))

pub segment_of-text : (file : List ℕ) (l : Layout) → IsSmall l → Reads file l → segment_of file 0 ≡ text_segment l
segment_of-text file l s r =
    let at : program_headers_offset file + 56 * 0 ≡ 64 = omega (arith, program_headers_offset-is file l r) in
    ap (program_header file) at ∙ text_header file l s r

pub segment_of-data : (file : List ℕ) (l : Layout) → IsSmall l → Reads file l → (l.data_size == 0) ≡ false
    → segment_of file 1 ≡ full_data_segment l
segment_of-data file l s r e =
    let at : program_headers_offset file + 56 * 1 ≡ 120 =
    omega (arith, program_headers_offset-is file l r) in ap (program_header file) at ∙ data_header file l s r e

-- ---- the section headers

section_from : (file : List ℕ) (at : ℕ) (s : SectionHeader) → number_at file (at + 4) 4 ≡ s.kind → number_at file (at + 8) 8 ≡ s.flags
    → number_at file (at + 16) 8 ≡ s.address → number_at file (at + 24) 8 ≡ s.offset
    → number_at file (at + 32) 8 ≡ s.size → number_at file (at + 40) 4 ≡ s.link → number_at file (at + 56) 8 ≡ s.entry_size
    → section_header file at ≡ s
unfolding section_header
section_from file at s kind flags address offset size link entry_size =
    λ i. record {
      kind = kind i;
      flags = flags i;
      address = address i;
      offset = offset i;
      size = size i;
      link = link i;
      entry_size = entry_size i;
    }

header_0 : (file : List ℕ) (l : Layout) → Reads file l → section_header file 176 ≡ no_section
unfolding all_fields header_fields segments_fields segment_fields part_sections_fields section_fields
header_0 file l r = section_from file 176 no_section (r 35) (r 36) (r 37) (r 38) (r 39) (r 40) (r 43)

header_1 : (file : List ℕ) (l : Layout) → IsSmall l → Reads file l → section_header file 240 ≡ text_section l
unfolding all_fields header_fields segments_fields segment_fields part_sections_fields section_fields text_section
header_1 file l s r =
    section_from file 240 (text_section l) (r 45) (r 46) (r 47) (r 48) (r 49 ∙ low8 l.text_size (omega (arith, s.text))) (r 50) (r 53)

header_2 : (file : List ℕ) (l : Layout) → IsSmall l → Reads file l → section_header file 304 ≡ data_section l
unfolding all_fields header_fields segments_fields segment_fields part_sections_fields section_fields data_section
header_2 file l s r =
    section_from file 304 (data_section l) (r 55) (r 56) (r 57 ∙ low8 (data_address l.text_size) (omega (arith, s.text)))
    (r 58 ∙ low8 (data_offset l) (omega (arith, s.text, data_offset-near l)))
    (r 59 ∙ low8 l.data_size (omega (arith, s.data_bytes))) (r 60) (r 63)

header_3 : (file : List ℕ) (l : Layout) → IsSmall l → Reads file l → section_header file 368 ≡ symbols_section l
unfolding all_fields header_fields segments_fields segment_fields part_sections_fields table_sections_fields section_fields symbols_section
header_3 file l s r =
    section_from file 368 (symbols_section l) (r 65) (r 66) (r 67)
    (r 68 ∙ low8 (symbols_offset l) (omega (arith, s.text, s.data_bytes, data_offset-near l, symbols_offset-near l)))
    (r 69 ∙ low8 (24 * l.symbol_count) (omega (arith, s.symbols))) (r 70) (r 73)

header_4 : (file : List ℕ) (l : Layout) → Reads file l → section_header file 432 ≡ strings_section strings_offset 7
unfolding all_fields header_fields segments_fields segment_fields part_sections_fields table_sections_fields section_fields strings_section
header_4 file l r = section_from file 432 (strings_section strings_offset 7) (r 75) (r 76) (r 77) (r 78) (r 79) (r 80) (r 83)

header_5 : (file : List ℕ) (l : Layout) → Reads file l → section_header file 496 ≡ strings_section names_offset 39
unfolding all_fields header_fields segments_fields segment_fields part_sections_fields table_sections_fields section_fields strings_section
header_5 file l r = section_from file 496 (strings_section names_offset 39) (r 85) (r 86) (r 87) (r 88) (r 89) (r 90) (r 93)

section_header_offset-is : (file : List ℕ) (l : Layout) (i at : ℕ) → Reads file l → at ≡ 176 + 64 * i
    → section_headers_offset file + 64 * i ≡ at
section_header_offset-is file l i at r e = omega (arith, section_headers_offset-is file l r)

pub section_of-0 : (file : List ℕ) (l : Layout) → Reads file l → section_of file 0 ≡ no_section
section_of-0 file l r = ap (section_header file) (section_header_offset-is file l 0 176 r refl) ∙ header_0 file l r

pub section_of-text : (file : List ℕ) (l : Layout) → IsSmall l → Reads file l → section_of file 1 ≡ text_section l
section_of-text file l s r = ap (section_header file) (section_header_offset-is file l 1 240 r refl) ∙ header_1 file l s r

pub section_of-data : (file : List ℕ) (l : Layout) → IsSmall l → Reads file l → section_of file 2 ≡ data_section l
section_of-data file l s r = ap (section_header file) (section_header_offset-is file l 2 304 r refl) ∙ header_2 file l s r

pub section_of-symbols : (file : List ℕ) (l : Layout) → IsSmall l → Reads file l → section_of file 3 ≡ symbols_section l
section_of-symbols file l s r = ap (section_header file) (section_header_offset-is file l 3 368 r refl) ∙ header_3 file l s r

pub section_of-strings : (file : List ℕ) (l : Layout) → Reads file l → section_of file 4 ≡ strings_section strings_offset 7
section_of-strings file l r = ap (section_header file) (section_header_offset-is file l 4 432 r refl) ∙ header_4 file l r

pub section_of-names : (file : List ℕ) (l : Layout) → Reads file l → section_of file 5 ≡ strings_section names_offset 39
section_of-names file l r = ap (section_header file) (section_header_offset-is file l 5 496 r refl) ∙ header_5 file l r
