-- The sections of a file that was written pass all checks.
use Rattle.sm_types.specs.Objects.{text_address}
use Rattle.sm_types.specs.declared.object.Content.{Content}
use Rattle.sm_types.specs.declared.object.Content.TheVariants as content
use Rattle.std.proofs.Common.{◌≡◌, ℕ, zero, suc, ◌+◌, ◌-◌, ◌*◌, ◌/◌, ◌<◌, ◌≤◌, ◌⊎◌, inl, inr, Bool, true, false, List, [], ◌∷◌, length}
use Rattle.std.proofs.Common.{get_or, Option, Some, None, refl, ap, ◌∙◌, arith}
use Rattle.std.specs.Prelude.{◌==◌, ◌&&◌, ◌||◌, not, nat_lt, nat_le, is_some, slice_get}
use Rattle.std.proofs.lemmas.Bool.Decides.{nat_tests}
use Rattle.std.specs.Option.{option_or as or_else}
use Rattle.paged_memory.specs.Image.{or_zero, parts_byte}
use Rattle.elf_headers.specs.declared.fault.LoadFault.{LoadFault}
use Rattle.elf_headers.specs.declared.fault.LoadFault.TheVariants.{BadTable}
use Rattle.elf_headers.specs.Below.{first_below}
use Rattle.sm_types.specs.Checks.{first_fault, fault_when, fault_only}
use Rattle.elf_headers.specs.Header.{number_at}
use Rattle.elf_headers.proofs.Below.{any_below-found, all_below-all}
use Rattle.elf_sections.specs.declared.section.SectionHeader.{SectionHeader}
use Rattle.elf_sections.specs.Sections.{section_of, section_header_offset, section_count, section_table_fault, is_symbol_table}
use Rattle.elf_sections.specs.Sections.{is_code_section}
use Rattle.elf_sections.specs.Sections.{is_good_table, is_all_loaded, is_loaded, is_in_file, ends_inside, has_names, strings_of}
use Rattle.elf_sections.specs.Sections.{section_fault, has_sections, sections_fault}
use Rattle.elf_writer.specs.declared.layout.Layout.{Layout}
use Rattle.elf_writer.specs.declared.mapping_symbols.TextMapping.{TextMapping}
use Rattle.elf_writer.specs.File.{name_index}
use Rattle.elf_writer.specs.Layout.{no_section, text_section, data_section, symbols_section, strings_section, symbols_offset}
use Rattle.elf_writer.proofs.Reading.{IsFile, Reads, reads, file-length, data_offset-after, symbols_offset-after}
use Rattle.elf_writer.proofs.Headers.{section_headers_offset-is, section_header_size-is, section_count-is, section_of-0, section_of-text}
use Rattle.elf_writer.proofs.Headers.{section_of-data}
use Rattle.elf_writer.proofs.Headers.{section_of-symbols, section_of-strings, section_of-names}
use Rattle.elf_writer.proofs.Images.{images, extents_of-is}
use Rattle.elf_writer.proofs.Symbols.{IsSymbol, HasNames, symbol_is, null_is}
use Rattle.elf_writer.proofs.Symbols as symbols

-- ---- the section table

table_passes : (file : List ℕ) (l : Layout) → Reads file l → 4096 ≤ length file → section_table_fault file ≡ None
unfolding section_table_fault
table_passes file l r s =
    let inside : nat_lt (length file) 560 ≡ false = grind (arith, nat_tests) in
    simp (section_header_size-is file l r, section_count-is file l r, section_headers_offset-is file l r, inside)

-- ---- a byte of the text

pub byte_of_text : (text bytes : List ℕ) (a : ℕ) → text_address ≤ a → a < text_address + length text
    → parts_byte (images text bytes) a ≡ Some (or_zero (slice_get text (a - text_address)))
unfolding parts_byte
byte_of_text text bytes a from before =
    let u : nat_le text_address a ≡ true = grind (arith, nat_tests) in
    let v : nat_lt a (text_address + length text) ≡ true = grind (arith, nat_tests) in
    rw (u, v) refl

text_loaded : (file : List ℕ) (l : Layout) (text bytes : List ℕ) (mappings : List TextMapping) → IsFile file l text bytes mappings
    → is_all_loaded file (text_section l) ≡ true
unfolding is_all_loaded text_section
text_loaded file l text bytes mappings is =
    let some : 0 < l.text_size = omega (arith, is.from, is.before) in
    all_below-all (λ k. is_loaded file (text_address + k)) l.text_size (λ k h.
    ap (λ es. is_some (parts_byte es (text_address + k))) (extents_of-is file l text bytes mappings is some)
    ∙ ap is_some (byte_of_text text bytes (text_address + k) (omega arith) (omega (arith, is.text_size))))

-- ---- the symbol table

small_name : (c : Content) → name_index c ≤ 6
small_name content.Code = omega arith
small_name content.Data = omega arith

name_low : (file : List ℕ) (l : Layout) (text bytes : List ℕ) (mappings : List TextMapping) → IsFile file l text bytes mappings
    → (k : ℕ) (d : TextMapping) → k < suc (length mappings) → number_at file (symbols_offset l + 24 * k) 4 ≤ 6
name_low file l text bytes mappings is zero d h = omega (arith, null_is file l text bytes mappings is)
name_low file l text bytes mappings is (suc k) d h =
    let s : IsSymbol file (symbols_offset l + 24 * suc k) (get_or mappings k d) =
    symbol_is file l text bytes mappings is k d (omega arith) in
    omega (arith, s.name, small_name (get_or mappings k d).content)

name_ends : (file : List ℕ) (name : ℕ) → HasNames file → name ≤ 6 → ends_inside file (strings_section 560 7) name ≡ true
unfolding ends_inside strings_section
name_ends file name h low =
    let t : nat_le name 6 ≡ true = grind (arith, nat_tests) in
    any_below-found (λ p. nat_le name p && (number_at file (560 + p) 1 == 0)) 6 7 (rw (t, h.b6) refl) (omega arith)

no_mapping : TextMapping
no_mapping = record { address = 0; content = content.Code }

names_end : (file : List ℕ) (l : Layout) (text bytes : List ℕ) (mappings : List TextMapping) → IsFile file l text bytes mappings
    → strings_of file (symbols_section l) ≡ strings_section 560 7 → has_names file (symbols_section l) ≡ true
unfolding has_names symbols_section
names_end file l text bytes mappings is e =
    all_below-all (λ k. ends_inside file (section_of file 4) (number_at file (symbols_offset l + 24 * k) 4)) (24 * l.symbol_count / 24)
    (λ k h.
    ap (λ s. ends_inside file s (number_at file (symbols_offset l + 24 * k) 4)) e
    ∙ name_ends file (number_at file (symbols_offset l + 24 * k) 4) (symbols.has_names file l text bytes mappings is)
    (name_low file l text bytes mappings is k no_mapping (omega (arith, is.count))))

in_file : (file : List ℕ) (s : SectionHeader) → s.offset + s.size ≤ length file → is_in_file file s ≡ true
in_file file s h = or_last (s.size == 0) (nat_le (s.offset + s.size) (length file)) (grind (arith, nat_tests))
  where
    or_last : (a b : Bool) → b ≡ true → (a || b) ≡ true
    or_last true b h = refl
    or_last false b h = h

good_by : (file : List ℕ) (s t : SectionHeader) → s.entry_size ≡ 24 → nat_lt s.link (section_count file) ≡ true → is_in_file file s ≡ true
    → strings_of file s ≡ t → is_in_file file t ≡ true → has_names file s ≡ true → is_good_table file s ≡ true
unfolding is_good_table
good_by file s t e l a st b n =
    let b' : is_in_file file (strings_of file s) ≡ true = ap (λ (x : SectionHeader). is_in_file file x) st ∙ b in
    rw (n, l, a, b', e) refl

symbols_good : (file : List ℕ) (l : Layout) (text bytes : List ℕ) (mappings : List TextMapping) → IsFile file l text bytes mappings
    → 4096 ≤ length file → is_good_table file (symbols_section l) ≡ true
unfolding symbols_section strings_section
symbols_good file l text bytes mappings is size =
    let r : Reads file l = reads file l text bytes mappings is in
    let strings : strings_of file (symbols_section l) ≡ strings_section 560 7 = section_of-strings file l r in
    good_by file (symbols_section l) (strings_section 560 7) refl (ap (nat_lt 4) (section_count-is file l r))
    (in_file file (symbols_section l) (omega (arith, file-length file l text bytes mappings is))) strings
    (in_file file (strings_section 560 7) (omega arith)) (names_end file l text bytes mappings is strings)

-- ---- each section

check_none : (t g c k : Bool) (fault : LoadFault) → (t ≡ false) ⊎ (g ≡ true) → (c ≡ false) ⊎ (k ≡ true)
    → or_else (fault_only t (fault_when (not g) fault)) (or_else (fault_only c (fault_when (not k) fault)) None) ≡ None
check_none t g c k fault (inl a) (inl b) = rw (a, b) refl
check_none t g c k fault (inl a) (inr b) = rw (a, b) (whatever c)
  where
    whatever : (c : Bool) → or_else {T = LoadFault} (fault_only c None) None ≡ None
    whatever true = refl
    whatever false = refl
check_none t g c k fault (inr a) (inl b) = rw (a, b) (whatever t)
  where
    whatever : (c : Bool) → or_else {T = LoadFault} (fault_only c None) None ≡ None
    whatever true = refl
    whatever false = refl
check_none t g c k fault (inr a) (inr b) = rw (a, b) (whatever t c)
  where
    whatever : (t c : Bool) → or_else {T = LoadFault} (fault_only t None) (or_else (fault_only c None) None) ≡ None
    whatever true true = refl
    whatever true false = refl
    whatever false true = refl
    whatever false false = refl

section_passes : (file : List ℕ) (i : ℕ) (s : SectionHeader) → section_of file i ≡ s
    → (is_symbol_table s ≡ false) ⊎ (is_good_table file s ≡ true) → (is_code_section s ≡ false) ⊎ (is_all_loaded file s ≡ true)
    → section_fault file i ≡ None
unfolding section_fault
section_passes file i s e a b =
    ap (λ (x : SectionHeader). or_else (fault_only (is_symbol_table x)
    (fault_when (not (is_good_table file x)) (BadTable (section_header_offset file i))))
    (or_else (fault_only (is_code_section x) (fault_when (not (is_all_loaded file x)) (BadTable (section_header_offset file i)))) None)) e
    ∙ check_none (is_symbol_table s) (is_good_table file s) (is_code_section s) (is_all_loaded file s)
    (BadTable (section_header_offset file i)) a b

six_pass : (check : ℕ → Option LoadFault) → check 0 ≡ None → check 1 ≡ None → check 2 ≡ None → check 3 ≡ None → check 4 ≡ None
    → check 5 ≡ None → first_below check 6 ≡ None
unfolding first_below
six_pass check a b c d e f = rw (a, b, c, d, e, f) refl

each_passes : (file : List ℕ) (l : Layout) (text bytes : List ℕ) (mappings : List TextMapping) → IsFile file l text bytes mappings
    → 4096 ≤ length file → first_below (section_fault file) (section_count file) ≡ None
unfolding text_section data_section symbols_section strings_section
each_passes file l text bytes mappings is size =
    let r : Reads file l = reads file l text bytes mappings is in
    ap (first_below (section_fault file)) (section_count-is file l r)
    ∙ six_pass (section_fault file)
    (section_passes file 0 no_section (section_of-0 file l r) (inl refl) (inl refl))
    (section_passes file 1 (text_section l) (section_of-text file l is.small r) (inl refl)
    (inr (text_loaded file l text bytes mappings is)))
    (section_passes file 2 (data_section l) (section_of-data file l is.small r) (inl refl) (inl refl))
    (section_passes file 3 (symbols_section l) (section_of-symbols file l is.small r)
    (inr (symbols_good file l text bytes mappings is size))
    (inl refl))
    (section_passes file 4 (strings_section 560 7) (section_of-strings file l r) (inl refl) (inl refl))
    (section_passes file 5 (strings_section 568 39) (section_of-names file l r) (inl refl) (inl refl))

only_none : (b : Bool) (check : Option LoadFault) → check ≡ None → fault_only b check ≡ None
only_none true check h = h
only_none false check h = refl

pub sections_pass : (file : List ℕ) (l : Layout) (text bytes : List ℕ) (mappings : List TextMapping) → IsFile file l text bytes mappings
    → sections_fault file ≡ None
unfolding sections_fault
sections_pass file l text bytes mappings is =
    let r : Reads file l = reads file l text bytes mappings is in
    let size : 4096 ≤ length file = omega (arith, file-length file l text bytes mappings is, data_offset-after l, symbols_offset-after l) in
    only_none (has_sections file) (first_fault (section_table_fault file ∷ first_below (section_fault file) (section_count file) ∷ []))
    (rw (table_passes file l r size, each_passes file l text bytes mappings is size) refl)
