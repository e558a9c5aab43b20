-- The symbols of a file that was written are the mapping symbols.
use Rattle.std.proofs.Common.{◌≡◌, ℕ, zero, suc, ◌+◌, ◌*◌, ◌/◌, ◌%◌, ◌^◌, ◌<◌, Bool, true, false, List, [], ◌∷◌, ◌++◌, length, get_or, drop}
use Rattle.std.proofs.Common.{map, replicate, Option, Some, None, refl, ap, ◌∙◌, arith, append_assoc}
use Rattle.plain_lemmas.proofs.Lists.{drop_past}
use Rattle.byteorder.specs.Endian.{little_number}
use Rattle.elf_headers.specs.Below.{answers, answers_below}
use Rattle.elf_headers.specs.Header.{number_at}
use Rattle.elf_headers.proofs.Below.{answers_below-zero}
use Rattle.elf_sections.specs.declared.section.SectionHeader.{SectionHeader}
use Rattle.elf_sections.specs.declared.mapping_symbols.MappingSymbol.{MappingSymbol}
use Rattle.elf_sections.specs.Sections.{section_of, is_symbol_table}
use Rattle.sm_types.specs.declared.object.Content.{Content}
use Rattle.sm_types.specs.declared.object.Content.TheVariants as content
use Rattle.sm_types.specs.Objects.{name_says}
use Rattle.elf_sections.specs.MappingSymbols.{name_in, mapping_symbol_at, table_mapping_symbols, mapping_symbols_below, mapping_symbols_of}
use Rattle.elf_sections.specs.FirstBytes.{is_mapping_name}
use Rattle.elf_sections.proofs.MappingNames.{name_says_at}
use Rattle.elf_writer.specs.declared.layout.Layout.{Layout}
use Rattle.elf_writer.specs.declared.mapping_symbols.TextMapping.{TextMapping}
use Rattle.elf_writer.specs.declared.file.TheConstants.{STRINGS}
use Rattle.elf_writer.specs.Layout.{fields_bytes, text_section, data_section, symbols_section, strings_section, symbols_offset}
use Rattle.elf_writer.specs.File.{name_index, symbol_fields, mapping_bytes, symbols_bytes}
use Rattle.elf_writer.proofs.Fields.{offset, read_field}
use Rattle.elf_writer.proofs.Reading.{IsFile, Reads, reads, names, past-data, drop-more}
use Rattle.elf_writer.proofs.Headers.{section_count-is, section_of-0, section_of-text, section_of-data, section_of-symbols}
use Rattle.elf_writer.proofs.Headers.{section_of-strings, section_of-names}

-- ---- where a symbol stands

number_at-drop : (file : List ℕ) (p q n : ℕ) → number_at file (p + q) n ≡ number_at (drop p file) q n
unfolding number_at
number_at-drop file p q n = ap (little_number n) (drop-more q file p)

length-mapping : (m : TextMapping) → length (fields_bytes (symbol_fields m)) ≡ 24
unfolding symbol_fields
length-mapping m = refl

-- the symbols from number k on
symbols_from : (mappings : List TextMapping) (k : ℕ) (d : TextMapping) → k < length mappings
    → drop (24 * k) (mapping_bytes mappings) ≡ fields_bytes (symbol_fields (get_or mappings k d)) ++ mapping_bytes (drop (suc k) mappings)
symbols_from [] k d h = absurd (omega arith)
symbols_from (m ∷ mappings) zero d h = refl
symbols_from (m ∷ mappings) (suc k) d h =
    let e : 24 * suc k ≡ length (fields_bytes (symbol_fields m)) + 24 * k = omega (arith, length-mapping m) in
    ap (λ n. drop n (fields_bytes (symbol_fields m) ++ mapping_bytes mappings)) e
    ∙ drop_past (fields_bytes (symbol_fields m)) (mapping_bytes mappings) (24 * k) ∙ symbols_from mappings k d (omega arith)

symbol_from : (mappings : List TextMapping) (k : ℕ) (d : TextMapping) → k < length mappings
    → drop (24 * suc k) (symbols_bytes mappings) ≡ fields_bytes (symbol_fields (get_or mappings k d))
    ++ mapping_bytes (drop (suc k) mappings)
unfolding symbols_bytes
symbol_from mappings k d h =
    let e : 24 * suc k ≡ length {A = ℕ} (replicate 24 0) + 24 * k = omega arith in
    ap (λ n. drop n (replicate 24 0 ++ mapping_bytes mappings)) e ∙ drop_past (replicate 24 0) (mapping_bytes mappings) (24 * k)
    ∙ symbols_from mappings k d h

symbol_read : (file : List ℕ) (l : Layout) (text bytes : List ℕ) (mappings : List TextMapping) → IsFile file l text bytes mappings
    → (k : ℕ) (d : TextMapping) (q n : ℕ) → k < length mappings
    → number_at file (symbols_offset l + 24 * suc k + q) n
    ≡ number_at (fields_bytes (symbol_fields (get_or mappings k d)) ++ mapping_bytes (drop (suc k) mappings)) q n
symbol_read file l text bytes mappings is k d q n h =
    number_at-drop file (symbols_offset l + 24 * suc k) q n
    ∙ ap (λ f. number_at f q n) (drop-more (24 * suc k) file (symbols_offset l)
    ∙ ap (drop (24 * suc k)) (past-data file l text bytes mappings is) ∙ symbol_from mappings k d h)

name_by : (c : Content) → name_index c % 256 ^ 4 ≡ name_index c
name_by content.Code = refl
name_by content.Data = refl

low8 : (x : ℕ) → x < 2 ^ 64 → x % 256 ^ 8 ≡ x
low8 x h = omega arith

name_of : (m : TextMapping) (rest : List ℕ) → number_at (fields_bytes (symbol_fields m) ++ rest) 0 4 ≡ name_index m.content
unfolding symbol_fields
name_of m rest = read_field (symbol_fields m) 0 rest ∙ name_by m.content

section_number_of : (m : TextMapping) (rest : List ℕ) → number_at (fields_bytes (symbol_fields m) ++ rest) 6 2 ≡ 1
unfolding symbol_fields
section_number_of m rest = read_field (symbol_fields m) 3 rest

address_of : (m : TextMapping) (rest : List ℕ) → m.address < 2 ^ 64 → number_at (fields_bytes (symbol_fields m) ++ rest) 8 8 ≡ m.address
unfolding symbol_fields
address_of m rest h = read_field (symbol_fields m) 4 rest ∙ low8 m.address h

-- the numbers of symbol number k + 1, which is of mapping symbol number k
pub record IsSymbol (file : List ℕ) (at : ℕ) (m : TextMapping) : Type 0 where
  pub name : number_at file at 4 ≡ name_index m.content
  pub number : number_at file (at + 6) 2 ≡ 1
  pub address : number_at file (at + 8) 8 ≡ m.address

pub symbol_is : (file : List ℕ) (l : Layout) (text bytes : List ℕ) (mappings : List TextMapping) → IsFile file l text bytes mappings
    → (k : ℕ) (d : TextMapping) → k < length mappings → IsSymbol file (symbols_offset l + 24 * suc k) (get_or mappings k d)
symbol_is file l text bytes mappings is k d h =
    let e : symbols_offset l + 24 * suc k ≡ symbols_offset l + 24 * suc k + 0 = omega arith in
    record {
      name =
          ap (λ p. number_at file p 4) e ∙ symbol_read file l text bytes mappings is k d 0 4 h
          ∙ name_of (get_or mappings k d) (mapping_bytes (drop (suc k) mappings));
      number = symbol_read file l text bytes mappings is k d 6 2 h
          ∙ section_number_of (get_or mappings k d) (mapping_bytes (drop (suc k) mappings));
      address =
          symbol_read file l text bytes mappings is k d 8 8 h
          ∙ address_of (get_or mappings k d) (mapping_bytes (drop (suc k) mappings)) (is.addresses k d h);
    }

null_name : (mappings : List TextMapping) → number_at (symbols_bytes mappings) 0 4 ≡ 0
unfolding symbols_bytes number_at
null_name mappings = refl

pub null_is : (file : List ℕ) (l : Layout) (text bytes : List ℕ) (mappings : List TextMapping) → IsFile file l text bytes mappings
    → number_at file (symbols_offset l + 24 * 0) 4 ≡ 0
null_is file l text bytes mappings is =
    number_at-drop file (symbols_offset l) 0 4 ∙ ap (λ f. number_at f 0 4) (past-data file l text bytes mappings is) ∙ null_name mappings

-- ---- the names

pub record HasNames (file : List ℕ) : Type 0 where
  pub b0 : number_at file 560 1 ≡ 0
  pub b1 : number_at file 561 1 ≡ 36
  pub b2 : number_at file 562 1 ≡ 120
  pub b3 : number_at file 563 1 ≡ 0
  pub b4 : number_at file 564 1 ≡ 36
  pub b5 : number_at file 565 1 ≡ 100
  pub b6 : number_at file 566 1 ≡ 0

names_read : (file rest : List ℕ) → ((k : ℕ) → number_at file (560 + k) 1 ≡ number_at (STRINGS.now ++ rest) k 1) → HasNames file
unfolding number_at
names_read file rest h = record { b0 = h 0; b1 = h 1; b2 = h 2; b3 = h 3; b4 = h 4; b5 = h 5; b6 = h 6 }

pub has_names : (file : List ℕ) (l : Layout) (text bytes : List ℕ) (mappings : List TextMapping) → IsFile file l text bytes mappings
    → HasNames file
has_names file l text bytes mappings is = names_read file (names file l text bytes mappings is).0 (names file l text bytes mappings is).1

no_name : (file : List ℕ) → HasNames file → name_says (name_in file 560) ≡ None
unfolding is_mapping_name
no_name file h = name_says_at file 560 ∙ rw h.b0 refl

code_name : (file : List ℕ) → HasNames file → name_says (name_in file 561) ≡ Some content.Code
unfolding is_mapping_name
code_name file h = name_says_at file 561 ∙ rw (h.b1, h.b2, h.b3) refl

data_name : (file : List ℕ) → HasNames file → name_says (name_in file 564) ≡ Some content.Data
unfolding is_mapping_name
data_name file h = name_says_at file 564 ∙ rw (h.b4, h.b5, h.b6) refl

-- ---- the mapping symbols that a reader finds

abbrev pub as_mapping_symbol : TextMapping → MappingSymbol
as_mapping_symbol m = record { section = 1; value = m.address; content = m.content }

mapping_none : (file : List ℕ) (offset at : ℕ) → HasNames file → number_at file at 4 ≡ 0
    → mapping_symbol_at file (strings_section 560 7) at ≡ None
unfolding mapping_symbol_at strings_section
mapping_none file offset at h n =
    let e : 560 + number_at file at 4 ≡ 560 = omega arith in
    rw (e, no_name file h) refl

mapping_some : (file : List ℕ) (at : ℕ) (address : ℕ) (says : Content) → HasNames file
    → IsSymbol file at (record { address = address; content = says })
    → mapping_symbol_at file (strings_section 560 7) at ≡ Some (as_mapping_symbol (record { address = address; content = says }))
unfolding mapping_symbol_at strings_section
mapping_some file at address content.Code h s =
    let e : 560 + number_at file at 4 ≡ 561 = omega (arith, s.name) in
    rw (e, code_name file h, s.number, s.address) refl
mapping_some file at address content.Data h s =
    let e : 560 + number_at file at 4 ≡ 564 = omega (arith, s.name) in
    rw (e, data_name file h, s.number, s.address) refl

front : {A : Type 0} (f : ℕ → Option A) (n : ℕ) → answers_below f (suc n) ≡ answers (f 0) ++ answers_below (λ k. f (suc k)) n
unfolding answers_below
front f zero = nil_end (answers (f 0))
  where
    nil_end : {A : Type 0} (xs : List A) → xs ≡ xs ++ []
    nil_end [] = refl
    nil_end (x ∷ xs) = ap (λ ys. x ∷ ys) (nil_end xs)
front f (suc n) =
    ap (λ xs. xs ++ answers (f (suc n))) (front f n) ∙ append_assoc (answers (f 0)) (answers_below (λ k. f (suc k)) n) (answers (f (suc n)))

listed : {A B : Type 0} (f : ℕ → Option B) (g : A → B) (xs : List A) → ((k : ℕ) (d : A) → k < length xs → f k ≡ Some (g (get_or xs k d)))
    → answers_below f (length xs) ≡ map g xs
listed f g [] h = answers_below-zero f
listed f g (x ∷ xs) h =
    front f (length xs) ∙ (λ i. answers (h 0 x (omega arith) i) ++ listed (λ k. f (suc k)) g xs (λ k d l. h (suc k) d (omega arith)) i)

table_mapping_symbols-is : (file : List ℕ) (l : Layout) (text bytes : List ℕ) (mappings : List TextMapping)
    → IsFile file l text bytes mappings
    → table_mapping_symbols file (symbols_section l) ≡ map as_mapping_symbol mappings
unfolding table_mapping_symbols symbols_section
table_mapping_symbols-is file l text bytes mappings is =
    let r : Reads file l = reads file l text bytes mappings is in
    let h : HasNames file = has_names file l text bytes mappings is in
    let count : 24 * l.symbol_count / 24 ≡ suc (length mappings) = omega (arith, is.count) in
    let strings : section_of file 4 ≡ strings_section 560 7 = section_of-strings file l r in
    ap (λ (s : SectionHeader). answers_below (λ k. mapping_symbol_at file s (symbols_offset l + 24 * k)) (24 * l.symbol_count / 24)) strings
    ∙ ap (answers_below (λ k. mapping_symbol_at file (strings_section 560 7) (symbols_offset l + 24 * k))) count
    ∙ front (λ k. mapping_symbol_at file (strings_section 560 7) (symbols_offset l + 24 * k)) (length mappings)
    ∙ ap (λ o. answers o ++ answers_below (λ k. mapping_symbol_at file (strings_section 560 7) (symbols_offset l + 24 * suc k))
    (length mappings))
    (mapping_none file 0 (symbols_offset l + 24 * 0) h (null_is file l text bytes mappings is))
    ∙ listed (λ k. mapping_symbol_at file (strings_section 560 7) (symbols_offset l + 24 * suc k)) as_mapping_symbol mappings
    (λ k d b. mapping_some file (symbols_offset l + 24 * suc k) (get_or mappings k d).address (get_or mappings k d).content h
    (symbol_is file l text bytes mappings is k d b))

mappings_six : (file : List ℕ) (s : SectionHeader) → is_symbol_table (section_of file 0) ≡ false
    → is_symbol_table (section_of file 1) ≡ false
    → is_symbol_table (section_of file 2) ≡ false → section_of file 3 ≡ s → is_symbol_table s ≡ true
    → is_symbol_table (section_of file 4) ≡ false → is_symbol_table (section_of file 5) ≡ false
    → mapping_symbols_below file 6 ≡ table_mapping_symbols file s
unfolding mapping_symbols_below
mappings_six file s a b c d t e f = rw (a, b, c, d, t, e, f) (no_more (table_mapping_symbols file s))
  where
    no_more : (xs : List MappingSymbol) → (xs ++ []) ++ [] ≡ xs
    no_more [] = refl
    no_more (x ∷ xs) = ap (λ ys. x ∷ ys) (no_more xs)

pub mapping_symbols_of-is : (file : List ℕ) (l : Layout) (text bytes : List ℕ) (mappings : List TextMapping)
    → IsFile file l text bytes mappings
    → mapping_symbols_of file ≡ map as_mapping_symbol mappings
unfolding text_section data_section symbols_section strings_section
mapping_symbols_of-is file l text bytes mappings is =
    let r : Reads file l = reads file l text bytes mappings is in
    let kind : SectionHeader → Bool = λ s. is_symbol_table s in
    ap (mapping_symbols_below file) (section_count-is file l r)
    ∙ mappings_six file (symbols_section l) (ap kind (section_of-0 file l r)) (ap kind (section_of-text file l is.small r))
    (ap kind (section_of-data file l is.small r)) (section_of-symbols file l is.small r) refl
    (ap kind (section_of-strings file l r)) (ap kind (section_of-names file l r))
    ∙ table_mapping_symbols-is file l text bytes mappings is
