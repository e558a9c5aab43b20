-- What stands at which place of a file that was written.
use Rattle.sm_types.specs.Objects.{text_address}
use Rattle.std.proofs.Common.{◌≡◌, ℕ, zero, suc, ◌+◌, ◌-◌, ◌*◌, ◌%◌, ◌^◌, ◌<◌, ◌≤◌, List, [], ◌∷◌, ◌++◌, length, take, drop, replicate, All}
use Rattle.std.proofs.Common.{refl, ap, sym, ◌∙◌, arith, append_assoc, length-append}
use Rattle.std.proofs.lemmas.List.{take_at, drop_at}
use Rattle.byteorder.specs.Endian.{little_bytes}
use Rattle.byteorder.specs.Numbers.{length-bytes_low_first}
use Rattle.elf_headers.specs.Header.{number_at}
use Rattle.elf_writer.specs.declared.layout.Layout.{Layout}
use Rattle.elf_writer.specs.declared.mapping_symbols.TextMapping.{TextMapping}
use Rattle.elf_writer.specs.declared.file.TheConstants.{STRINGS, SECTION_NAMES}
use Rattle.elf_writer.specs.Layout.{fields_bytes, all_fields, header_fields, segments_fields, segment_fields, part_sections_fields}
use Rattle.elf_writer.specs.Layout.{table_sections_fields, section_fields, data_offset, symbols_offset, IsSmall}
use Rattle.elf_writer.specs.File.{symbol_fields, mapping_bytes, symbols_bytes, front_bytes, text_part, data_part, file_bytes}
use Rattle.elf_writer.proofs.Fields.{number_at-past, offset, width, value, read_field}

-- the file is the one of these parts, of which the text has a byte and the entry is the address of a word of it
pub record IsFile (file : List ℕ) (l : Layout) (text data_bytes : List ℕ) (mappings : List TextMapping) : Type 0 where
  pub whole : file ≡ file_bytes l text data_bytes mappings
  pub text_size : length text ≡ l.text_size
  pub data_size : length data_bytes ≡ l.data_size
  pub count : l.symbol_count ≡ suc (length mappings)
  pub small : IsSmall l
  pub aligned : l.entry % 4 ≡ 0
  pub from : text_address ≤ l.entry
  pub before : l.entry < text_address + l.text_size
  pub addresses : All (λ m. m.address < 2 ^ 64) mappings

-- ---- places

pub data_offset-after : (l : Layout) → 4096 + l.text_size ≤ data_offset l
unfolding data_offset
data_offset-after l = omega arith

pub data_offset-near : (l : Layout) → data_offset l ≤ 8191 + l.text_size
unfolding data_offset
data_offset-near l = omega arith

pub symbols_offset-after : (l : Layout) → data_offset l + l.data_size ≤ symbols_offset l
unfolding symbols_offset
symbols_offset-after l = omega arith

pub symbols_offset-near : (l : Layout) → symbols_offset l ≤ data_offset l + l.data_size + 7
unfolding symbols_offset
symbols_offset-near l = omega arith

-- ---- lengths

abbrev widths : List (ℕ × ℕ) → ℕ
widths [] = 0
widths (f ∷ fs) = f.0 + widths fs

length-fields : (fs : List (ℕ × ℕ)) → length (fields_bytes fs) ≡ widths fs
length-fields [] = refl
length-fields (f ∷ fs) =
    length-append (little_bytes f.0 f.1) (fields_bytes fs) ∙ (λ i. length-bytes_low_first 0 f.0 f.1 i + length-fields fs i)

length-headers : (l : Layout) → length (fields_bytes (all_fields l)) ≡ 560
unfolding all_fields header_fields segments_fields segment_fields part_sections_fields table_sections_fields section_fields
length-headers l = length-fields (all_fields l)

length-front : (l : Layout) → length (front_bytes l) ≡ 4096
unfolding front_bytes
length-front l =
    length-append (fields_bytes (all_fields l)) (STRINGS.now ++ (0 ∷ (SECTION_NAMES.now ++ replicate 3489 0)))
    ∙ ap (λ n. n + 3536) (length-headers l)

length-mapping : (m : TextMapping) → length (fields_bytes (symbol_fields m)) ≡ 24
unfolding symbol_fields
length-mapping m = length-fields (symbol_fields m)

pub length-mappings : (mappings : List TextMapping) → length (mapping_bytes mappings) ≡ 24 * length mappings
length-mappings [] = refl
length-mappings (m ∷ mappings) =
    length-append (fields_bytes (symbol_fields m)) (mapping_bytes mappings) ∙ (λ i. length-mapping m i + length-mappings mappings i)
    ∙ omega arith

length-symbols : (mappings : List TextMapping) → length (symbols_bytes mappings) ≡ 24 * suc (length mappings)
unfolding symbols_bytes
length-symbols mappings =
    length-append (replicate 24 0) (mapping_bytes mappings) ∙ ap (λ n. 24 + n) (length-mappings mappings) ∙ omega arith

length-zeros : (n : ℕ) → length {A = ℕ} (replicate n 0) ≡ n
length-zeros zero = refl
length-zeros (suc n) = ap suc (length-zeros n)

length-text_part : (l : Layout) (text : List ℕ) → length text ≡ l.text_size → 4096 + length (text_part l text) ≡ data_offset l
unfolding text_part
length-text_part l text e =
    let n : length (text ++ replicate (data_offset l - (4096 + l.text_size)) 0) ≡ length text + (data_offset l - (4096 + l.text_size)) =
    length-append text (replicate (data_offset l - (4096 + l.text_size)) 0)
    ∙ ap (λ k. length text + k) (length-zeros (data_offset l - (4096 + l.text_size))) in
    omega (arith, n, data_offset-after l)

length-data_part : (l : Layout) (bytes : List ℕ) → length bytes ≡ l.data_size
    → data_offset l + length (data_part l bytes) ≡ symbols_offset l
unfolding data_part
length-data_part l bytes e =
    let n : length (bytes ++ replicate (symbols_offset l - (data_offset l + l.data_size)) 0) ≡ length bytes
    + (symbols_offset l - (data_offset l + l.data_size)) =
    length-append bytes (replicate (symbols_offset l - (data_offset l + l.data_size)) 0)
    ∙ ap (λ k. length bytes + k) (length-zeros (symbols_offset l - (data_offset l + l.data_size))) in
    omega (arith, n, symbols_offset-after l)

-- ---- parts

pub drop-more : (k : ℕ) (xs : List ℕ) (j : ℕ) → drop (j + k) xs ≡ drop k (drop j xs)
drop-more k xs zero = let e : 0 + k ≡ k = omega arith in rw e refl
drop-more k [] (suc j) = nothing (suc j + k) ∙ sym (nothing k)
  where
    nothing : (n : ℕ) → drop {A = ℕ} n [] ≡ []
    nothing zero = refl
    nothing (suc n) = refl
drop-more k (x ∷ xs) (suc j) = let e : suc j + k ≡ suc (j + k) = omega arith in rw e (drop-more k xs j)

pub file-length : (file : List ℕ) (l : Layout) (text bytes : List ℕ) (mappings : List TextMapping) → IsFile file l text bytes mappings
    → length file ≡ symbols_offset l + 24 * l.symbol_count
unfolding file_bytes
file-length file l text bytes mappings is =
    ap length is.whole ∙ length-append (front_bytes l) (text_part l text ++ (data_part l bytes ++ symbols_bytes mappings))
    ∙ (let a : length (text_part l text ++ (data_part l bytes ++ symbols_bytes mappings)) ≡ length (text_part l text)
    + length (data_part l bytes ++ symbols_bytes mappings) =
    length-append (text_part l text) (data_part l bytes ++ symbols_bytes mappings) in
    let b : length (data_part l bytes ++ symbols_bytes mappings) ≡ length (data_part l bytes) + length (symbols_bytes mappings) =
    length-append (data_part l bytes) (symbols_bytes mappings) in
    let s : 24 * l.symbol_count ≡ 24 * suc (length mappings) = ap (λ n. 24 * n) is.count in
    omega (
      arith,
      a,
      b,
      s,
      length-front l,
      length-text_part l text is.text_size,
      length-data_part l bytes is.data_size,
      length-symbols mappings,
    ))

past-front : (file : List ℕ) (l : Layout) (text bytes : List ℕ) (mappings : List TextMapping) → IsFile file l text bytes mappings
    → drop 4096 file ≡ text_part l text ++ (data_part l bytes ++ symbols_bytes mappings)
unfolding file_bytes
past-front file l text bytes mappings is =
    ap (drop 4096) is.whole ∙ drop_at (front_bytes l) (text_part l text ++ (data_part l bytes ++ symbols_bytes mappings)) 4096
    (length-front l)

past-text : (file : List ℕ) (l : Layout) (text bytes : List ℕ) (mappings : List TextMapping) → IsFile file l text bytes mappings
    → drop (data_offset l) file ≡ data_part l bytes ++ symbols_bytes mappings
past-text file l text bytes mappings is =
    ap (λ n. drop n file) (sym (length-text_part l text is.text_size)) ∙ drop-more (length (text_part l text)) file 4096
    ∙ ap (drop (length (text_part l text))) (past-front file l text bytes mappings is)
    ∙ drop_at (text_part l text) (data_part l bytes ++ symbols_bytes mappings) (length (text_part l text)) refl

pub past-data : (file : List ℕ) (l : Layout) (text bytes : List ℕ) (mappings : List TextMapping) → IsFile file l text bytes mappings
    → drop (symbols_offset l) file ≡ symbols_bytes mappings
past-data file l text bytes mappings is =
    ap (λ n. drop n file) (sym (length-data_part l bytes is.data_size)) ∙ drop-more (length (data_part l bytes)) file (data_offset l)
    ∙ ap (drop (length (data_part l bytes))) (past-text file l text bytes mappings is)
    ∙ drop_at (data_part l bytes) (symbols_bytes mappings) (length (data_part l bytes)) refl

pub text-bytes : (file : List ℕ) (l : Layout) (text bytes : List ℕ) (mappings : List TextMapping) → IsFile file l text bytes mappings
    → take l.text_size (drop 4096 file) ≡ text
unfolding text_part
text-bytes file l text bytes mappings is =
    ap (take l.text_size) (past-front file l text bytes mappings is
    ∙ append_assoc text (replicate (data_offset l - (4096 + l.text_size)) 0) (data_part l bytes ++ symbols_bytes mappings))
    ∙ take_at text (replicate (data_offset l - (4096 + l.text_size)) 0 ++ (data_part l bytes ++ symbols_bytes mappings)) l.text_size
    is.text_size

pub data-bytes : (file : List ℕ) (l : Layout) (text bytes : List ℕ) (mappings : List TextMapping) → IsFile file l text bytes mappings
    → take l.data_size (drop (data_offset l) file) ≡ bytes
unfolding data_part
data-bytes file l text bytes mappings is =
    ap (take l.data_size) (past-text file l text bytes mappings is
    ∙ append_assoc bytes (replicate (symbols_offset l - (data_offset l + l.data_size)) 0) (symbols_bytes mappings))
    ∙ take_at bytes (replicate (symbols_offset l - (data_offset l + l.data_size)) 0 ++ symbols_bytes mappings) l.data_size is.data_size

-- ---- header fields and names

abbrev pub Reads : List ℕ → Layout → Type 0
Reads file l =
    (k : ℕ) → number_at file (offset (all_fields l) k) (width (all_fields l) k) ≡ value (all_fields l) k % 256 ^ width (all_fields l) k

pub reads : (file : List ℕ) (l : Layout) (text bytes : List ℕ) (mappings : List TextMapping) → IsFile file l text bytes mappings
    → Reads file l
unfolding file_bytes front_bytes
reads file l text bytes mappings is k =
    ap (λ f. number_at f (offset (all_fields l) k) (width (all_fields l) k))
    (is.whole ∙ append_assoc (fields_bytes (all_fields l)) (STRINGS.now ++ (0 ∷ (SECTION_NAMES.now ++ replicate 3489 0)))
    (text_part l text ++ (data_part l bytes ++ symbols_bytes mappings)))
    ∙ read_field (all_fields l) k ((STRINGS.now ++ (0 ∷ (SECTION_NAMES.now ++ replicate 3489 0)))
    ++ (text_part l text ++ (data_part l bytes ++ symbols_bytes mappings)))

-- the names of symbols, and whatever follows them
pub names : (file : List ℕ) (l : Layout) (text bytes : List ℕ) (mappings : List TextMapping) → IsFile file l text bytes mappings
    → (rest : List ℕ)
    × ((k : ℕ) → number_at file (560 + k) 1 ≡ number_at (STRINGS.now ++ rest) k 1)
unfolding file_bytes front_bytes
names file l text bytes mappings is = (
  (0 ∷ (SECTION_NAMES.now ++ replicate 3489 0)) ++ (text_part l text ++ (data_part l bytes ++ symbols_bytes mappings)),
  λ k. ap (λ f. number_at f (560 + k) 1) (is.whole
      ∙ append_assoc (fields_bytes (all_fields l)) (STRINGS.now ++ (0 ∷ (SECTION_NAMES.now ++ replicate 3489 0)))
      (text_part l text ++ (data_part l bytes ++ symbols_bytes mappings)))
      ∙ ap (λ n. number_at (fields_bytes (all_fields l)
      ++ (STRINGS.now ++ ((0 ∷ (SECTION_NAMES.now ++ replicate 3489 0))
      ++ (text_part l text ++ (data_part l bytes ++ symbols_bytes mappings))))) (n + k) 1) (sym (length-headers l))
      ∙ number_at-past (fields_bytes (all_fields l))
      (STRINGS.now ++ ((0 ∷ (SECTION_NAMES.now ++ replicate 3489 0))
      ++ (text_part l text ++ (data_part l bytes ++ symbols_bytes mappings)))) k
      1,
)
