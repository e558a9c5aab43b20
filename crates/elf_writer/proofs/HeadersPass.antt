-- The headers of a file that was written pass all checks.
use Rattle.std.proofs.Common.{◌≡◌, ℕ, ◌+◌, ◌-◌, ◌*◌, ◌%◌, ◌^◌, ◌<◌, ◌≤◌, ◌⊎◌, inl, inr, Bool, true, false, List, [], ◌∷◌, length, Option}
use Rattle.std.proofs.Common.{None, refl, ap, sym, subst, ◌∙◌, arith}
use Rattle.std.specs.Prelude.{◌==◌, ◌&&◌, cond, nat_lt, nat_le}
use Rattle.std.proofs.lemmas.Bool.Decides.{nat_tests}
use Rattle.std.proofs.lemmas.Bool.{and_right}
use Rattle.sm_types.specs.Objects.{text_address, data_address}
use Rattle.std.specs.Option.{option_or as or_else}
use Rattle.paged_memory.specs.Parts.{touched_below}
use Rattle.elf_headers.specs.declared.fault.LoadFault.{LoadFault}
use Rattle.elf_headers.specs.declared.program_header.ProgramHeader.{ProgramHeader}
use Rattle.elf_headers.specs.Below.{first_below, any_below}
use Rattle.sm_types.specs.Checks.{fault_only}
use Rattle.elf_headers.specs.Header.{header_entry, program_header_count, length_fault, kind_fault, table_fault}
use Rattle.elf_headers.specs.Segments.{program_header_offset, segment_of, is_dynamic, is_load, is_in_shared, load_fault_of, segment_fault}
use Rattle.elf_headers.specs.Segments.{segments_fault}
use Rattle.elf_headers.specs.Loads.{extents_of, share, has_executable, is_executable_at, overlap_at, overlap_fault, page_sum, pages_fault}
use Rattle.elf_headers.specs.Loads.{entry_fault, headers_fault}
use Rattle.elf_headers.proofs.Below.{first_below-all_none, any_below-found}
use Rattle.elf_writer.specs.declared.layout.Layout.{Layout}
use Rattle.elf_writer.specs.declared.mapping_symbols.TextMapping.{TextMapping}
use Rattle.elf_writer.specs.Layout.{text_segment, full_data_segment, data_offset, symbols_offset, load_count, IsSmall}
use Rattle.elf_writer.proofs.Reading.{IsFile, Reads, reads, file-length, data_offset-after, data_offset-near, symbols_offset-after}
use Rattle.elf_writer.proofs.Reading.{symbols_offset-near}
use Rattle.elf_writer.proofs.Headers.{magic-is, class-is, version-is, type-is, machine-is, entry-is, program_headers_offset-is}
use Rattle.elf_writer.proofs.Headers.{program_header_size-is}
use Rattle.elf_writer.proofs.Headers.{program_header_count-is, segment_of-text, segment_of-data}
use Rattle.elf_writer.proofs.Images.{images, text_image, data_image, extents_of-is, one_of_two, text-is_load}
use Rattle.elf_writer.proofs.Touched.{touched-part, touched-two}

-- the size of the file
record IsSized (size : ℕ) (l : Layout) : Type 0 where
  front : 4096 ≤ size
  text : 4096 + l.text_size ≤ size
  data_bytes : data_offset l + l.data_size ≤ size
  low : size ≤ 67108864

sized : (file : List ℕ) (l : Layout) (text bytes : List ℕ) (mappings : List TextMapping) → IsFile file l text bytes mappings
    → IsSized (length file) l
sized file l text bytes mappings is =
    let n : length file ≡ symbols_offset l + 24 * l.symbol_count = file-length file l text bytes mappings is in
    let a : 4096 + l.text_size ≤ data_offset l = data_offset-after l in
    let b : data_offset l ≤ 8191 + l.text_size = data_offset-near l in
    let c : data_offset l + l.data_size ≤ symbols_offset l = symbols_offset-after l in
    let d : symbols_offset l ≤ data_offset l + l.data_size + 7 = symbols_offset-near l in
    record {
      front = omega arith;
      text = omega arith;
      data_bytes = omega arith;
      low = omega (arith, is.small.text, is.small.data_bytes, is.small.symbols);
    }

-- ---- the file's header

length_passes : (file : List ℕ) (l : Layout) → IsSized (length file) l → length_fault file ≡ None
unfolding length_fault
length_passes file l s =
    let a : nat_lt 67108864 (length file) ≡ false = grind (arith, nat_tests, s.low) in
    let b : nat_lt (length file) 64 ≡ false = grind (arith, nat_tests, s.front) in
    rw (a, b) refl

kind_passes : (file : List ℕ) (l : Layout) → Reads file l → kind_fault file ≡ None
unfolding kind_fault
kind_passes file l r = simp (magic-is file l r, class-is file l r, version-is file l r, type-is file l r, machine-is file l r)

table_by : (file : List ℕ) (l : Layout) (count : ℕ) → Reads file l → IsSized (length file) l → program_header_count file ≡ count
    → (count ≡ 1) ⊎ (count ≡ 2) → table_fault file ≡ None
unfolding table_fault
table_by file l count r s c (inl e) =
    let k : program_header_count file ≡ 1 = c ∙ e in
    let inside : nat_lt (length file) 120 ≡ false = grind (arith, nat_tests, s.front) in
    simp (program_header_size-is file l r, k, program_headers_offset-is file l r, inside)
table_by file l count r s c (inr e) =
    let k : program_header_count file ≡ 2 = c ∙ e in
    let inside : nat_lt (length file) 176 ≡ false = grind (arith, nat_tests, s.front) in
    simp (program_header_size-is file l r, k, program_headers_offset-is file l r, inside)

one_or_two : (b : Bool) → (◌≡◌ {A = ℕ} (cond b 1 2) 1) ⊎ (◌≡◌ {A = ℕ} (cond b 1 2) 2)
one_or_two true = inl refl
one_or_two false = inr refl

table_passes : (file : List ℕ) (l : Layout) → Reads file l → IsSized (length file) l → table_fault file ≡ None
table_passes file l r s = table_by file l (load_count l) r s (program_header_count-is file l r) (one_or_two (l.data_size == 0))

-- ---- each program header

load_passes : (size at i : ℕ) (s : ProgramHeader) → s.memory_size ≡ s.file_size → s.offset + s.file_size ≤ size → size ≤ 67108864
    → s.address + s.memory_size ≤ 2 ^ 32 → load_fault_of size at i s ≡ None
unfolding load_fault_of
load_passes size at i s same fits low offset =
    let a : nat_lt s.memory_size s.file_size ≡ false = grind (arith, nat_tests) in
    let b : nat_lt (2 ^ 47) (s.address + s.memory_size) ≡ false = grind (arith, nat_tests) in
    let c : nat_lt (2 ^ 64 - 1) (s.offset + s.file_size) ≡ false = grind (arith, nat_tests) in
    let d : nat_lt size (s.offset + s.file_size) ≡ false = grind (arith, nat_tests) in
    let e : nat_lt 0x7DFFFFFC0000 (s.address + s.memory_size) ≡ false = grind (arith, nat_tests) in
    let inside : (nat_lt 0 s.file_size && nat_lt size (s.offset + s.file_size)) ≡ false =
    and_right (nat_lt 0 s.file_size) (nat_lt size (s.offset + s.file_size)) d in
    let private : is_in_shared s ≡ false =
    and_right (nat_lt s.address 0x7F0000001000) (nat_lt 0x7DFFFFFC0000 (s.address + s.memory_size)) e in
    rw (a, b, c, inside, private) refl

only_none : (b : Bool) (check : Option LoadFault) → check ≡ None → or_else (fault_only b check) None ≡ None
only_none true check h = rw h refl
only_none false check h = refl

segment_passes : (file : List ℕ) (i : ℕ) (s : ProgramHeader) → segment_of file i ≡ s → is_dynamic s ≡ false
    → load_fault_of (length file) (program_header_offset file i) i s ≡ None → segment_fault file i ≡ None
unfolding segment_fault
segment_passes file i s e d f =
    let dynamic : is_dynamic (segment_of file i) ≡ false = ap (λ (x : ProgramHeader). is_dynamic x) e ∙ d in
    let loads : load_fault_of (length file) (program_header_offset file i) i (segment_of file i) ≡ None =
    ap (load_fault_of (length file) (program_header_offset file i) i) e ∙ f in
    rw dynamic (only_none (is_load (segment_of file i)) (load_fault_of (length file) (program_header_offset file i) i (segment_of file i))
    loads)

text_passes : (file : List ℕ) (l : Layout) → IsSmall l → Reads file l → IsSized (length file) l → segment_fault file 0 ≡ None
unfolding text_segment
text_passes file l m r s =
    segment_passes file 0 (text_segment l) (segment_of-text file l m r) refl
    (load_passes (length file) (program_header_offset file 0) 0 (text_segment l) refl s.text s.low (omega (arith, m.text)))

data_passes : (file : List ℕ) (l : Layout) → IsSmall l → Reads file l → IsSized (length file) l → (l.data_size == 0) ≡ false
    → segment_fault file 1 ≡ None
data_passes file l m r s d =
    segment_passes file 1 (full_data_segment l) (segment_of-data file l m r d) refl
    (load_passes (length file) (program_header_offset file 1) 1 (full_data_segment l) refl s.data_bytes s.low
    (omega (arith, m.text, m.data_bytes)))

segments_pass : (file : List ℕ) (l : Layout) → IsSmall l → Reads file l → IsSized (length file) l → segments_fault file ≡ None
unfolding segments_fault
segments_pass file l m r s =
    first_below-all_none (segment_fault file) (program_header_count file) (λ i h.
    elim (one_of_two (l.data_size == 0) i (subst (λ n. i < n) (program_header_count-is file l r) h)) [
      | inl e ↦ ap (segment_fault file) e ∙ text_passes file l m r s
      | inr p ↦ ap (segment_fault file) p.0 ∙ data_passes file l m r s p.1
    ])

-- ---- the program headers together

data_past : (l : Layout) → text_address + l.text_size ≤ data_address l.text_size
data_past l = omega arith

not_shared : (l : Layout) → share (text_segment l) (full_data_segment l) ≡ false
unfolding text_segment
not_shared l =
    let a : nat_lt (data_address l.text_size) (text_address + l.text_size) ≡ false = grind (arith, nat_tests, data_past l) in
    and_right (nat_lt text_address (data_address l.text_size + l.data_size))
    (nat_lt (data_address l.text_size) (text_address + l.text_size)) a

overlap_none : (file : List ℕ) (i j : ℕ) → (nat_lt i j ≡ false) ⊎ (share (segment_of file i) (segment_of file j) ≡ false)
    → overlap_at file i j ≡ None
unfolding overlap_at
overlap_none file i j (inl e) = rw e refl
overlap_none file i j (inr e) =
    rw (and_right (nat_lt i j && is_load (segment_of file i) && is_load (segment_of file j)) (share (segment_of file i) (segment_of file j))
    e) refl

overlap_pair : (file : List ℕ) (l : Layout) (i j : ℕ) → IsSmall l → Reads file l → (i ≡ 0) ⊎ ((i ≡ 1) × ((l.data_size == 0) ≡ false))
    → (j ≡ 0) ⊎ ((j ≡ 1) × ((l.data_size == 0) ≡ false)) → overlap_at file i j ≡ None
overlap_pair file l i j m r (inl a) (inl b) = (λ k. overlap_at file (a k) (b k)) ∙ overlap_none file 0 0 (inl refl)
overlap_pair file l i j m r (inl a) (inr b) =
    (λ k. overlap_at file (a k) (b.0 k))
    ∙ overlap_none file 0 1 (inr ((λ k. share (segment_of-text file l m r k) (segment_of-data file l m r b.1 k)) ∙ not_shared l))
overlap_pair file l i j m r (inr a) (inl b) = (λ k. overlap_at file (a.0 k) (b k)) ∙ overlap_none file 1 0 (inl refl)
overlap_pair file l i j m r (inr a) (inr b) = (λ k. overlap_at file (a.0 k) (b.0 k)) ∙ overlap_none file 1 1 (inl refl)

overlap_passes : (file : List ℕ) (l : Layout) → IsSmall l → Reads file l → overlap_fault file ≡ None
unfolding overlap_fault
overlap_passes file l m r =
    let below : (i : ℕ) → i < program_header_count file → (i ≡ 0) ⊎ ((i ≡ 1) × ((l.data_size == 0) ≡ false)) =
    λ i h. one_of_two (l.data_size == 0) i (subst (λ n. i < n) (program_header_count-is file l r) h) in
    first_below-all_none (λ i. first_below (overlap_at file i) (program_header_count file)) (program_header_count file) (λ i h.
    first_below-all_none (overlap_at file i) (program_header_count file) (λ j k. overlap_pair file l i j m r (below i h) (below j k)))

-- ---- their pages

few_pages : (text bytes : List ℕ) (b : Bool) (n : ℕ) → length text ≤ 4194304 → length bytes ≤ 4194304
    → touched_below (text_image text ∷ cond b [] (data_image text bytes ∷ [])) n ≤ 2048
few_pages text bytes true n t d = omega (arith, touched-part (text_image text) 1024 n refl t)
few_pages text bytes false n t d = touched-two (text_image text) (data_image text bytes) 1024 n refl t (omega arith) d

pages_pass : (file : List ℕ) (l : Layout) (text bytes : List ℕ) (mappings : List TextMapping) → IsFile file l text bytes mappings
    → 0 < l.text_size
    → pages_fault file ≡ None
unfolding pages_fault
pages_pass file l text bytes mappings is some =
    let few : (n : ℕ) → touched_below (images text bytes) n ≤ 2048 =
    λ n. few_pages text bytes (length bytes == 0) n (omega (arith, is.text_size, is.small.text))
    (omega (arith, is.data_size, is.small.data_bytes)) in
    let sum : touched_below (extents_of file) (2 ^ 35) ≤ 2048 = rw (extents_of-is file l text bytes mappings is some) (few (2 ^ 35)) in
    let t : nat_lt 4096 (page_sum file) ≡ false = grind (arith, nat_tests) in
    rw t refl

-- ---- the entry

entry_word : (x : ℕ) → x % 4 ≡ 0 → (x % 4 == 0) ≡ true
entry_word x h = rw h refl

text_executable : (l : Layout) (a : ℕ) → text_address ≤ a → a < text_address + l.text_size → 0 < l.text_size
    → (is_load (text_segment l) && has_executable (text_segment l) a) ≡ true
unfolding text_segment
text_executable l a from before some =
    let u : nat_le text_address a ≡ true = grind (arith, nat_tests) in
    let v : nat_lt a (text_address + l.text_size) ≡ true = grind (arith, nat_tests) in
    rw (text-is_load l some, u, v) refl

entry_passes : (file : List ℕ) (l : Layout) (text bytes : List ℕ) (mappings : List TextMapping) → IsFile file l text bytes mappings
    → 0 < l.text_size
    → entry_fault file ≡ None
unfolding entry_fault
entry_passes file l text bytes mappings is some =
    let r : Reads file l = reads file l text bytes mappings is in
    let e : header_entry file ≡ l.entry = entry-is file l is.small r in
    let word : (header_entry file % 4 == 0) ≡ true = entry_word (header_entry file) (ap (λ x. x % 4) e ∙ is.aligned) in
    let here : is_executable_at file (header_entry file) 0 ≡ true =
    (λ k. is_load (segment_of-text file l is.small r k) && has_executable (segment_of-text file l is.small r k) (e k))
    ∙ text_executable l l.entry is.from is.before some in
    let count : 0 < program_header_count file = subst (λ n. 0 < n) (sym (program_header_count-is file l r))
    (one_at_least (l.data_size == 0)) in
    let found : any_below (is_executable_at file (header_entry file)) (program_header_count file) ≡ true =
    any_below-found (is_executable_at file (header_entry file)) 0 (program_header_count file) here count in
    rw (word, found) refl
  where
    one_at_least : (b : Bool) → 0 < cond b 1 2
    one_at_least true = omega arith
    one_at_least false = omega arith

-- ---- all

pub headers_pass : (file : List ℕ) (l : Layout) (text bytes : List ℕ) (mappings : List TextMapping) → IsFile file l text bytes mappings
    → headers_fault file ≡ None
unfolding headers_fault
headers_pass file l text bytes mappings is =
    let some : 0 < l.text_size = omega (arith, is.from, is.before) in
    let r : Reads file l = reads file l text bytes mappings is in
    let s : IsSized (length file) l = sized file l text bytes mappings is in
    rw (
      length_passes file l s,
      kind_passes file l r,
      table_passes file l r s,
      segments_pass file l is.small r s,
      overlap_passes file l is.small r,
      pages_pass file l text bytes mappings is some,
      entry_passes file l text bytes mappings is some,
    ) refl
