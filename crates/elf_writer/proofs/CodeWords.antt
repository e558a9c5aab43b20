-- The code words of a file that was written are the object's.
use Rattle.std.proofs.Common.{◌≡◌, ℕ, zero, suc, ◌+◌, ◌-◌, ◌*◌, ◌/◌, ◌^◌, ◌<◌, ◌≤◌, ◌⊎◌, inl, inr, Bool, true, false, cond, List, [], ◌∷◌}
use Rattle.std.proofs.Common.{◌++◌, length, take, drop, map, Option, Some, None, refl, ap, sym, ◌∙◌, arith, add-one}
use Rattle.std.specs.Prelude.{◌&&◌, ◌||◌, nat_le, slice_get}
use Rattle.std.specs.List.{filter_map, range_with_len}
use Rattle.std.proofs.lemmas.Bool.Decides.{nat_tests}
use Rattle.std.proofs.lemmas.List.Elements.{filter_map-append}
use Rattle.sm_types.specs.declared.object.Object.{Object}
use Rattle.sm_types.specs.Bytes.{little_number as little}
use Rattle.sm_types.specs.Objects.{text_address, text_word, mappings_of, is_text_code, object_word, object_code}
use Rattle.sm_types.specs.Bytes.{little_number}
use Rattle.paged_memory.specs.Image.{or_zero, parts_byte}
use Rattle.elf_headers.specs.Below.{answers, answers_below, any_below}
use Rattle.elf_headers.proofs.Below.{answers_below-zero, answers_below-next, answers_below-same}
use Rattle.elf_sections.specs.declared.section.SectionHeader.{SectionHeader}
use Rattle.elf_sections.specs.Sections.{section_of, is_code_section, has_sections}
use Rattle.elf_sections.specs.MappingSymbols.{mapping_symbols_of, is_code_at}
use Rattle.elf_sections.specs.Code.{loaded_byte, loaded_word, has_word, is_code_in, code_word, code_words}
use Rattle.elf_sections.specs.Code as code
use Rattle.elf_sections.proofs.AnswersBelow.{answers_below-gap}
use Rattle.elf_writer.specs.declared.layout.Layout.{Layout}
use Rattle.elf_writer.specs.declared.mapping_symbols.TextMapping.{TextMapping}
use Rattle.elf_writer.specs.Layout.{no_section, text_section, data_section, symbols_section, strings_section}
use Rattle.elf_writer.specs.TextMappings.{text_mappings}
use Rattle.elf_writer.proofs.Reading.{IsFile, Reads, reads}
use Rattle.elf_writer.proofs.Headers.{section_headers_offset-is, section_count-is, section_of-0, section_of-text, section_of-data}
use Rattle.elf_writer.proofs.Headers.{section_of-symbols}
use Rattle.elf_writer.proofs.Headers.{section_of-strings, section_of-names}
use Rattle.elf_writer.proofs.Images.{extents_of-is}
use Rattle.elf_writer.proofs.SectionsPass.{byte_of_text}
use Rattle.elf_writer.proofs.Symbols.{as_mapping_symbol, mapping_symbols_of-is}
use Rattle.elf_writer.proofs.SaidCode.{mappings_say}

-- ---- answers in a row

answers-none : {A : Type 0} (f : ℕ → Option A) (b : ℕ) → ((k : ℕ) → k < b → f k ≡ None) → answers_below f b ≡ []
answers-none f b h = answers_below-gap f 0 b (omega arith) (λ k l m. h k m) ∙ answers_below-zero f

answers-from : {A : Type 0} (f : ℕ → Option A) (b n : ℕ) → ((k : ℕ) → k < b → f k ≡ None)
    → answers_below f (b + n) ≡ answers_below (λ k. f (b + k)) n
answers-from f b zero h = let e : b + 0 ≡ b = omega arith in rw e (answers-none f b h ∙ sym (answers_below-zero (λ k. f (b + k))))
answers-from f b (suc n) h =
    let e : b + suc n ≡ b + n + 1 = omega arith in
    ap (answers_below f) e ∙ answers_below-next f (b + n) ∙ ap (λ xs. xs ++ answers (f (b + n))) (answers-from f b n h)
    ∙ sym (answers_below-next (λ k. f (b + k)) n) ∙ ap (answers_below (λ k. f (b + k))) (add-one n)

range-last : (a n : ℕ) → range_with_len a (suc n) ≡ range_with_len a n ++ (a + n) ∷ []
range-last a zero = let e : a + 0 ≡ a = omega arith in rw e refl
range-last a (suc n) = let e : a + suc n ≡ a + 1 + n = omega arith in rw e (ap (λ xs. a ∷ xs) (range-last (a + 1) n))

one_answer : {A : Type 0} (f : ℕ → Option A) (n : ℕ) (o : Option A) → f n ≡ o → filter_map f (n ∷ []) ≡ answers o
one_answer f n None h = rw h refl
one_answer f n (Some x) h = rw h refl

answers-filter : {A : Type 0} (f : ℕ → Option A) (n : ℕ) → answers_below f n ≡ filter_map f (range_with_len 0 n)
answers-filter f zero = answers_below-zero f
answers-filter f (suc n) =
    let e : 0 + n ≡ n = omega arith in
    ap (answers_below f) (sym (add-one n)) ∙ answers_below-next f n
    ∙ (λ i. answers-filter f n i ++ sym (one_answer f n (f n) refl) i) ∙ sym (filter_map-append f (range_with_len 0 n) (n ∷ []))
    ∙ ap (λ k. filter_map f (range_with_len 0 n ++ k ∷ [])) (sym e) ∙ ap (filter_map f) (sym (range-last 0 n))

-- ---- a word of the text

get-drop : (xs : List ℕ) (at k : ℕ) → slice_get xs (at + k) ≡ slice_get (drop at xs) k
get-drop xs zero k = let e : 0 + k ≡ k = omega arith in rw e refl
get-drop [] (suc at) k = refl
get-drop (x ∷ xs) (suc at) k = let e : suc at + k ≡ suc (at + k) = omega arith in rw e (get-drop xs at k)

four : (xs : List ℕ) → 4 ≤ length xs → little_number
    (or_zero (slice_get xs 0) ∷ or_zero (slice_get xs 1) ∷ or_zero (slice_get xs 2) ∷ or_zero (slice_get xs 3) ∷ []) ≡ little (take 4 xs)
four [] h = absurd (omega arith)
four (a ∷ []) h = absurd (omega arith)
four (a ∷ b ∷ []) h = absurd (omega arith)
four (a ∷ b ∷ c ∷ []) h = absurd (omega arith)
four (a ∷ b ∷ c ∷ d ∷ xs) h = refl

length-past : (xs : List ℕ) (at n : ℕ) → at + n ≤ length xs → n ≤ length (drop at xs)
length-past xs zero n h = omega arith
length-past [] (suc at) n h = absurd (omega arith)
length-past (x ∷ xs) (suc at) n h = length-past xs at n (omega arith)

word-is : (text : List ℕ) (at : ℕ) → at + 4 ≤ length text
    → little_number (or_zero (slice_get text (at + 0)) ∷ or_zero (slice_get text (at + 1)) ∷ or_zero (slice_get text (at + 2))
    ∷ or_zero (slice_get text (at + 3)) ∷ []) ≡ text_word text at
unfolding text_word
word-is text at h =
    (λ i. little_number (or_zero (get-drop text at 0 i) ∷ or_zero (get-drop text at 1 i) ∷ or_zero (get-drop text at 2 i)
    ∷ or_zero (get-drop text at 3 i) ∷ []))
    ∙ four (drop at text) (length-past text at 4 h)

byte-is : (file : List ℕ) (l : Layout) (text bytes : List ℕ) (mappings : List TextMapping) → IsFile file l text bytes mappings
    → (a offset : ℕ)
    → a ≡ text_address + offset → offset < length text → loaded_byte file a ≡ or_zero (slice_get text offset)
byte-is file l text bytes mappings is a offset e h =
    let some : 0 < l.text_size = omega (arith, is.from, is.before) in
    let back : a - text_address ≡ offset = omega arith in
    ap (λ es. or_zero (parts_byte es a)) (extents_of-is file l text bytes mappings is some)
    ∙ ap or_zero (byte_of_text text bytes a (omega arith) (omega arith)) ∙ ap (λ p. or_zero (slice_get text p)) back

loaded-is : (file : List ℕ) (l : Layout) (text bytes : List ℕ) (mappings : List TextMapping) → IsFile file l text bytes mappings → (at : ℕ)
    → at + 4 ≤ length text → loaded_word file (text_address + at) ≡ text_word text at
unfolding loaded_word
loaded-is file l text bytes mappings is at h =
    (λ i. little_number (byte-is file l text bytes mappings is (text_address + at) (at + 0) (omega arith) (omega arith) i
    ∷ byte-is file l text bytes mappings is (text_address + at + 1) (at + 1) (omega arith) (omega arith) i
    ∷ byte-is file l text bytes mappings is (text_address + at + 2) (at + 2) (omega arith) (omega arith) i
    ∷ byte-is file l text bytes mappings is (text_address + at + 3) (at + 3) (omega arith) (omega arith) i ∷ []))
    ∙ word-is text at h

-- ---- which words are code

six_tests : (test : ℕ → Bool) → test 0 ≡ false → test 2 ≡ false → test 3 ≡ false → test 4 ≡ false → test 5 ≡ false
    → any_below test 6 ≡ test 1
unfolding any_below
six_tests test a c d e f = rw (a, c, d, e, f) (alone (test 1))
  where
    alone : (b : Bool) → (((((false || b) || false) || false) || false) || false) ≡ b
    alone true = refl
    alone false = refl

no_code : (file : List ℕ) (a i : ℕ) (s : SectionHeader) → section_of file i ≡ s → is_code_section s ≡ false → is_code_in file a i ≡ false
no_code file a i s e h =
    ap (λ (x : SectionHeader). is_code_section x && has_word x a && is_code_at (mapping_symbols_of file) i a) e ∙ rw h refl

text_code : (file : List ℕ) (l : Layout) (text bytes : List ℕ) (mappings : List TextMapping) → IsFile file l text bytes mappings → (a : ℕ)
    → code.is_code_word file a ≡ (nat_le text_address a && nat_le (a + 4) (text_address + l.text_size)
    && is_code_at (map as_mapping_symbol mappings) 1 a)
unfolding code.is_code_word text_section data_section symbols_section strings_section
text_code file l text bytes mappings is a =
    let r : Reads file l = reads file l text bytes mappings is in
    ap (any_below (is_code_in file a)) (section_count-is file l r)
    ∙ six_tests (is_code_in file a) (no_code file a 0 no_section (section_of-0 file l r) refl)
    (no_code file a 2 (data_section l) (section_of-data file l is.small r) refl)
    (no_code file a 3 (symbols_section l) (section_of-symbols file l is.small r) refl)
    (no_code file a 4 (strings_section 560 7) (section_of-strings file l r) refl)
    (no_code file a 5 (strings_section 568 39) (section_of-names file l r) refl)
    ∙ (λ i. is_code_section (section_of-text file l is.small r i) && has_word (section_of-text file l is.small r i) a
    && is_code_at (mapping_symbols_of-is file l text bytes mappings is i) 1 a)

outside : (x y : Bool) → (x ≡ false) ⊎ (y ≡ false) → (z : Bool) → (x && y && z) ≡ false
outside x y (inl e) z = rw e refl
outside true false (inr e) z = refl
outside false false (inr e) z = refl
outside x true (inr e) z = cc

no_word : (file : List ℕ) (n : ℕ) → code.is_code_word file (4 * n) ≡ false → code_word file n ≡ None
unfolding code_word
no_word file n h = rw h refl

word-outside : (file : List ℕ) (l : Layout) (text bytes : List ℕ) (mappings : List TextMapping) → IsFile file l text bytes mappings
    → (n : ℕ)
    → (n < 1048576) ⊎ (1048576 + l.text_size / 4 ≤ n) → code_word file n ≡ None
word-outside file l text bytes mappings is n (inl h) =
    let t : nat_le text_address (4 * n) ≡ false = grind (arith, nat_tests) in
    no_word file n (text_code file l text bytes mappings is (4 * n)
    ∙ outside (nat_le text_address (4 * n)) (nat_le (4 * n + 4) (text_address + l.text_size)) (inl t)
    (is_code_at (map as_mapping_symbol mappings) 1 (4 * n)))
word-outside file l text bytes mappings is n (inr h) =
    let far : text_address + l.text_size < 4 * n + 4 = omega arith in
    let t : nat_le (4 * n + 4) (text_address + l.text_size) ≡ false = grind (arith, nat_tests) in
    no_word file n (text_code file l text bytes mappings is (4 * n)
    ∙ outside (nat_le text_address (4 * n)) (nat_le (4 * n + 4) (text_address + l.text_size)) (inr t)
    (is_code_at (map as_mapping_symbol mappings) 1 (4 * n)))

inside : (x y z : Bool) → x ≡ true → y ≡ true → (x && y && z) ≡ z
inside x y z a b = rw (a, b) refl

-- a word with its address, where it is code, by what is known of the three
word-by : (test : ℕ → Bool) (read : ℕ → ℕ) (a b word : ℕ) (code : Bool) → a ≡ b → test b ≡ code → read b ≡ word
    → cond {A = Option (ℕ × ℕ)} (test a) (Some (a, read a)) None ≡ cond code (Some (b, word)) None
word-by test read a b word code e t r = rw (e, t, r) refl

word-inside : (o : Object) (file : List ℕ) (l : Layout) → IsFile file l o.text_bytes.items o.data_bytes.items (text_mappings o) → (k : ℕ)
    → k < length o.text_bytes.items / 4 → code_word file (1048576 + k) ≡ object_word o k
unfolding code_word object_word
word-inside o file l is k h =
    let at : 4 * (1048576 + k) ≡ text_address + 4 * k = omega arith in
    let t : nat_le text_address (text_address + 4 * k) ≡ true = grind (arith, nat_tests) in
    let ends : text_address + 4 * k + 4 ≤ text_address + l.text_size = omega (arith, is.text_size) in
    let u : nat_le (text_address + 4 * k + 4) (text_address + l.text_size) ≡ true = grind (arith, nat_tests) in
    let is_code : code.is_code_word file (text_address + 4 * k) ≡ is_text_code (mappings_of o.symbols.items) (text_address + 4 * k) =
    text_code file l o.text_bytes.items o.data_bytes.items (text_mappings o) is (text_address + 4 * k)
    ∙ inside (nat_le text_address (text_address + 4 * k)) (nat_le (text_address + 4 * k + 4) (text_address + l.text_size))
    (is_code_at (map as_mapping_symbol (text_mappings o)) 1 (text_address + 4 * k)) t u
    ∙ mappings_say o k h in
    let word : loaded_word file (text_address + 4 * k) ≡ text_word o.text_bytes.items (4 * k) =
    loaded-is file l o.text_bytes.items o.data_bytes.items (text_mappings o) is (4 * k) (omega arith) in
    word-by (code.is_code_word file) (loaded_word file) (4 * (1048576 + k)) (text_address + 4 * k) (text_word o.text_bytes.items (4 * k))
    (is_text_code (mappings_of o.symbols.items) (text_address + 4 * k)) at is_code word

has_table : (file : List ℕ) (l : Layout) → Reads file l → has_sections file ≡ true
has_table file l r = rw (section_headers_offset-is file l r) refl

pub code_words-are : (o : Object) (file : List ℕ) (l : Layout) → IsFile file l o.text_bytes.items o.data_bytes.items (text_mappings o)
    → code_words file ≡ object_code o
unfolding code_words object_code
code_words-are o file l is =
    let r : Reads file l = reads file l o.text_bytes.items o.data_bytes.items (text_mappings o) is in
    let count : ℕ = length o.text_bytes.items / 4 in
    let past : (k : ℕ) → 1048576 + length o.text_bytes.items / 4 ≤ k → code_word file k ≡ None =
    λ k h. word-outside file l o.text_bytes.items o.data_bytes.items (text_mappings o) is k (inr (omega (arith, is.text_size))) in
    let below : (k : ℕ) → k < 1048576 → code_word file k ≡ None =
    λ k h. word-outside file l o.text_bytes.items o.data_bytes.items (text_mappings o) is k (inl h) in
    ap (λ b. cond b (answers_below (code_word file) (2 ^ 45)) []) (has_table file l r)
    ∙ answers_below-gap (code_word file) (1048576 + length o.text_bytes.items / 4) (2 ^ 45) (omega (arith, is.text_size, is.small.text))
    (λ k a b. past k a)
    ∙ answers-from (code_word file) 1048576 (length o.text_bytes.items / 4) below
    ∙ answers_below-same (λ k. code_word file (1048576 + k)) (object_word o) (length o.text_bytes.items / 4)
    (λ k h. word-inside o file l is k h)
    ∙ answers-filter (object_word o) (length o.text_bytes.items / 4)
