-- The other lines that are instructions: each is the text of its word, which is computed.
use Rattle.std.proofs.Common.{◌≡◌, ℕ, ◌%◌, ◌^◌, ◌==◌, ◌&&◌, Bool, true, false, cond, List, [], ◌∷◌, ◌++◌, nat_lt, refl, arith}
use Rattle.std.proofs.Common.{ltb-true}
use Rattle.std.specs.Prelude.{codes, is_some}
use Rattle.std.specs.List.{list_all}
use Rattle.std.specs.Str.{bytes_eq}
use Rattle.std.specs.Fmt.{digits}
use Rattle.std.proofs.lemmas.Bool.{and_parts}
use Rattle.std.proofs.lemmas.Slice.Eq.{bytes_eq-Decides}
use Rattle.insn_forms.specs.Tables.{meaning_by, meaning_in, stands_for}
use Rattle.insn_forms.specs.Fields.{field_of, field_in}
use Rattle.a64_table.specs.Conditions.{fits_of}
use Rattle.a64_table.specs.Table.{scalar, meaning_of}
use Rattle.sve_table.specs.Conditions.{fits_of as vector_fits}
use Rattle.sve_table.specs.Table.{vector, vector_meaning_of}
use Rattle.a64_encode.specs.Either.{instruction_of}
use Rattle.insn_text.specs.Texts.{text_of, text_of_shape, shape_text, printed_shape, prints, text_in, items_in, items_of, items_text, gap}
use Rattle.insn_text.specs.Texts.{is_comma, is_punctuation, item_text, kind_text, register_text, file_text, sized_text, vector_file_text}
use Rattle.insn_text.specs.Texts.{signed_text, is_positive, size_of, pattern_text, is_named_pattern, pattern_index}
use Rattle.workload.specs.Source.{kind_of, sum_line, chosen_line, first_lines, last_lines}
use Rattle.workload_laws.specs.Words.{chosen_word, first_words, last_words}
use Rattle.workload_laws.proofs.ShortLines.{is_line_byte, is_short_line}
use Rattle.workload_laws.proofs.Texts.{IsText, text_by}
use Rattle.workload_laws.proofs.Sums.{sum_short, sum_text}
use Rattle.workload_laws.proofs.Said.{AreTexts, texts-parts}

-- the word has 32 bits and means an instruction, and this is its text
unfoldable is_text : ℕ → List ℕ → Bool
is_text word text = nat_lt word (2 ^ 32) && (is_some (instruction_of word) && bytes_eq (text_of word) text)

by_test : (word : ℕ) (text : List ℕ) → is_text word text ≡ true → IsText word text
unfolding is_text
by_test word text e =
    let p = and_parts (nat_lt word (2 ^ 32)) (is_some (instruction_of word) && bytes_eq (text_of word) text) e in
    let q = and_parts (is_some (instruction_of word)) (bytes_eq (text_of word) text) p.1 in
    text_by word text (ltb-true word (2 ^ 32) p.0) q.0 ((bytes_eq-Decides (text_of word) text).0 q.1)

unfoldable are_texts : List ℕ → List (List ℕ) → Bool
are_texts [] [] = true
are_texts [] (text ∷ texts) = false
are_texts (word ∷ words) [] = false
are_texts (word ∷ words) (text ∷ texts) = is_text word text && are_texts words texts

by_tests : (words : List ℕ) (texts : List (List ℕ)) → are_texts words texts ≡ true → AreTexts words texts
unfolding are_texts
by_tests [] [] e = tt
by_tests [] (text ∷ texts) e = cc
by_tests (word ∷ words) [] e = cc
by_tests (word ∷ words) (text ∷ texts) e =
    let p = and_parts (is_text word text) (are_texts words texts) e in (by_test word text p.0, by_tests words texts p.1)

-- the lines between the label and those that numbers choose
abbrev pub setup_lines : List (List ℕ)
setup_lines =
    codes "smstart" ∷ codes "ptrue p0.b, all" ∷ codes "index z0.b, #0, #1" ∷ codes "index z1.b, #1, #2"
    ∷ codes "movz x9, #32512, lsl #32" ∷ codes "movz x10, #1" ∷ []

-- the lines of the first three kinds
abbrev kind_lines : List (List ℕ)
kind_lines = codes "smopa za0.s, p0/m, p0/m, z0.b, z1.b" ∷ codes "add z0.b, z0.b, z1.b" ∷ codes "ldadd x10, x11, [x9]" ∷ []

abbrev kind_words : List ℕ
kind_words = 0xA0810000 ∷ 0x04210000 ∷ 0xF82A012B ∷ []

all_texts : are_texts (first_words ++ (last_words ++ kind_words)) (setup_lines ++ (last_lines ++ kind_lines)) ≡ true
unfolding are_texts is_text text_of text_of_shape shape_text printed_shape prints text_in items_in items_of items_text gap is_comma
    is_punctuation item_text kind_text register_text file_text sized_text vector_file_text signed_text is_positive size_of pattern_text
    is_named_pattern pattern_index digits field_of field_in instruction_of meaning_of vector_meaning_of meaning_by meaning_in
    stands_for scalar vector fits_of vector_fits
all_texts = refl

first_parts : AreTexts first_words setup_lines × AreTexts (last_words ++ kind_words) (last_lines ++ kind_lines)
first_parts =
    texts-parts first_words (last_words ++ kind_words) setup_lines (last_lines ++ kind_lines) refl (by_tests _ _ all_texts)

last_parts : AreTexts last_words last_lines × AreTexts kind_words kind_lines
last_parts = texts-parts last_words kind_words last_lines kind_lines refl first_parts.1

pub first_texts : AreTexts first_words setup_lines
first_texts = first_parts.0

pub last_texts : AreTexts last_words last_lines
last_texts = last_parts.0

-- ---- the line that a number chooses

if_text : (b : Bool) (w v : ℕ) (t u : List ℕ) → IsText w t → IsText v u → IsText (cond b w v) (cond b t u)
if_text true w v t u h k = h
if_text false w v t u h k = k

pub chosen_text : (s : ℕ) → IsText (chosen_word s) (chosen_line s)
unfolding chosen_word chosen_line
chosen_text s =
    let kinds = last_parts.1 in
    if_text _ _ _ _ _ kinds.0 (if_text _ _ _ _ _ kinds.1.0 (if_text _ _ _ _ _ kinds.1.1.0 (sum_text (s % 4096) (omega arith))))

pub first_short : list_all is_short_line first_lines ≡ true
unfolding is_short_line is_line_byte
first_short = refl

pub last_short : list_all is_short_line last_lines ≡ true
unfolding is_short_line is_line_byte
last_short = refl

short_by : (a b c : Bool) (line : List ℕ) → is_short_line line ≡ true
    → is_short_line (cond a (codes "smopa za0.s, p0/m, p0/m, z0.b, z1.b") (cond b (codes "add z0.b, z0.b, z1.b")
    (cond c (codes "ldadd x10, x11, [x9]") line))) ≡ true
unfolding is_short_line is_line_byte
short_by true b c line h = refl
short_by false true c line h = refl
short_by false false true line h = refl
short_by false false false line h = h

pub chosen_short : (s : ℕ) → is_short_line (chosen_line s) ≡ true
unfolding chosen_line
chosen_short s =
    short_by (kind_of s == 0) (kind_of s == 1) (kind_of s == 2) (sum_line (s % 4096)) (sum_short (s % 4096) (omega arith))
