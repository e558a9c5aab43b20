-- Lines that are instructions alone: what the assembler finds in them.
use Rattle.std.proofs.Common.{◌≡◌, ℕ, ◌+◌, ◌*◌, ◌%◌, ◌≤◌, ◌==◌, ◌||◌, true, false, cond, nat_lt, List, [], ◌∷◌, ◌++◌, map, length}
use Rattle.std.proofs.Common.{Some, None, Ok, refl, ap, ◌∙◌, arith}
use Rattle.std.proofs.lemmas.Bool.Decides.{nat_tests}
use Rattle.sm_types.specs.declared.object.Section.TheVariants.{Text}
use Rattle.asm_parser.specs.Statements.{SourceLine}
use Rattle.asm_core.specs.declared.location_counter.LocationCounter.{LocationCounter}
use Rattle.asm_core.specs.Source.{said_lines}
use Rattle.asm_core.specs.Layout.{Label, Names, size_of, counter_after, counter_past, labels_from}
use Rattle.asm_core.specs.Code.{code_words}
use Rattle.asm_core.specs.Faults.{misaligned, is_doubled, is_too_large, line_fault, lines_fault, words_fault, target_fault, targets_fault}
use Rattle.asm_core.proofs.LineFaults.{no_fault}
use Rattle.asm_core.proofs.Scanning.{line_passes, said_cons}
use Rattle.workload_laws.specs.Words.{word_line}
use Rattle.workload_laws.proofs.Texts.{text_says}
use Rattle.workload_laws.proofs.Said.{AreTexts}

-- after so many words of the text, and no data
abbrev pub after_words : ℕ → LocationCounter
after_words count = record { part = Text; text_size = 4 * count; data_size = 0 }

one_more : (count : ℕ) → 4 * count + 4 ≡ 4 * (count + 1)
one_more count = omega arith

pub word_counter : (count word : ℕ) → counter_after (after_words count) (word_line word).says ≡ after_words (count + 1)
unfolding counter_after size_of code_words
word_counter count word = ap (λ (n : ℕ). record { part = Text; text_size = n; data_size = 0 }) (one_more count)

aligned : (count : ℕ) → (4 * count % 4 == 0) ≡ true
aligned count = grind (arith, nat_tests)

no_column : (count word : ℕ) → misaligned (word_line word).says (4 * count) ≡ None
unfolding misaligned
no_column count word = ap (λ b. cond b None (Some 1)) (aligned count)

fits : (count : ℕ) → 4 * count + 4 ≤ 4194304 → (nat_lt 4194304 (4 * count + 4) || nat_lt 4194304 0) ≡ false
fits count l = grind (arith, nat_tests)

not_large : (count word : ℕ) → 4 * count + 4 ≤ 4194304 → is_too_large (after_words count) (word_line word).says ≡ false
unfolding is_too_large counter_after size_of code_words
not_large count word l = fits count l

word_sound : (n count : ℕ) (labels : List Label) (word : ℕ) → 4 * count + 4 ≤ 4194304
    → line_fault n (after_words count) labels (Ok (word_line word)) ≡ None
unfolding is_doubled
word_sound n count labels word l =
    no_fault n (after_words count) labels (word_line word) (no_column count word) refl (not_large count word l)

no_lines : (n : ℕ) (p : LocationCounter) (labels : List Label) → lines_fault n p labels [] ≡ None
unfolding lines_fault
no_lines n p labels = refl

said_none : said_lines [] ≡ []
unfolding said_lines
said_none = refl

-- they have no fault
pub texts_sound : (n count : ℕ) (labels : List Label) (words : List ℕ) (texts : List (List ℕ)) → AreTexts words texts
    → 4 * count + 4 * length words ≤ 4194304 → lines_fault n (after_words count) labels texts ≡ None
texts_sound n count labels [] [] h l = no_lines n (after_words count) labels
texts_sound n count labels [] (text ∷ texts) h l = absurd h
texts_sound n count labels (word ∷ words) [] h l = absurd h
texts_sound n count labels (word ∷ words) (text ∷ texts) h l =
    line_passes n (after_words count) labels text texts (word_line word) (text_says word text h.0)
    (word_sound n count labels word (omega arith))
    ∙ ap (λ (p : LocationCounter). lines_fault (n + 1) p (labels ++ []) texts) (word_counter count word)
    ∙ texts_sound (n + 1) (count + 1) (labels ++ []) words texts h.1 (omega arith)

-- they say the words
pub texts_said : (words : List ℕ) (texts : List (List ℕ)) → AreTexts words texts → said_lines texts ≡ map word_line words
texts_said [] [] h = said_none
texts_said [] (text ∷ texts) h = absurd h
texts_said (word ∷ words) [] h = absurd h
texts_said (word ∷ words) (text ∷ texts) h =
    said_cons text texts (word_line word) (text_says word text h.0)
    ∙ ap (λ (ls : List SourceLine). word_line word ∷ ls) (texts_said words texts h.1)

-- each word has four bytes of the text
pub words_counter : (count : ℕ) (words : List ℕ)
    → counter_past (after_words count) (map word_line words) ≡ after_words (count + length words)
unfolding counter_past
words_counter count [] = let e : count ≡ count + 0 = omega arith in ap after_words e
words_counter count (word ∷ words) =
    let e : count + 1 + length words ≡ count + length (word ∷ words) = omega arith in
    ap (λ (p : LocationCounter). counter_past p (map word_line words)) (word_counter count word)
    ∙ words_counter (count + 1) words ∙ ap after_words e

-- they have no labels
pub words_unlabelled : (p : LocationCounter) (words : List ℕ) → labels_from p (map word_line words) ≡ []
unfolding labels_from
words_unlabelled p [] = refl
words_unlabelled p (word ∷ words) = words_unlabelled (counter_after p (word_line word).says) words

-- and no targets
pub words_untargeted : (n text_length : ℕ) (names : Names) (p : LocationCounter) (words : List ℕ)
    → targets_fault n text_length names p (map word_line words) ≡ None
unfolding targets_fault target_fault words_fault code_words
words_untargeted n text_length names p [] = refl
words_untargeted n text_length names p (word ∷ words) =
    words_untargeted (n + 1) text_length names (counter_after p (word_line word).says) words
