-- The sources of the workload have no fault.
use Rattle.std.proofs.Common.{◌≡◌, ℕ, suc, ◌+◌, ◌*◌, ◌≤◌, ◌<◌, true, false, cond, nat_lt, List, [], ◌∷◌, ◌++◌, map, length, Some}
use Rattle.std.proofs.Common.{None, Ok, refl, sym, ap, ap₂, ◌∙◌, subst, arith, length-append, lt-ltb}
use Rattle.std.proofs.lemmas.Bool.{and_parts, and_from}
use Rattle.std.specs.Prelude.{codes}
use Rattle.std.specs.List.{flat_map, list_all, range_with_len}
use Rattle.std.specs.Str.Lossy.{utf8_valid_len}
use Rattle.std.proofs.lemmas.Str.{utf8_valid_len-IsUtf8, IsUtf8-from_ascii}
use Rattle.std.proofs.lemmas.List.FromFn.{length-range_with_len}
use Rattle.std.proofs.lemmas.Bool.Decides.{nat_tests}
use Rattle.sm_types.specs.declared.object.Section.TheVariants.{Text}
use Rattle.sm_types.specs.Objects.{text_address}
use Rattle.asm_parser.specs.Statements.{SourceLine, IntoText, Globals, Nothing}
use Rattle.asm_core.specs.declared.location_counter.LocationCounter.{LocationCounter}
use Rattle.asm_core.specs.Source.{lines_of, said_lines}
use Rattle.asm_core.specs.Layout.{first_counter, Label, size_of, counter_after, counter_past, labels_from, labels_of, label_named, Names, names_of, names_in}
use Rattle.asm_core.specs.Faults.{misaligned, is_doubled, is_too_large, line_fault, lines_fault, target_fault, targets_fault, start_of, text_length_of}
use Rattle.asm_core.specs.Faults.{asm_fault}
use Rattle.asm_core.proofs.Scanning.{line_passes, said_cons}
use Rattle.asm_core.proofs.Chain.{no_fault_is}
use Rattle.workload.specs.Source.{number_at, chosen_line, chosen_lines, first_lines, last_lines, source_lines, ended, source_of}
use Rattle.workload_laws.specs.Words.{chosen_word, source_words, first_words, last_words, said_of}
use Rattle.workload_laws.proofs.ShortLines.{is_short_line}
use Rattle.workload_laws.proofs.Lines.{lines_back, text_length, text_ascii}
use Rattle.workload_laws.proofs.Instructions.{after_words, texts_sound, texts_said, words_counter, words_unlabelled, words_untargeted}
use Rattle.workload_laws.proofs.Opening.{text_line, global_line, start_line}
use Rattle.workload_laws.proofs.Said.{AreTexts, texts-append, texts-map}
use Rattle.workload_laws.proofs.Chosen.{chosen_text, chosen_short, first_texts, first_short, last_texts, last_short, setup_lines}

-- ---- the lines after the label

abbrev instructions : ℕ → List (List ℕ)
instructions number = setup_lines ++ (chosen_lines number ++ last_lines)

-- each is the text of its word
instruction_texts : (number : ℕ) → AreTexts (source_words number) (instructions number)
unfolding source_words chosen_lines
instruction_texts number =
    texts-append first_words _ setup_lines _ first_texts (texts-append _ last_words _ last_lines
    (texts-map (λ i. chosen_word (number_at number i)) (λ i. chosen_line (number_at number i)) (λ i. chosen_text (number_at number i))
    (range_with_len 1 number)) last_texts)

length-map : {A B : Type 0} (f : A → B) (xs : List A) → length (map f xs) ≡ length xs
length-map f [] = refl
length-map f (x ∷ xs) = ap suc (length-map f xs)

pub word_count : (number : ℕ) → length (source_words number) ≡ 10 + number
unfolding source_words
word_count number =
    let is = range_with_len 1 number in
    let chosen = map (λ i. chosen_word (number_at number i)) is in
    omega (
      arith,
      length-append first_words (chosen ++ last_words),
      length-append chosen last_words,
      length-map (λ i. chosen_word (number_at number i)) is,
      length-range_with_len 1 number,
    )

-- ---- the text

short-append : (ts us : List (List ℕ)) → list_all is_short_line ts ≡ true → list_all is_short_line us ≡ true
    → list_all is_short_line (ts ++ us) ≡ true
short-append [] us h k = k
short-append (t ∷ ts) us h k =
    let p = and_parts (is_short_line t) (list_all is_short_line ts) h in
    and_from (is_short_line t) (list_all is_short_line (ts ++ us)) p.0 (short-append ts us p.1 k)

short-map : (text : ℕ → List ℕ) → ((i : ℕ) → is_short_line (text i) ≡ true) → (is : List ℕ) → list_all is_short_line (map text is) ≡ true
short-map text h [] = refl
short-map text h (i ∷ is) = and_from (is_short_line (text i)) (list_all is_short_line (map text is)) (h i) (short-map text h is)

all_short : (number : ℕ) → list_all is_short_line (source_lines number) ≡ true
unfolding source_lines chosen_lines
all_short number =
    short-append first_lines (chosen_lines number ++ last_lines) first_short (short-append (chosen_lines number) last_lines
    (short-map (λ i. chosen_line (number_at number i)) (λ i. chosen_short (number_at number i)) (range_with_len 1 number)) last_short)

line_count : (number : ℕ) → length (source_lines number) ≡ 13 + number
unfolding source_lines chosen_lines
line_count number =
    let is = range_with_len 1 number in
    let chosen = map (λ i. chosen_line (number_at number i)) is in
    omega (
      arith,
      length-append first_lines (chosen ++ last_lines),
      length-append chosen last_lines,
      length-map (λ i. chosen_line (number_at number i)) is,
      length-range_with_len 1 number,
    )

short_enough : (number : ℕ) → number ≤ 20000 → nat_lt 67108864 (length (source_of number)) ≡ false
unfolding source_of
short_enough number l =
    let size = text_length (source_lines number) (all_short number) in
    let count = line_count number in
    let fits : length (flat_map ended (source_lines number)) ≤ 67108864 = omega arith in
    grind (arith, nat_tests)

is_utf8 : (number : ℕ) → nat_lt (utf8_valid_len (source_of number)) (length (source_of number)) ≡ false
unfolding source_of
is_utf8 number =
    let text = flat_map ended (source_lines number) in
    let whole = utf8_valid_len-IsUtf8 text (IsUtf8-from_ascii text (text_ascii (source_lines number) (all_short number))) in
    ap (λ n. nat_lt n (length text)) whole ∙ not_less (length text)
  where
    not_less : (n : ℕ) → nat_lt n n ≡ false
    not_less n = grind (arith, nat_tests)

-- ---- the lines

source_back : (number : ℕ) → lines_of (source_of number) ≡ source_lines number
unfolding source_of
source_back number = lines_back (source_lines number) (all_short number)

abbrev start_label : Label
start_label = record { name = codes "_start"; part = Text; offset = 0 }

abbrev text_said : SourceLine
text_said = record { label = None; says = IntoText }

abbrev global_said : SourceLine
global_said = record { label = None; says = Globals (codes "_start") }

abbrev start_said : SourceLine
start_said = record { label = Some (codes "_start"); says = Nothing }

text_sound : line_fault 1 first_counter [] (Ok text_said) ≡ None
unfolding line_fault misaligned is_doubled is_too_large counter_after size_of
text_sound = refl

global_sound : line_fault 2 (after_words 0) [] (Ok global_said) ≡ None
unfolding line_fault misaligned is_doubled is_too_large counter_after size_of
global_sound = refl

start_sound : line_fault 3 (after_words 0) [] (Ok start_said) ≡ None
unfolding line_fault misaligned is_doubled is_too_large counter_after size_of label_named
start_sound = refl

lines_sound : (number : ℕ) → number ≤ 20000 → lines_fault 1 first_counter [] (source_lines number) ≡ None
unfolding source_lines counter_after size_of
lines_sound number l =
    let count = word_count number in
    line_passes 1 first_counter [] _ _ text_said text_line text_sound
    ∙ line_passes 2 (after_words 0) [] _ _ global_said global_line global_sound
    ∙ line_passes 3 (after_words 0) [] _ _ start_said start_line start_sound
    ∙ texts_sound 4 0 (start_label ∷ []) (source_words number) (instructions number) (instruction_texts number) (omega arith)

lines_said : (number : ℕ) → said_lines (source_lines number) ≡ said_of number
unfolding source_lines said_of
lines_said number =
    said_cons _ _ text_said text_line ∙ ap (λ (ls : List SourceLine). text_said ∷ ls) (said_cons _ _ global_said global_line)
    ∙ ap (λ (ls : List SourceLine). text_said ∷ global_said ∷ ls) (said_cons _ _ start_said start_line)
    ∙ ap (λ (ls : List SourceLine). text_said ∷ global_said ∷ start_said ∷ ls)
    (texts_said (source_words number) (instructions number) (instruction_texts number))

-- what the lines of the source say
pub source_said : (number : ℕ) → said_lines (lines_of (source_of number)) ≡ said_of number
source_said number = ap said_lines (source_back number) ∙ lines_said number

-- ---- the start

pub said_counter : (number : ℕ) → counter_past first_counter (said_of number) ≡ after_words (10 + number)
unfolding said_of counter_past counter_after size_of
said_counter number =
    let e : 0 + length (source_words number) ≡ 10 + number = omega (arith, word_count number) in
    words_counter 0 (source_words number) ∙ ap after_words e

said_labels : (number : ℕ) → labels_of (said_of number) ≡ start_label ∷ []
unfolding said_of labels_from counter_after size_of
said_labels number =
    ap (λ (ls : List Label). start_label ∷ ls) (words_unlabelled (after_words 0) (source_words number))

said_untargeted : (number text_length : ℕ) (names : Names) → targets_fault 1 text_length names first_counter (said_of number) ≡ None
unfolding said_of targets_fault target_fault counter_after size_of
said_untargeted number text_length names = words_untargeted 4 text_length names (after_words 0) (source_words number)

start_there : (n : ℕ) → 0 < n → start_of n (names_of (start_label ∷ [])) ≡ Some text_address
unfolding start_of label_named
start_there n l = ap (λ b. cond b (Some text_address) None) (lt-ltb 0 n l)

pub said_start : (number : ℕ) → start_of (text_length_of (said_of number)) (names_in (said_of number)) ≡ Some text_address
said_start number =
    ap₂ (λ (p : LocationCounter) (ls : List Label). start_of p.text_size (names_of ls)) (said_counter number) (said_labels number)
    ∙ start_there (4 * (10 + number)) (omega arith)

-- ---- the source

pub accepted : (number : ℕ) → number ≤ 20000 → asm_fault (source_of number) ≡ None
accepted number l =
    let back = sym (source_said number) in
    no_fault_is (source_of number) (short_enough number l) (is_utf8 number)
    (ap (lines_fault 1 first_counter []) (source_back number) ∙ lines_sound number l) text_address
    (subst (λ (ls : List SourceLine). targets_fault 1 (text_length_of ls) (names_in ls) first_counter ls ≡ None) back
    (said_untargeted number _ _))
    (subst (λ (ls : List SourceLine). start_of (text_length_of ls) (names_in ls) ≡ Some text_address) back (said_start number))
