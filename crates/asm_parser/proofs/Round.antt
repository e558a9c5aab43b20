-- The text of a word is read as that word.
use Rattle.std.proofs.Common.{◌≡◌, ℕ, ◌+◌, ◌^◌, ◌<◌, Bool, true, false, not, ◌&&◌, ◌||◌, ◌==◌, List, [], ◌∷◌, ◌++◌, Some, None, Ok, length}
use Rattle.std.proofs.Common.{drop, get_or, cond, refl, sym, ap, ◌∙◌, arith, length-append}
use Rattle.std.specs.List.{list_all, find}
use Rattle.std.proofs.lemmas.Bool.{and_parts, and_right, not-true, cond-false}
use Rattle.std.proofs.lemmas.List.{drop_at, get_or-drop}
use Rattle.std.proofs.lemmas.List.Sums.{take_while-cons}
use Rattle.sm_types.specs.declared.insn.Insn.{Insn}
use Rattle.a64_encode.specs.Either.{instruction_of}
use Rattle.a64_encode.specs.Either.{MeansEither}
use Rattle.a64_encode.proofs.Either.{either, is_word}
use Rattle.insn_text.specs.declared.item.Kind.TheVariants as kind
use Rattle.insn_text.specs.declared.item.Item.{Item}
use Rattle.insn_text.specs.declared.item.Shape.{Shape}
use Rattle.insn_text.specs.declared.shapes.TheConstants.{SHAPES}
use Rattle.insn_text.specs.declared.keywords.TheConstants.{MNEMONICS}
use Rattle.insn_text.specs.Texts.{text_at, is_comma, gap, items_text, items_of, shape_text, text_of_shape, text_of, prints, printed_shape}
use Rattle.insn_text.specs.Rules.{IsPrinted}
use Rattle.insn_text.proofs.AllPrinted.{all_printed}
use Rattle.asm_tokens.specs.Characters.{is_name_character, is_digit, is_blank, front, characters, column_at, starts_comment, before_comment}
use Rattle.asm_tokens.specs.Tokens.{run, index_in, lexemes_of}
use Rattle.asm_tokens.proofs.Naming.{name_no_blank}
use Rattle.asm_operands.specs.Operands.{operands_said}
use Rattle.asm_operands.specs.Shown.{tokens_shown}
use Rattle.asm_operands.proofs.OwnWord.{own-mnemonic, own-said}
use Rattle.asm_operands.proofs.MaskFields.{all_below-at}
use Rattle.asm_parser.specs.Statements.{Codes, Instruction}
use Rattle.asm_parser.specs.Lines.{label_of, label_end, directive_of, instruction_says, tokens_say, line_of}
use Rattle.asm_parser.specs.Told.{lexemes_from, said_from}
use Rattle.asm_parser.proofs.Labels.{label-none, line-ok}
use Rattle.asm_parser.proofs.Names.{undotted, named-instruction}
use Rattle.asm_parser.proofs.Operands.{tokens_of, all-ok}
use Rattle.asm_parser.proofs.Reading.{opens, names_no_slash, run-whole, is_plain, plain-names, plain-begins}
use Rattle.asm_parser.proofs.Registers.{finds, finds-true}
use Rattle.asm_parser.proofs.Printed.{is_good_name, names_good, is_clean_item, are_slashes_apart, is_clean_shape, shapes_clean}
use Rattle.asm_parser.proofs.Printed.{items-read, is_uncommented, uncommented-append, items-uncommented}

-- ---- the shape

found_passes : (p q : Shape → Bool) (ss : List Shape) (s : Shape) → list_all q ss ≡ true → find p ss ≡ Some s → (p s ≡ true) × (q s ≡ true)
found_passes p q [] s a e = cc
found_passes p q (r ∷ ss) s a e =
    let b = and_parts (q r) (list_all q ss) a in
    elim (p r) as (λ t. p r ≡ t → cond t (Some r) (find p ss) ≡ Some s → (p s ≡ true) × (q s ≡ true)) [
      | true ↦ λ is h. let same : r ≡ s = cc in (ap p (sym same) ∙ is, ap q (sym same) ∙ b.0)
      | false ↦ λ is h. found_passes p q ss s b.1 h
    ] refl e

-- the operands of the shape in which a word is printed are clean, and no `/` follows another
clean_found : (word : ℕ) (s : Shape) → printed_shape word ≡ Some s
    → (list_all is_clean_item (items_of s) ≡ true) × (are_slashes_apart (kind.Punctuation 44) (items_of s) ≡ true)
unfolding printed_shape prints is_clean_shape
clean_found word s e =
    let f = found_passes (prints word) is_clean_shape SHAPES s shapes_clean e in
    let plain : s.alias ≡ false = not-true s.alias (and_parts (not s.alias) _ f.0).0 in
    let clean : (list_all is_clean_item (items_of s) && are_slashes_apart (kind.Punctuation 44) (items_of s)) ≡ true =
    ap (λ a. a || (list_all is_clean_item (items_of s) && are_slashes_apart (kind.Punctuation 44) (items_of s))) (sym plain) ∙ f.1 in
    and_parts (list_all is_clean_item (items_of s)) (are_slashes_apart (kind.Punctuation 44) (items_of s)) clean

-- ---- texts that a name begins

no_comment : (xs : List ℕ) → is_uncommented xs ≡ true → before_comment xs ≡ xs
unfolding before_comment is_uncommented
no_comment [] e = refl
no_comment (c ∷ cs) e =
    let p = and_parts (not (starts_comment c cs)) (is_uncommented cs) e in
    cond-false (starts_comment c cs) _ _ (not-true (starts_comment c cs) p.0) ∙ ap (λ ys. c ∷ ys) (no_comment cs p.1)

plain_some : (xs : List ℕ) → is_plain xs ≡ true → 0 < length xs
unfolding is_plain
plain_some [] e = cc
plain_some (c ∷ cs) e = omega arith

plain_undotted : (xs : List ℕ) → is_plain xs ≡ true → (get_or xs 0 0 == 46) ≡ false
unfolding is_plain
plain_undotted [] e = refl
plain_undotted (c ∷ cs) e = not-true (c == 46) (and_parts (list_all is_name_character (c ∷ cs) && not (is_digit c)) (not (c == 46)) e).1

no_blank_first : (xs rest : List ℕ) → is_plain xs ≡ true → length (front is_blank (xs ++ rest)) ≡ 0
unfolding is_plain
no_blank_first [] rest e = cc
no_blank_first (c ∷ cs) rest e =
    let name = (and_parts (is_name_character c) (list_all is_name_character cs) (plain-names (c ∷ cs) e)).0 in
    ap length (take_while-cons is_blank c (cs ++ rest) ∙ cond-false (is_blank c) _ _ (name_no_blank c name))

module _ (name rest : List ℕ) (plain : is_plain name ≡ true) (o : opens rest ≡ true) where
  abbrev text : List ℕ
  text = name ++ rest

  text-some : 0 < length text
  text-some = omega (arith, plain_some name plain, length-append name rest)

  run-name : run (drop 0 text) ≡ name
  run-name = run-whole name rest (plain-names name plain) o

  no_blanks : 0 ≡ 0 + length (front is_blank (drop 0 text))
  no_blanks = omega (arith, no_blank_first name rest plain)

  -- no colon stands after the name
  no-label : (get_or rest 0 0 == 58) ≡ false → (None ≡ label_of text) × (0 ≡ label_end text)
  no-label e =
      let n = length name in
      let sum : n ≡ n + 0 = omega arith in
      let after : get_or text n 0 ≡ get_or rest 0 0 =
      ap (λ k. get_or text k 0) sum ∙ sym (get_or-drop n text 0 0) ∙ ap (λ ys. get_or ys 0 0) (drop_at name rest n refl) in
      label-none text 0 n name no_blanks (sym run-name) (omega arith) (and_right _ _ (ap (λ k. k == 58) after ∙ e))

-- ---- the text of a word

instruction_is : (word : ℕ) (it : Insn) → MeansEither word it → (word < 2 ^ 32) × (instruction_of word ≡ Some it)
instruction_is word it m = let lt = is_word word it m in (lt, (either word it lt).1 m)

rest-opens : (word : ℕ) (is : List Item) → opens (items_text word (kind.Punctuation 44) is) ≡ true
unfolding items_text opens gap is_comma is_name_character is_digit
rest-opens word [] = refl
rest-opens word (i ∷ is) = refl

rest-colon : (word : ℕ) (is : List Item) → (get_or (items_text word (kind.Punctuation 44) is) 0 0 == 58) ≡ false
unfolding items_text gap is_comma
rest-colon word [] = refl
rest-colon word (i ∷ is) = refl

module _ (word : ℕ) (it : Insn) (lt : word < 2 ^ 32) (p : IsPrinted word) (means : instruction_of word ≡ Some it) where
  abbrev index : ℕ
  index = p.shape.mnemonic

  abbrev name : List ℕ
  name = text_at MNEMONICS index

  abbrev is : List Item
  is = items_of p.shape

  abbrev rest : List ℕ
  rest = items_text word (kind.Punctuation 44) is

  abbrev line : List ℕ
  line = name ++ rest

  clean : (list_all is_clean_item is ≡ true) × (are_slashes_apart (kind.Punctuation 44) is ≡ true)
  clean = clean_found word p.shape p.found

  good : (is_plain name ≡ true) × (index_in MNEMONICS name ≡ Some index)
  unfolding is_good_name
  good =
      let q =
      and_parts (is_plain name) (finds index (index_in MNEMONICS name))
      (all_below-at is_good_name (length MNEMONICS) index names_good (own-mnemonic word p)) in
      (q.0, finds-true index _ q.1)

  opens-rest : opens rest ≡ true
  opens-rest = rest-opens word is

  tokens-shown : tokens_of (lexemes_from line (length name)) ≡ tokens_shown p.shape word
  unfolding tokens_shown
  tokens-shown =
      ap (λ ys. tokens_of (lexemes_of (length name) ys)) (drop_at name rest (length name) refl)
      ∙ items-read word is (kind.Punctuation 44) (length name) clean.0 p.sayable

  whole : line ≡ before_comment line
  whole =
      sym (no_comment line (uncommented-append name rest (names_no_slash name (plain-names name good.0))
      (items-uncommented word is (kind.Punctuation 44) clean.0 p.sayable clean.1)))

  first-word : run (drop 0 line) ≡ name
  first-word = run-name name rest good.0 opens-rest

  said : said_from (tokens_say line) line 0 ≡ Ok (Codes (Instruction word None) 1)
  unfolding column_at characters
  said =
      let size : 0 + length (run (drop 0 line)) ≡ length name = omega (arith, ap length first-word) in
      named-instruction line line 0 whole (text-some name rest good.0 opens-rest) (plain-begins name rest good.0) index
      (sym (ap directive_of first-word ∙ undotted name (plain_undotted name good.0))) (sym (ap (index_in MNEMONICS) first-word ∙ good.1))
      ∙ ap (λ n. said_from (instruction_says line index (column_at line 0)) line n) size
      ∙ all-ok line line (length name) index (column_at line 0) word None
      (sym (own-said word it lt p means) ∙ ap (operands_said index) (sym tokens-shown))

  line-said : line_of line ≡ Ok (record { label = None; says = Codes (Instruction word None) 1 })
  line-said =
      let labels = no-label name rest good.0 opens-rest (rest-colon word is) in
      line-ok line line None 0 whole labels.0 labels.1 (Codes (Instruction word None) 1) said

-- the word of an instruction is read from the text in which it is printed
pub round : (word : ℕ) (it : Insn) → MeansEither word it
    → line_of (text_of word) ≡ Ok (record { label = None; says = Codes (Instruction word None) 1 })
unfolding text_of text_of_shape shape_text
round word it m =
    let w = instruction_is word it m in
    let p = all_printed word it m in
    ap (λ o. line_of (text_of_shape word o)) p.found ∙ line-said word it w.0 p w.1
