-- A register of vectors, predicates or ZA is read as it is printed.
use Rattle.std.proofs.Common.{◌≡◌, ℕ, ◌^◌, ◌<◌, ◌≤◌, Bool, true, false, not, ◌&&◌, ◌==◌, List, [], ◌∷◌, ◌++◌, Option, Some, None, length}
use Rattle.std.proofs.Common.{drop, get_or, refl, ap, ap₂, ◌∙◌, arith, eqb-true, eq-eqb, lt-ltb, ltb-true}
use Rattle.std.specs.Prelude.{decimal}
use Rattle.std.specs.List.{list_all}
use Rattle.std.proofs.lemmas.Bool.{and_parts, and_from, not-true, not_from_false, ne_eqb, cond-true, cond-false}
use Rattle.std.proofs.lemmas.List.Folds.{list_all-append}
use Rattle.std.proofs.lemmas.Fmt.{decimal_nonempty}
use Rattle.std.proofs.lemmas.List.{drop_at}
use Rattle.std.proofs.lemmas.List.Sums.{take_while-cons}
use Rattle.insn_text.specs.declared.item.VectorFile.{VectorFile}
use Rattle.insn_text.specs.declared.item.VectorFile.TheVariants.{Z, P, B, H, S, D, Za}
use Rattle.insn_text.specs.declared.keywords.TheConstants.{KEYWORDS, SUFFIXES}
use Rattle.insn_text.specs.Texts.{text_in, text_at, vector_file_text, sized_text}
use Rattle.line_reader.specs.Numbers.{decimal_number}
use Rattle.line_reader.proofs.Digits.{decimal_read}
use Rattle.asm_tokens.specs.declared.token.Token.TheVariants.{Sized}
use Rattle.asm_tokens.specs.Characters.{is_name_character, is_digit, front, back}
use Rattle.asm_tokens.specs.Tokens.{name_token, token_or, file_of, register_of, register_in, token_of_name, index_in}
use Rattle.asm_tokens.specs.Tokens.{vector_file_of, file_size, has_suffix, sized_of, sized_after, begins_za, sized_in}
use Rattle.asm_operands.proofs.MaskFields.{all_below, all_below-at}
use Rattle.asm_parser.proofs.Numerals.{decimal-names, decimal-digits, no_letter}
use Rattle.asm_parser.proofs.Reading.{opens, IsRead, is_plain, name-is-read, first_of}

-- ---- suffixes

unfoldable pub finds : ℕ → Option ℕ → Bool
finds k None = false
finds k (Some j) = j == k

pub finds-true : (k : ℕ) (o : Option ℕ) → finds k o ≡ true → o ≡ Some k
unfolding finds
finds-true k None e = cc
finds-true k (Some j) e = ap Some (eqb-true j k e)

-- no digit stands first
unfoldable is_undigited : List ℕ → Bool
is_undigited [] = true
is_undigited (c ∷ cs) = not (is_digit c)

-- the suffix stands at its place alone, and is characters of names, no digit first
unfoldable is_good_suffix : ℕ → Bool
is_good_suffix index =
    finds index (index_in SUFFIXES (text_at SUFFIXES index))
    && (list_all is_name_character (text_at SUFFIXES index) && is_undigited (text_at SUFFIXES index))

suffixes_good : all_below is_good_suffix 16 ≡ true
unfolding all_below is_good_suffix finds is_undigited index_in text_in is_name_character is_digit
suffixes_good = refl

record IsSuffix (index : ℕ) : Type 0 where
  found : index_in SUFFIXES (text_at SUFFIXES index) ≡ Some index
  names : list_all is_name_character (text_at SUFFIXES index) ≡ true
  undigited : is_undigited (text_at SUFFIXES index) ≡ true

suffix_at : (index : ℕ) → index < 16 → IsSuffix index
unfolding is_good_suffix
suffix_at index lt =
    let text = text_at SUFFIXES index in
    let p =
    and_parts (finds index (index_in SUFFIXES text)) (list_all is_name_character text && is_undigited text)
    (all_below-at is_good_suffix 16 index suffixes_good lt) in
    let q = and_parts (list_all is_name_character text) (is_undigited text) p.1 in
    record { found = finds-true index _ p.0; names = q.0; undigited = q.1 }

-- a file that has two suffixes has those between them
pub suffix_between : (file : VectorFile) (low high k : ℕ) → has_suffix file low ≡ true → has_suffix file high ≡ true → low ≤ k → k ≤ high
    → has_suffix file k ≡ true
unfolding has_suffix
suffix_between Z low high k a b l h = let less = ltb-true high 6 b in lt-ltb k 6 (omega arith)
suffix_between P low high k a b l h = let less = ltb-true high 5 b in lt-ltb k 5 (omega arith)
suffix_between Za low high k a b l h = not_from_false _ (ne_eqb k 0 (λ e. zero_first low (not-true _ a) (omega arith)))
  where
    zero_first : (n : ℕ) → (n == 0) ≡ false → n ≡ 0 → ⊥
    zero_first n f e = let g = eq-eqb n 0 e in cc
suffix_between B low high k a b l h = let last = eqb-true high 0 b in eq-eqb k 0 (omega arith)
suffix_between H low high k a b l h = let last = eqb-true high 0 b in eq-eqb k 0 (omega arith)
suffix_between S low high k a b l h = let last = eqb-true high 0 b in eq-eqb k 0 (omega arith)
suffix_between D low high k a b l h = let last = eqb-true high 0 b in eq-eqb k 0 (omega arith)

file_small : (file : VectorFile) (n : ℕ) → n < file_size file → n < 2 ^ 64
unfolding file_size
file_small Z n lt = omega arith
file_small P n lt = omega arith
file_small B n lt = omega arith
file_small H n lt = omega arith
file_small S n lt = omega arith
file_small D n lt = omega arith
file_small Za n lt = omega arith

-- ---- the number and the suffix behind the letters

digits-front : (ds rest : List ℕ) → list_all is_digit ds ≡ true → is_undigited rest ≡ true → front is_digit (ds ++ rest) ≡ ds
unfolding is_undigited
digits-front [] [] a o = refl
digits-front [] (c ∷ cs) a o = take_while-cons is_digit c cs ∙ cond-false (is_digit c) _ _ (not-true _ o)
digits-front (d ∷ ds) rest a o =
    let p = and_parts (is_digit d) (list_all is_digit ds) a in
    take_while-cons is_digit d (ds ++ rest) ∙ cond-true (is_digit d) _ _ p.0 ∙ ap (λ ys. d ∷ ys) (digits-front ds rest p.1 o)

module _ (file : VectorFile) (n k : ℕ) (few : n < file_size file) (has : has_suffix file k ≡ true) (lt : k < 16) where
  abbrev suffix : List ℕ
  suffix = text_at SUFFIXES k

  abbrev behind : List ℕ
  behind = decimal n ++ suffix

  small : n < 2 ^ 64
  small = file_small file n few

  behind-front : front is_digit behind ≡ decimal n
  behind-front = digits-front (decimal n) suffix (decimal-digits n small) (suffix_at k lt).undigited

  behind-back : back is_digit behind ≡ suffix
  behind-back = ap (λ ds. drop (length ds) behind) behind-front ∙ drop_at (decimal n) suffix (length (decimal n)) refl

  behind-names : list_all is_name_character behind ≡ true
  behind-names =
      list_all-append is_name_character (decimal n) suffix
      ∙ and_from (list_all is_name_character (decimal n)) (list_all is_name_character suffix) (decimal-names n small) (suffix_at k lt).names

  -- a digit stands first, and no letter
  behind-first : (get_or behind 0 0 == 97) ≡ false
  behind-first = ap (λ c. c == 97) (first_of (decimal n) suffix (decimal_nonempty n small)) ∙ no_letter n small

  after : sized_after (Some file) behind ≡ Some (Sized file n k)
  unfolding sized_after sized_of
  after =
      ap₂ (λ ds ss. sized_of file (decimal_number ds) (index_in SUFFIXES ss)) behind-front behind-back
      ∙ ap₂ (sized_of file) (decimal_read n small) (suffix_at k lt).found
      ∙ cond-true _ (Some (Sized file n k)) None (and_from _ _ (lt-ltb n (file_size file) few) has)

-- ---- the name

-- the letters of no file are those of a general register
unregistered : (file : VectorFile) (cs : List ℕ) → register_in (vector_file_text file ++ cs) ≡ None
unfolding vector_file_text register_in file_of register_of
unregistered Z cs = refl
unregistered P cs = refl
unregistered B cs = refl
unregistered H cs = refl
unregistered S cs = refl
unregistered D cs = refl
unregistered Za cs = refl

sized-name : (file : VectorFile) (n k : ℕ) → n < file_size file → has_suffix file k ≡ true → k < 16
    → sized_in (sized_text file n k) ≡ Some (Sized file n k)
unfolding sized_text vector_file_text sized_in begins_za vector_file_of
sized-name Z n k few has lt = cond-false _ _ _ (behind-first Z n k few has lt) ∙ after Z n k few has lt
sized-name P n k few has lt = after P n k few has lt
sized-name B n k few has lt = after B n k few has lt
sized-name H n k few has lt = after H n k few has lt
sized-name S n k few has lt = after S n k few has lt
sized-name D n k few has lt = after D n k few has lt
sized-name Za n k few has lt = after Za n k few has lt

sized-token : (file : VectorFile) (n k : ℕ) → n < file_size file → has_suffix file k ≡ true → k < 16
    → token_of_name (sized_text file n k) ≡ Sized file n k
unfolding token_of_name sized_text
sized-token file n k few has lt =
    let text = sized_text file n k in
    let name = name_token (index_in KEYWORDS text) in
    ap (token_or (token_or name (sized_in text))) (unregistered file (decimal n ++ text_at SUFFIXES k))
    ∙ ap (token_or name) (sized-name file n k few has lt)

sized-plain : (file : VectorFile) (n k : ℕ) → n < file_size file → has_suffix file k ≡ true → k < 16
    → is_plain (sized_text file n k) ≡ true
unfolding is_plain sized_text vector_file_text is_name_character is_digit
sized-plain Z n k few has lt = ap (λ b. b && true && true) (behind-names Z n k few has lt)
sized-plain P n k few has lt = ap (λ b. b && true && true) (behind-names P n k few has lt)
sized-plain B n k few has lt = ap (λ b. b && true && true) (behind-names B n k few has lt)
sized-plain H n k few has lt = ap (λ b. b && true && true) (behind-names H n k few has lt)
sized-plain S n k few has lt = ap (λ b. b && true && true) (behind-names S n k few has lt)
sized-plain D n k few has lt = ap (λ b. b && true && true) (behind-names D n k few has lt)
sized-plain Za n k few has lt = ap (λ b. b && true && true) (behind-names Za n k few has lt)

pub sized-is-read : (file : VectorFile) (n k : ℕ) (rest : List ℕ) → n < file_size file → has_suffix file k ≡ true → k < 16
    → opens rest ≡ true → IsRead false (sized_text file n k) rest (Sized file n k)
sized-is-read file n k rest few has lt o =
    name-is-read (sized_text file n k) rest (Sized file n k) (sized-plain file n k few has lt) (sized-token file n k few has lt) o
