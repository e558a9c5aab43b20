-- A label is blanks, a name that begins with no digit, and a colon right after it.
use Rattle.std.proofs.Common.{◌≡◌, ◌↔◌, ℕ, zero, suc, ◌+◌, ◌<◌, Bool, true, false, not, ◌&&◌, ◌==◌, List, [], ◌∷◌, ◌++◌, Some, None}
use Rattle.std.proofs.Common.{length, drop, get_or, cond, refl, sym, ap, ap₂, ◌∙◌, subst, arith, eqb-true}
use Rattle.std.specs.List.{list_all}
use Rattle.std.proofs.lemmas.Bool.{and_parts, and_from, not-true, not_from_false, ne_eqb, cond-true, cond-false, cond_both}
use Rattle.std.proofs.lemmas.List.{drop-drop, drop_at, take-append-drop}
use Rattle.std.proofs.lemmas.List.Sums.{take_while-cons}
use Rattle.asm_tokens.specs.Characters.{is_blank, is_digit, is_name_character, front, back}
use Rattle.asm_tokens.specs.Tokens.{run}
use Rattle.asm_tokens.proofs.Naming.{name_no_blank}
use Rattle.asm_tokens.proofs.Steps.{take_front}
use Rattle.asm_parser.specs.Grammar.{IsLabelled}
use Rattle.asm_parser.specs.Lines.{blanks, label_in, has_label, label_of, label_end}
use Rattle.asm_parser.proofs.Reading.{opens, run-whole}

front-blanks : (blanks rest : List ℕ) → list_all is_blank blanks ≡ true → is_blank (get_or rest 0 0) ≡ false
    → front is_blank (blanks ++ rest) ≡ blanks
front-blanks [] [] a o = refl
front-blanks [] (c ∷ cs) a o = take_while-cons is_blank c cs ∙ cond-false (is_blank c) _ _ o
front-blanks (b ∷ blanks) rest a o =
    let p = and_parts (is_blank b) (list_all is_blank blanks) a in
    take_while-cons is_blank b (blanks ++ rest) ∙ cond-true (is_blank b) _ _ p.0 ∙ ap (λ ys. b ∷ ys) (front-blanks blanks rest p.1 o)

-- the bytes in front pass the test
front-all : (test : ℕ → Bool) (xs : List ℕ) → list_all test (front test xs) ≡ true
front-all test [] = refl
front-all test (x ∷ xs) =
    ap (list_all test) (take_while-cons test x xs)
    ∙ cond_both (test x) (x ∷ front test xs) [] (λ ys. list_all test ys ≡ true)
    (λ e. and_from (test x) (list_all test (front test xs)) e (front-all test xs)) (λ _. refl)

-- a text is what stands in front, and the others
front-back : (test : ℕ → Bool) (xs : List ℕ) → xs ≡ front test xs ++ back test xs
front-back test xs =
    sym (take-append-drop (length (front test xs)) xs) ∙ ap (λ ys. ys ++ back test xs) (take_front test xs)

-- the colon at a place, and what follows it
at-colon : (xs : List ℕ) (n : ℕ) → (get_or xs n 0 == 58) ≡ true → drop n xs ≡ 58 ∷ drop (n + 1) xs
at-colon [] n e = cc
at-colon (x ∷ xs) zero e = ap (λ c. c ∷ xs) (eqb-true x 58 e)
at-colon (x ∷ xs) (suc n) e = at-colon xs n e ∙ ap (λ k. 58 ∷ drop k (x ∷ xs)) (let f : suc (n + 1) ≡ suc n + 1 = omega arith in f)

first_is : (name rest : List ℕ) → 0 < length name → get_or (name ++ rest) 0 0 ≡ get_or name 0 0
first_is [] rest lt = absurd (omega arith)
first_is (c ∷ cs) rest lt = refl

first_passes : (test : ℕ → Bool) (name : List ℕ) → 0 < length name → list_all test name ≡ true → test (get_or name 0 0) ≡ true
first_passes test [] lt a = absurd (omega arith)
first_passes test (c ∷ cs) lt a = (and_parts (test c) (list_all test cs) a).0

some_length : (xs : List ℕ) → not (length xs == 0) ≡ true → 0 < length xs
some_length [] e = cc
some_length (x ∷ xs) e = omega arith

has_length : (xs : List ℕ) → 0 < length xs → not (length xs == 0) ≡ true
has_length xs lt = not_from_false _ (ne_eqb (length xs) 0 (λ e. omega arith))

labelled : (text name : List ℕ) → has_label text ≡ true → label_in text ≡ name → IsLabelled name text (drop (label_end text) text)
unfolding has_label label_end blanks
labelled text name e is =
    let others = back is_blank text in
    let p =
    and_parts (not (length (label_in text) == 0) && not (is_digit (get_or (label_in text) 0 0)))
    (get_or others (length (label_in text)) 0 == 58) e in
    let q = and_parts (not (length (label_in text) == 0)) (not (is_digit (get_or (label_in text) 0 0))) p.0 in
    let after = drop (length (label_in text) + 1) others in
    let tail : others ≡ label_in text ++ 58 ∷ after =
    front-back is_name_character others ∙ ap (λ ys. label_in text ++ ys) (at-colon others (length (label_in text)) p.1) in
    let end : drop (label_end text) text ≡ after =
    ap (λ n. drop n text) (cond-true (has_label text) (length (front is_blank text) + length (label_in text) + 1) 0 e
    ∙ (let s : length (front is_blank text) + length (label_in text) + 1 ≡ length (front is_blank text)
    + (length (label_in text) + 1) = omega arith in s))
    ∙ sym (drop-drop (length (label_in text) + 1) (length (front is_blank text)) text) in
    record {
      blanks = front is_blank text;
      are_blank = front-all is_blank text;
      names = subst (λ xs. list_all is_name_character xs ≡ true) is (front-all is_name_character others);
      some_name = subst (λ (xs : List ℕ). 0 < length xs) is (some_length (label_in text) q.0);
      no_digit = subst (λ (xs : List ℕ). is_digit (get_or xs 0 0) ≡ false) is (not-true _ q.1);
      all =
          front-back is_blank text ∙ ap (λ ys. front is_blank text ++ ys)
          (tail ∙ ap (λ ys. label_in text ++ 58 ∷ ys) (sym end) ∙ ap (λ ys. ys ++ 58 ∷ drop (label_end text) text) is);
    }

colon-there : (name rest : List ℕ) → get_or (name ++ 58 ∷ rest) (length name) 0 ≡ 58
colon-there [] rest = refl
colon-there (c ∷ cs) rest = colon-there cs rest

module _ (blank name rest : List ℕ) (are_blank : list_all is_blank blank ≡ true) (names : list_all is_name_character name ≡ true)
    (some_name : 0 < length name) (no_digit : is_digit (get_or name 0 0) ≡ false) where
  abbrev whole : List ℕ
  whole = blank ++ (name ++ 58 ∷ rest)

  front-is : front is_blank whole ≡ blank
  front-is =
      front-blanks blank (name ++ 58 ∷ rest) are_blank
      (ap is_blank (first_is name (58 ∷ rest) some_name)
      ∙ name_no_blank (get_or name 0 0) (first_passes is_name_character name some_name names))

  back-is : back is_blank whole ≡ name ++ 58 ∷ rest
  back-is = ap (λ (ys : List ℕ). drop (length ys) whole) front-is ∙ drop_at blank (name ++ 58 ∷ rest) (length blank) refl

  label-here : label_in whole ≡ name
  unfolding opens is_name_character is_digit
  label-here = ap run back-is ∙ run-whole name (58 ∷ rest) names refl

  has-here : has_label whole ≡ true
  unfolding has_label
  has-here =
      and_from _ _
      (and_from _ _ (ap (λ (ys : List ℕ). not (length ys == 0)) label-here ∙ has_length name some_name)
      (ap (λ ys. not (is_digit (get_or ys 0 0))) label-here ∙ not_from_false _ no_digit))
      (ap₂ (λ ys n. get_or ys n 0 == 58) back-is (ap length label-here) ∙ ap (λ c. c == 58) (colon-there name rest))

  label-said : label_of whole ≡ Some name
  unfolding label_of
  label-said = cond-true (has_label whole) (Some (label_in whole)) None has-here ∙ ap Some label-here

  rest-said : drop (label_end whole) whole ≡ rest
  unfolding label_end blanks
  rest-said =
      let n = length blank in
      let m = length name in
      let end : label_end whole ≡ n + (m + 1) =
      cond-true (has_label whole) (length (front is_blank whole) + length (label_in whole) + 1) 0 has-here
      ∙ ap₂ (λ (xs ys : List ℕ). length xs + length ys + 1) front-is label-here ∙ omega arith in
      ap (λ k. drop k whole) end ∙ sym (drop-drop (m + 1) n whole) ∙ ap (λ xs. drop (m + 1) xs) (drop_at blank (name ++ 58 ∷ rest) n refl)
      ∙ sym (drop-drop 1 m (name ++ 58 ∷ rest))
      ∙ ap (λ xs. drop 1 xs) (drop_at name (58 ∷ rest) m refl)

label_is : (text name : List ℕ) → label_of text ≡ Some name → (has_label text ≡ true) × (label_in text ≡ name)
unfolding label_of
label_is text name e =
    elim (has_label text) as (λ b. has_label text ≡ b → cond b (Some (label_in text)) None ≡ Some name → (has_label text ≡ true)
    × (label_in text ≡ name)) [
      | true ↦ λ is h. (is, (let f = h in cc))
      | false ↦ λ is h. cc
    ] refl e

-- a text has a label, and others after it, exactly where it begins with blanks, the name and a colon
pub label_law : (text name rest : List ℕ) → ((label_of text ≡ Some name) × (drop (label_end text) text ≡ rest)) ↔ IsLabelled name text rest
label_law text name rest = (
  λ h. let p = label_is text name h.0 in subst (IsLabelled name text) h.1 (labelled text name p.0 p.1),
  λ l. (
    ap label_of l.all ∙ label-said l.blanks name rest l.are_blank l.names l.some_name l.no_digit,
    ap (λ xs. drop (label_end xs) xs) l.all ∙ rest-said l.blanks name rest l.are_blank l.names l.some_name l.no_digit,
  ),
)
