-- Numbers are read as they are printed.
use Rattle.std.proofs.Common.{◌≡◌, ℕ, ◌^◌, ◌<◌, ◌≤◌, Bool, true, false, ◌==◌, nat_lt, List, [], ◌∷◌, Some, None, length, get_or, refl, ap}
use Rattle.std.proofs.Common.{◌∙◌, arith, subst, lt-ltb, lit≤}
use Rattle.std.specs.Prelude.{decimal}
use Rattle.std.specs.Char.{digit_value}
use Rattle.std.specs.Fmt.{digits}
use Rattle.std.specs.List.{list_all}
use Rattle.std.specs.Str.Parse.{AllDigits, IsNumeral, digits_value}
use Rattle.std.proofs.lemmas.Bool.{and_from, and_right, cond-true, cond-false, ne_eqb}
use Rattle.std.proofs.lemmas.Bool.Decides.{nat_tests}
use Rattle.std.proofs.lemmas.Fmt.{digits_is_IsNumeral, decimal_is_IsNumeral}
use Rattle.line_reader.specs.Numbers.{is_digit_of, if_fits, digits_in}
use Rattle.line_reader.specs.declared.numbers.Base.TheVariants.{SixteenAnyCase}
use Rattle.line_reader.proofs.Digits.{decimal_digits, decimal_read}
use Rattle.asm_tokens.specs.Characters.{is_digit, is_name_character}
use Rattle.asm_tokens.specs.Numbers.{hexadecimal_number, begins_hexadecimal, number_in}

-- ---- digits

hex_digit_is : (c : ℕ) → digit_value c < 16 → is_digit_of SixteenAnyCase c ≡ true
hex_digit_is c lt = grind (arith, nat_tests)

digit_name : (c : ℕ) → digit_value c < 16 → is_name_character c ≡ true
unfolding is_name_character is_digit
digit_name c lt = grind (arith, nat_tests)

module _ (base : ℕ) (test : ℕ → Bool) (passes : (c : ℕ) → digit_value c < base → test c ≡ true) where
  all_pass : (ds : List ℕ) → AllDigits base ds → list_all test ds ≡ true
  all_pass [] a = refl
  all_pass (c ∷ cs) a = and_from (test c) (list_all test cs) (passes c a.0) (all_pass cs a.1)

-- ---- in decimal

no_x : (ds : List ℕ) → AllDigits 10 ds → (get_or ds 1 0 == 120) ≡ false
no_x [] a = refl
no_x (c ∷ []) a = refl
no_x (c ∷ d ∷ ds) a = ne_eqb d 120 (λ e. let h : digit_value 120 < 10 = subst (λ x. digit_value x < 10) e a.1.0 in omega arith)

first_is_no : (c : ℕ) → 10 ≤ digit_value c → (ds : List ℕ) → 0 < length ds → AllDigits 10 ds → (get_or ds 0 0 == c) ≡ false
first_is_no c large [] some a = absurd (omega arith)
first_is_no c large (d ∷ ds) some a =
    ne_eqb d c (λ e. let h : digit_value c < 10 = subst (λ x. digit_value x < 10) e a.0 in omega (arith, h, large))

module _ (n : ℕ) (lt : n < 2 ^ 64) where
  numeral : IsNumeral 10 (decimal n) × (digits_value 10 (decimal n) ≡ n)
  numeral = decimal_is_IsNumeral n lt

  pub decimal-names : list_all is_name_character (decimal n) ≡ true
  decimal-names = all_pass 10 is_name_character (λ c h. digit_name c (omega arith)) (decimal n) numeral.0.1

  pub decimal-digits : list_all is_digit (decimal n) ≡ true
  unfolding is_digit
  decimal-digits = decimal_digits n lt

  pub number-read : number_in (decimal n) ≡ Some n
  unfolding number_in begins_hexadecimal
  number-read = cond-false _ _ _ (and_right _ _ (no_x (decimal n) numeral.0.1)) ∙ decimal_read n lt

  -- the first digit is no letter
  pub no_letter : (get_or (decimal n) 0 0 == 97) ≡ false
  no_letter = first_is_no 97 (lit≤ tt) (decimal n) numeral.0.0 numeral.0.1

  -- the first digit is no minus
  pub no_minus : (get_or (decimal n) 0 0 == 45) ≡ false
  no_minus = first_is_no 45 (lit≤ tt) (decimal n) numeral.0.0 numeral.0.1

-- ---- in hexadecimal

module _ (n : ℕ) (lt : n < 2 ^ 64) where
  hex_numeral : IsNumeral 16 (digits 16 false n) × (digits_value 16 (digits 16 false n) ≡ n)
  hex_numeral = digits_is_IsNumeral 16 false (lit≤ tt) (lit≤ tt) n (omega arith)

  pub hexadecimal-read : hexadecimal_number (digits 16 false n) ≡ Some n
  unfolding hexadecimal_number digits_in
  hexadecimal-read =
      cond-true _ _ None (lt-ltb 0 (length (digits 16 false n)) hex_numeral.0.0)
      ∙ cond-true _ _ None (all_pass 16 (is_digit_of SixteenAnyCase) hex_digit_is (digits 16 false n) hex_numeral.0.1)
      ∙ ap if_fits hex_numeral.1 ∙ cond-true (nat_lt n (2 ^ 64)) (Some n) None (lt-ltb n (2 ^ 64) lt)

  pub hexadecimal-names : list_all is_name_character (digits 16 false n) ≡ true
  hexadecimal-names = all_pass 16 is_name_character digit_name (digits 16 false n) hex_numeral.0.1
