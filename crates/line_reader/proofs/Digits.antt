-- The steps of the loop over digits, how large a number is, and that a printed number is read back.
use Rattle.std.proofs.Common.{◌≡◌, ℕ, suc, subst, nat_lt, ◌+◌, ◌*◌, ◌^◌, ◌<◌, ◌≤◌, Bool, true, false, not, ◌&&◌, ◌||◌, ◌==◌, List, [], ◌∷◌}
use Rattle.std.proofs.Common.{length, drop, get_or, Option, Some, None, cond, refl, sym, ap, ◌∙◌, arith, lt-ltb, rules, inl, inr}
use Rattle.std.specs.Prelude.{slice_index, decimal}
use Rattle.std.specs.Char.{digit_value, is_ascii_digit}
use Rattle.std.specs.List.{list_all}
use Rattle.std.specs.Str.Parse.{digits_value, digits_value_after}
use Rattle.std.proofs.lemmas.List.{at_drop_more, at_drop_all}
use Rattle.std.proofs.Math.Nat.{mul-le-mul_left}
use Rattle.std.proofs.Math.Nat.{mul-le-mul_right, pow-suc}
use Rattle.std.proofs.lemmas.Bool.{le-ltb, and_parts, and_from, cases_lt, cond-true}
use Rattle.std.proofs.lemmas.Bool.Decides.{nat_tests}
use Rattle.std.proofs.lemmas.Fmt.{digits_decimal, digits_value-decimal, decimal_nonempty, first_decimal, decimal_digit, decimal-digits_value}
use Rattle.std.proofs.lemmas.Str.Parse.{IsNumeralModel, IsDigitsTest, numerals_by_value}
use Rattle.std.specs.Prelude.{IfSome}
use Rattle.line_reader.specs.declared.numbers.Base.TheVariants.{Sixteen}
use Rattle.line_reader.specs.Numbers.{if_fits, is_digit_of, digits_in, has_no_leading_zero, is_decimal, decimal_value, decimal_number}

-- the number of digits that follow a number, if all of them are digits and it fits
abbrev pub read_digits : (ℕ → Bool) → ℕ → ℕ → List ℕ → Option ℕ
read_digits test base n ds = cond (list_all test ds) (if_fits (digits_value_after base n ds)) None

after-ge : (base n : ℕ) (ds : List ℕ) → 1 ≤ base → n ≤ digits_value_after base n ds
after-ge base n [] some = omega arith
after-ge base n (d ∷ ds) some =
    omega (arith, after-ge base (n * base + digit_value d) ds some, mul-le-mul_left n some)

pub digits-more : (test : ℕ → Bool) (base n : ℕ) (xs : List ℕ) (at : ℕ) → at < length xs → test (get_or xs at 0) ≡ true
    → read_digits test base n (drop at xs) ≡ read_digits test base (n * base + digit_value (get_or xs at 0)) (drop (at + 1) xs)
digits-more test base n xs at lt e =
    at_drop_more (read_digits test base n) xs at 0 lt
    ∙ ap (λ b. cond (b && list_all test (drop (at + 1) xs))
    (if_fits (digits_value_after base (n * base + digit_value (get_or xs at 0)) (drop (at + 1) xs))) None) e

pub digits-stop : (test : ℕ → Bool) (base n : ℕ) (xs : List ℕ) (at : ℕ) → at < length xs → test (get_or xs at 0) ≡ false
    → read_digits test base n (drop at xs) ≡ None
digits-stop test base n xs at lt e =
    at_drop_more (read_digits test base n) xs at 0 lt
    ∙ ap (λ b. cond (b && list_all test (drop (at + 1) xs))
    (if_fits (digits_value_after base (n * base + digit_value (get_or xs at 0)) (drop (at + 1) xs))) None) e

if_fits-large : (n : ℕ) → 2 ^ 64 ≤ n → if_fits n ≡ None
if_fits-large n le = ap (λ b. cond b (Some n) None) (le-ltb n (2 ^ 64) le)

none_both : (b : Bool) (o : Option ℕ) → o ≡ None → cond b o None ≡ None
none_both true o e = e
none_both false o e = refl

pub digits-large : (test : ℕ → Bool) (base n : ℕ) (xs : List ℕ) (at : ℕ) → 1 ≤ base → at < length xs → test (get_or xs at 0) ≡ true
    → 2 ^ 64 ≤ n * base + digit_value (get_or xs at 0) → read_digits test base n (drop at xs) ≡ None
digits-large test base n xs at some lt e large =
    digits-more test base n xs at lt e
    ∙ none_both (list_all test (drop (at + 1) xs)) _
    (if_fits-large _ (omega (arith, after-ge base (n * base + digit_value (get_or xs at 0)) (drop (at + 1) xs) some)))

pub digits-end : (test : ℕ → Bool) (base n : ℕ) (xs : List ℕ) (at : ℕ) → n < 2 ^ 64 → length xs ≤ at
    → read_digits test base n (drop at xs) ≡ Some n
digits-end test base n xs at fits le =
    at_drop_all (read_digits test base n) xs at le ∙ ap (λ b. cond b (Some n) None) (lt-ltb n (2 ^ 64) fits)

-- ---- what the test of one digit tells

pub is_no_digit : (b : Bool) (n : ℕ) → ◌≡◌ {A = Option ℕ} None (cond b (Some n) None) → b ≡ false
is_no_digit true n e = cc
is_no_digit false n e = refl

pub is_digit : (b : Bool) (n d : ℕ) → ◌≡◌ {A = Option ℕ} (Some d) (cond b (Some n) None) → (b ≡ true) × (d ≡ n)
is_digit true n d e = (refl, cc)
is_digit false n d e = cc

-- ---- how large the number of hexadecimal digits is

below_16 : (c : ℕ) → is_digit_of Sixteen c ≡ true → digit_value c < 16
below_16 c e = grind (arith, nat_tests)

larger : (n d p v : ℕ) → d < 16 → v < (n * 16 + d + 1) * p → v < (n + 1) * (p * 16)
larger n d p v low l =
    let more : n * 16 + d + 1 ≤ (n + 1) * 16 = omega arith in
    let scaled : (n * 16 + d + 1) * p ≤ (n + 1) * 16 * p = mul-le-mul_right p more in
    omega (arith, scaled)

after-small : (n : ℕ) (ds : List ℕ) → list_all (is_digit_of Sixteen) ds ≡ true → digits_value_after 16 n ds < (n + 1) * 16 ^ length ds
after-small n [] e = omega arith
after-small n (d ∷ ds) e =
    let parts = and_parts (is_digit_of Sixteen d) (list_all (is_digit_of Sixteen) ds) e in
    let more : (n + 1) * 16 ^ suc (length ds) ≡ (n + 1) * (16 ^ length ds * 16) = ap (λ p. (n + 1) * p) (pow-suc 16 (length ds)) in
    subst (λ m. digits_value_after 16 (n * 16 + digit_value d) ds < m) (sym more)
    (larger n (digit_value d) (16 ^ length ds) (digits_value_after 16 (n * 16 + digit_value d) ds) (below_16 d parts.0)
    (after-small (n * 16 + digit_value d) ds parts.1))

-- digits that fit are below the power
fitting : (b : Bool) (n m : ℕ) → n < m → IfSome (cond b (Some n) None) (λ k. k < m)
fitting true n m l = l
fitting false n m l = tt

pub digits-small : (count : ℕ) (ds : List ℕ) (r : Option ℕ) → length ds ≡ count → r ≡ digits_in Sixteen ds → IfSome r (λ n. n < 16 ^ count)
unfolding digits_in
digits-small count ds r e is =
    rw is (elim (list_all (is_digit_of Sixteen) ds) as (λ b. list_all (is_digit_of Sixteen) ds ≡ b
    → IfSome (cond b (if_fits (digits_value_after 16 0 ds)) None) (λ n. n < 16 ^ count)) [
      | true ↦ λ all. fitting (nat_lt (digits_value_after 16 0 ds) (2 ^ 64)) (digits_value_after 16 0 ds) (16 ^ count)
          (rw (sym e) (omega (arith, after-small 0 ds all)))
      | false ↦ λ all. tt
    ] refl)

-- ---- a printed number is read back

digits_test : IsDigitsTest (λ ds. list_all is_ascii_digit ds ≡ true)
digits_test = search rules

own : IsNumeralModel (λ ds. list_all is_ascii_digit ds ≡ true) (digits_value 10)
own = numerals_by_value _ digits_test

no_zero : (ds : List ℕ) → 48 < get_or ds 0 0 → (not (slice_index ds 0 == 48) || (length ds == 1)) ≡ true
no_zero ds l =
    let other : (slice_index ds 0 == 48) ≡ false = grind (arith, nat_tests) in ap (λ b. not b || (length ds == 1)) other

module _ (n : ℕ) (fits : n < 2 ^ 64) where
  leading : (not (slice_index (decimal n) 0 == 48) || (length (decimal n) == 1)) ≡ true
  leading = elim (cases_lt 0 n) [
    | inl some ↦ no_zero (decimal n) (first_decimal n some fits)
    | inr none ↦ (let is : n ≡ 0 = omega arith in
        ap (λ m. not (slice_index (decimal m) 0 == 48) || (length (decimal m) == 1)) is
        ∙ ap (λ ds. not (slice_index ds 0 == 48) || (length ds == 1)) (decimal_digit 0 (omega arith)))
  ]

  pub decimal_digits : list_all is_ascii_digit (decimal n) ≡ true
  decimal_digits = digits_decimal own n fits

  printed : is_decimal (decimal n) ≡ true
  unfolding is_decimal
  printed =
      and_from (has_no_leading_zero (decimal n)) (list_all is_ascii_digit (decimal n))
      (and_from (nat_lt 0 (length (decimal n))) (not (slice_index (decimal n) 0 == 48) || (length (decimal n) == 1))
      (lt-ltb 0 (length (decimal n)) (decimal_nonempty n fits)) leading)
      decimal_digits

  pub decimal_read : decimal_number (decimal n) ≡ Some n
  unfolding decimal_number decimal_value
  decimal_read =
      cond-true (is_decimal (decimal n)) _ None printed
      ∙ ap if_fits (digits_value-decimal own n fits)
      ∙ ap (λ b. cond b (Some n) None) (lt-ltb n (2 ^ 64) fits)

-- ---- a word that is read as a number is the printed number

-- a number that was read, and what it means of the word
pub record IsPrinted (ds : List ℕ) (n : ℕ) : Type 0 where
  pub is : ds ≡ decimal n
  pub fits : n < 2 ^ 64

lone_zero : (ds : List ℕ) → (not (slice_index ds 0 == 48) || (length ds == 1)) ≡ true → get_or ds 0 0 ≡ 48 → length ds ≡ 1
lone_zero ds h e = grind (arith, nat_tests)

fitted_is : (v n : ℕ) → if_fits v ≡ Some n → (v ≡ n) × (v < 2 ^ 64)
fitted_is v n e = elim (nat_lt v (2 ^ 64)) as (λ b. nat_lt v (2 ^ 64) ≡ b
    → ◌≡◌ {A = Option ℕ} (cond b (Some v) None) (Some n) → (v ≡ n) × (v < 2 ^ 64)) [
      | true ↦ λ is h. (cc, grind (arith, nat_tests))
      | false ↦ λ is h. cc
    ] refl e

pub decimal_printed : (ds : List ℕ) (n : ℕ) → decimal_number ds ≡ Some n → IsPrinted ds n
unfolding decimal_number is_decimal decimal_value
decimal_printed ds n e =
    elim (has_no_leading_zero ds && list_all is_ascii_digit ds) as (λ b. (has_no_leading_zero ds && list_all is_ascii_digit ds) ≡ b
    → cond b (if_fits (digits_value 10 ds)) None ≡ Some n → IsPrinted ds n) [
      | true ↦ λ is h.
          let parts = and_parts (has_no_leading_zero ds) (list_all is_ascii_digit ds) is in
          let first = and_parts (nat_lt 0 (length ds)) (not (slice_index ds 0 == 48) || (length ds == 1)) parts.0 in
          let some : 0 < length ds = grind (arith, nat_tests) in
          let fits = fitted_is (digits_value 10 ds) n h in
          record {
            is = sym (decimal-digits_value own ds parts.1 some (lone_zero ds first.1) fits.1) ∙ ap decimal fits.0;
            fits = omega (arith, fits.0, fits.1);
          }
      | false ↦ λ is h. cc
    ] refl e
