-- The values that digits say, and the numbers that names end in.
use Rattle.std.proofs.Common.{◌≡◌, ℕ, ◌^◌, ◌<◌, ◌≤◌, Bool, true, false, cond, nat_lt, ◌==◌, List, [], ◌∷◌, ◌++◌, length, take, drop}
use Rattle.std.proofs.Common.{Option, Some, None, Result, Ok, Err, refl, sym, ap, ◌∙◌, arith, subst, lt-ltb}
use Rattle.std.specs.Prelude.{decimal, option_and_then}
use Rattle.std.specs.Char.{digit_value}
use Rattle.std.specs.List.{list_all}
use Rattle.std.specs.Str.{bytes_eq}
use Rattle.std.specs.Str.Parse.{digits_value, AllDigits}
use Rattle.std.proofs.lemmas.Bool.{and_parts}
use Rattle.std.proofs.lemmas.Bool.Decides.{nat_tests}
use Rattle.std.proofs.lemmas.Int.Digits.{digits_value-lt}
use Rattle.std.proofs.lemmas.List.{take-append-drop}
use Rattle.std.proofs.lemmas.Slice.Eq.{bytes_eq-Decides}
use Rattle.std.proofs.lemmas.Option.{same_Some}
use Rattle.plain_lemmas.proofs.Options.{cond_some_parts}
use Rattle.hex.specs.Hex.{decode_of}
use Rattle.hex.specs.declared.error.FromHexError.{FromHexError}
use Rattle.line_reader.specs.Numbers.{is_digit_of, digits_in, hex_number, is_hex, decimal_number, if_below, number_below}
use Rattle.line_reader.specs.declared.numbers.Base.TheVariants.{Sixteen}
use Rattle.line_reader.proofs.Digits.{decimal_read, decimal_printed}
use Rattle.text_lines.specs.Numbers.{digit}
use Rattle.vector_runner.specs.Grammar.{IsNumber, IsBytes}
use Rattle.vector_runner.specs.Words.{after, number_after, flag_in, if_decoded, bytes_in}

-- ---- hexadecimal digits

below_16 : (c : ℕ) → is_digit_of Sixteen c ≡ true → digit_value c < 16
below_16 c e = grind (arith, nat_tests)

all_digits : (ds : List ℕ) → list_all (is_digit_of Sixteen) ds ≡ true → AllDigits 16 ds
all_digits [] e = tt
all_digits (d ∷ ds) e =
    let parts = and_parts (is_digit_of Sixteen d) (list_all (is_digit_of Sixteen) ds) e in
    (below_16 d parts.0, all_digits ds parts.1)

pub number_read : (count : ℕ) (ds : List ℕ) (n : ℕ) → hex_number count ds ≡ Some n → IsNumber count ds n
unfolding hex_number digits_in is_hex
number_read count ds n e =
    let long = cond_some_parts (length ds == count) _ n e in
    let all = cond_some_parts (list_all (is_digit_of Sixteen) ds) _ n long.1 in
    let fits = cond_some_parts (nat_lt (digits_value 16 ds) (2 ^ 64)) (Some (digits_value 16 ds)) n all.1 in
    record {
      many = (let it : (length ds == count) ≡ true = long.0 in grind (arith, nat_tests));
      hexadecimal = all.0;
      value = same_Some (digits_value 16 ds) n fits.1;
    }

pub number_said : (count : ℕ) (ds : List ℕ) (n : ℕ) → 16 ^ count ≤ 2 ^ 64 → IsNumber count ds n → hex_number count ds ≡ Some n
unfolding hex_number digits_in is_hex
number_said count ds n fits it =
    let low : digits_value 16 ds < 16 ^ length ds = digits_value-lt 16 ds (all_digits ds it.hexadecimal) in
    let less : digits_value 16 ds < 16 ^ count = subst (λ k. digits_value 16 ds < 16 ^ k) it.many low in
    let long : (length ds == count) ≡ true = (let same = it.many in grind (arith, nat_tests)) in
    ap (λ b. cond b (digits_in Sixteen ds) None) long
    ∙ ap (λ b. cond b (cond (nat_lt (digits_value 16 ds) (2 ^ 64)) (Some (digits_value 16 ds)) None) None) it.hexadecimal
    ∙ ap (λ b. cond b (Some (digits_value 16 ds)) None) (lt-ltb (digits_value 16 ds) (2 ^ 64) (omega (arith, less, fits)))
    ∙ ap (λ (m : ℕ). let o : Option ℕ = Some m in o) it.value

pub sixteen_fit : 16 ^ 16 ≤ 2 ^ 64
sixteen_fit = omega arith

pub eight_fit : 16 ^ 8 ≤ 2 ^ 64
eight_fit = omega arith

-- ---- bytes

decoded_is : (r : Result (List ℕ) FromHexError) (bytes : List ℕ) → if_decoded r ≡ Some bytes → r ≡ Ok bytes
decoded_is (Ok them) bytes e = cc
decoded_is (Err fault) bytes e = cc

pub bytes_read : (digits bytes : List ℕ) → bytes_in digits ≡ Some bytes → IsBytes digits bytes
unfolding bytes_in
bytes_read digits bytes e =
    let all = cond_some_parts (is_hex digits) (if_decoded (decode_of digits)) bytes e in
    record { hexadecimal = all.0; value = decoded_is (decode_of digits) bytes all.1 }

pub bytes_said : (digits bytes : List ℕ) → IsBytes digits bytes → bytes_in digits ≡ Some bytes
unfolding bytes_in
bytes_said digits bytes it =
    ap (λ b. cond b (if_decoded (decode_of digits)) None) it.hexadecimal ∙ ap if_decoded it.value

-- ---- flags

pub flag_read : (c : ℕ) (b : Bool) → flag_in c ≡ Some b → c ≡ digit b
unfolding flag_in digit
flag_read c b e =
    elim (c == 48) as (λ t. (c == 48) ≡ t → cond t (Some false) (cond (c == 49) (Some true) None) ≡ Some b → c ≡ digit b) [
      | true ↦ λ is h. (let at : c ≡ 48 = grind (arith, nat_tests) in at ∙ ap digit (same_Some false b h))
      | false ↦ λ is h.
          let next = cond_some_parts (c == 49) (Some true) b h in
          let one : (c == 49) ≡ true = next.0 in
          let at : c ≡ 49 = grind (arith, nat_tests) in
          at ∙ ap digit (same_Some true b next.1)
    ] refl e

pub flag_said : (b : Bool) → flag_in (digit b) ≡ Some b
unfolding flag_in digit
flag_said true = refl
flag_said false = refl

-- ---- the number that a name ends in

below_is : (o : Option ℕ) (n : ℕ) → option_and_then (if_below 256) o ≡ Some n → (o ≡ Some n) × (n < 256)
below_is None n e = cc
below_is (Some m) n e =
    let low = cond_some_parts (nat_lt m 256) (Some m) n e in
    let test : nat_lt m 256 ≡ true = low.0 in
    let same : m ≡ n = same_Some m n low.1 in
    (low.1, grind (arith, nat_tests))

below_read : (ds : List ℕ) (n : ℕ) → number_below 256 ds ≡ Some n → ds ≡ decimal n
unfolding number_below
below_read ds n e = (decimal_printed ds n (below_is (decimal_number ds) n e).0).is

pub below_said : (n : ℕ) → n < 256 → number_below 256 (decimal n) ≡ Some n
unfolding number_below
below_said n l =
    ap (option_and_then (if_below 256)) (decimal_read n (omega arith)) ∙ ap (λ b. cond b (Some n) None) (lt-ltb n 256 l)

-- it begins with these bytes
after_is : (first name rest : List ℕ) → after first name ≡ Some rest → name ≡ first ++ rest
unfolding after
after_is first name rest e =
    let begins = cond_some_parts (bytes_eq (take (length first) name) first) (Some (drop (length first) name)) rest e in
    sym (take-append-drop (length first) name)
    ∙ ap (λ (a : List ℕ). a ++ drop (length first) name) ((bytes_eq-Decides (take (length first) name) first).0 begins.0)
    ∙ ap (λ (b : List ℕ). first ++ b) (same_Some (drop (length first) name) rest begins.1)

after_then : (first name : List ℕ) (o : Option (List ℕ)) (n : ℕ) → ((rest : List ℕ) → o ≡ Some rest → name ≡ first ++ rest)
    → option_and_then (λ digits. number_below 256 digits) o ≡ Some n → name ≡ first ++ decimal n
after_then first name None n begins e = cc
after_then first name (Some rest) n begins e = begins rest refl ∙ ap (λ (b : List ℕ). first ++ b) (below_read rest n e)

pub number_named : (first name : List ℕ) (n : ℕ) → number_after first name ≡ Some n → name ≡ first ++ decimal n
unfolding number_after
number_named first name n e = after_then first name (after first name) n (λ rest h. after_is first name rest h) e
