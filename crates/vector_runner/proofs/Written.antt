-- The text of a field that a state has is read as that field.
use Rattle.std.proofs.Common.{◌≡◌, ℕ, suc, ◌+◌, ◌<◌, ◌≤◌, Bool, true, cond, not, nat_lt, List, [], ◌∷◌, ◌++◌}
use Rattle.std.proofs.Common.{length, take, drop, Some, None, refl, ap, ◌∙◌, arith, lt-ltb}
use Rattle.std.specs.Prelude.{codes, decimal, option_map, option_and_then}
use Rattle.std.specs.Char.{is_ascii_digit}
use Rattle.std.specs.List.{list_all, position, position_or_len}
use Rattle.std.specs.Option.{option_or}
use Rattle.std.proofs.lemmas.Bool.{and_parts, and_from}
use Rattle.std.proofs.lemmas.Bool.Decides.{nat_tests}
use Rattle.plain_lemmas.proofs.Tests.{and-false}
use Rattle.line_reader.specs.Numbers.{number_below, decimal_number, is_decimal, has_no_leading_zero, if_fits, if_below, decimal_value}
use Rattle.line_reader.proofs.Digits.{decimal_digits}
use Rattle.sm_types.specs.declared.length.VecLen.{VecLen}
use Rattle.sm_types.specs.declared.length.VecLen.TheVariants.{Bits128, Bits256, Bits512, Bits1024, Bits2048}
use Rattle.sve_vectors.specs.Lengths.{vector_bytes}
use Rattle.vector_runner.specs.declared.vector.Modes.{Modes}
use Rattle.vector_runner.specs.declared.words.Key.{Key}
use Rattle.vector_runner.specs.declared.words.Key.TheVariants as key
use Rattle.vector_runner.specs.Field.{Field, X, Sp, Nzcv, Tpidr, Tpidr2, Svcr, Z, P, Ffr, Za, M, name_of, fits}
use Rattle.vector_runner.specs.Grammar.{IsValue, IsWordOf}
use Rattle.vector_runner.specs.Words.{single_key, numbered_key, number_after, after, key_in, flags_in, svcr_in, field_of, field_with, field_in}
use Rattle.vector_runner.proofs.Values.{number_said, sixteen_fit, bytes_said, below_said}
use Rattle.vector_runner.proofs.Names.{flags_said, svcr_said, is_equals}

-- ---- the number of a register

-- the names of such fields end in a number that is read
abbrev pub HasNumber : Field → Type 0
HasNumber (X n value) = n < 256
HasNumber (Sp value) = Unit {0}
HasNumber (Nzcv n z c v) = Unit {0}
HasNumber (Tpidr value) = Unit {0}
HasNumber (Tpidr2 value) = Unit {0}
HasNumber (Svcr streaming za_on) = Unit {0}
HasNumber (Z n bytes) = n < 256
HasNumber (P n bytes) = n < 256
HasNumber (Ffr bytes) = Unit {0}
HasNumber (Za n bytes) = n < 256
HasNumber (M bytes) = Unit {0}

few_vectors : (svl : VecLen) → vector_bytes svl ≤ 256
few_vectors Bits128 = omega arith
few_vectors Bits256 = omega arith
few_vectors Bits512 = omega arith
few_vectors Bits1024 = omega arith
few_vectors Bits2048 = omega arith

below : (n most : ℕ) → nat_lt n most ≡ true → most ≤ 256 → n < 256
below n most e le = grind (arith, nat_tests)

pub has_number : (vl svl : VecLen) (modes : Modes) (f : Field) → fits vl svl modes f ≡ true → HasNumber f
unfolding fits
has_number vl svl modes (X n value) e = below n 31 e (omega arith)
has_number vl svl modes (Sp value) e = tt
has_number vl svl modes (Nzcv n z c v) e = tt
has_number vl svl modes (Tpidr value) e = tt
has_number vl svl modes (Tpidr2 value) e = tt
has_number vl svl modes (Svcr streaming za_on) e = tt
has_number vl svl modes (Z n bytes) e = below n 32 (and_parts (nat_lt n 32) _ e).0 (omega arith)
has_number vl svl modes (P n bytes) e = below n 16 (and_parts (nat_lt n 16) _ e).0 (omega arith)
has_number vl svl modes (Ffr bytes) e = tt
has_number vl svl modes (Za n bytes) e =
    below n (vector_bytes svl) (and_parts (nat_lt n (vector_bytes svl)) _ (and_parts modes.za_on _ e).1).0 (few_vectors svl)
has_number vl svl modes (M bytes) e = tt

-- ---- the name

abbrev key_of : Field → Key
key_of (X n value) = key.X n
key_of (Sp value) = key.Sp
key_of (Nzcv n z c v) = key.Nzcv
key_of (Tpidr value) = key.Tpidr
key_of (Tpidr2 value) = key.Tpidr2
key_of (Svcr streaming za_on) = key.Svcr
key_of (Z n bytes) = key.Z n
key_of (P n bytes) = key.P n
key_of (Ffr bytes) = key.Ffr
key_of (Za n bytes) = key.Za n
key_of (M bytes) = key.M

-- what begins with a letter (97) is no number
no_number : (ds : List ℕ) → number_below 256 (97 ∷ ds) ≡ None
unfolding number_below decimal_number is_decimal
no_number ds =
    ap (λ b. option_and_then (if_below 256) (cond b (if_fits (decimal_value (97 ∷ ds))) None)) (and-false (has_no_leading_zero (97 ∷ ds)))

x_said : (n : ℕ) → n < 256 → key_in (codes "x" ++ decimal n) ≡ Some (key.X n)
unfolding key_in single_key numbered_key number_after after
x_said n l = ap (λ o. option_or (option_map (λ k. key.X k) o) None) (below_said n l)

z_said : (n : ℕ) → n < 256 → key_in (codes "z" ++ decimal n) ≡ Some (key.Z n)
unfolding key_in single_key numbered_key number_after after
z_said n l =
    ap (λ o. option_or (option_map (λ k. key.Z k) o) (option_map (λ k. key.Za k) (number_after (codes "za") (codes "z" ++ decimal n))))
    (below_said n l)

p_said : (n : ℕ) → n < 256 → key_in (codes "p" ++ decimal n) ≡ Some (key.P n)
unfolding key_in single_key numbered_key number_after after
p_said n l = ap (λ o. option_or (option_map (λ k. key.P k) o) None) (below_said n l)

za_said : (n : ℕ) → n < 256 → key_in (codes "za" ++ decimal n) ≡ Some (key.Za n)
unfolding key_in single_key numbered_key number_after after
za_said n l =
    ap (λ o. option_or (option_map (λ k. key.Z k) o) (option_map (λ k. key.Za k) (number_below 256 (decimal n)))) (no_number (decimal n))
    ∙ ap (option_map (λ k. key.Za k)) (below_said n l)

key_said : (f : Field) → HasNumber f → key_in (name_of f) ≡ Some (key_of f)
unfolding key_in single_key
key_said (X n value) l = x_said n l
key_said (Sp value) l = refl
key_said (Nzcv n z c v) l = refl
key_said (Tpidr value) l = refl
key_said (Tpidr2 value) l = refl
key_said (Svcr streaming za_on) l = refl
key_said (Z n bytes) l = z_said n l
key_said (P n bytes) l = p_said n l
key_said (Ffr bytes) l = refl
key_said (Za n bytes) l = za_said n l
key_said (M bytes) l = refl

-- ---- the value

value_said : (f : Field) (digits : List ℕ) → IsValue f digits → field_of (key_of f) digits ≡ Some f
unfolding field_of
value_said (X n value) digits it = ap (option_map (λ m. X n m)) (number_said 16 digits value sixteen_fit it)
value_said (Sp value) digits it = ap (option_map (λ m. Sp m)) (number_said 16 digits value sixteen_fit it)
value_said (Nzcv n z c v) digits it = ap flags_in it ∙ flags_said n z c v
value_said (Tpidr value) digits it = ap (option_map (λ m. Tpidr m)) (number_said 16 digits value sixteen_fit it)
value_said (Tpidr2 value) digits it = ap (option_map (λ m. Tpidr2 m)) (number_said 16 digits value sixteen_fit it)
value_said (Svcr streaming za_on) digits it = ap svcr_in it ∙ svcr_said streaming za_on
value_said (Z n bytes) digits it = ap (option_map (λ them. Z n them)) (bytes_said digits bytes it)
value_said (P n bytes) digits it = ap (option_map (λ them. P n them)) (bytes_said digits bytes it)
value_said (Ffr bytes) digits it = ap (option_map (λ them. Ffr them)) (bytes_said digits bytes it)
value_said (Za n bytes) digits it = ap (option_map (λ them. Za n them)) (bytes_said digits bytes it)
value_said (M bytes) digits it = ap (option_map (λ them. M them)) (bytes_said digits bytes it)

-- ---- no name has an equals sign

abbrev is_other : ℕ → Bool
is_other b = not (is_equals b)

digit_other : (c : ℕ) → is_ascii_digit c ≡ true → is_other c ≡ true
digit_other c e = grind (arith, nat_tests)

digits_other : (ds : List ℕ) → list_all is_ascii_digit ds ≡ true → list_all is_other ds ≡ true
digits_other [] e = refl
digits_other (d ∷ ds) e =
    let parts = and_parts (is_ascii_digit d) (list_all is_ascii_digit ds) e in
    and_from (is_other d) (list_all is_other ds) (digit_other d parts.0) (digits_other ds parts.1)

number_other : (n : ℕ) → n < 256 → list_all is_other (decimal n) ≡ true
number_other n l = digits_other (decimal n) (decimal_digits n (omega arith))

name_other : (f : Field) → HasNumber f → list_all is_other (name_of f) ≡ true
name_other (X n value) l = number_other n l
name_other (Sp value) l = refl
name_other (Nzcv n z c v) l = refl
name_other (Tpidr value) l = refl
name_other (Tpidr2 value) l = refl
name_other (Svcr streaming za_on) l = refl
name_other (Z n bytes) l = number_other n l
name_other (P n bytes) l = number_other n l
name_other (Ffr bytes) l = refl
name_other (Za n bytes) l = number_other n l
name_other (M bytes) l = refl

place_is : (name digits : List ℕ) → list_all is_other name ≡ true → position_or_len is_equals (name ++ 61 ∷ digits) ≡ length name
place_is [] digits e = refl
place_is (b ∷ name) digits e =
    let parts = and_parts (is_other b) (list_all is_other name) e in
    let next : 1 + length name ≡ suc (length name) = omega arith in
    ap (λ t. cond t (1 + position_or_len is_equals (name ++ 61 ∷ digits)) 0) parts.0
    ∙ ap (λ k. 1 + k) (place_is name digits parts.1) ∙ next

longer : (name digits : List ℕ) → length name < length (name ++ 61 ∷ digits)
longer [] digits = omega arith
longer (b ∷ name) digits = omega (arith, longer name digits)

found : (name digits : List ℕ) → list_all is_other name ≡ true → position is_equals (name ++ 61 ∷ digits) ≡ Some (length name)
found name digits e =
    ap (λ k. cond (nat_lt k (length (name ++ 61 ∷ digits))) (Some k) None) (place_is name digits e)
    ∙ ap (λ b. cond b (Some (length name)) None) (lt-ltb (length name) (length (name ++ 61 ∷ digits)) (longer name digits))

taken : (name digits : List ℕ) → take (length name) (name ++ 61 ∷ digits) ≡ name
taken [] digits = refl
taken (b ∷ name) digits = ap (λ (l : List ℕ). b ∷ l) (taken name digits)

left_over : (name digits : List ℕ) → drop (suc (length name)) (name ++ 61 ∷ digits) ≡ digits
left_over [] digits = refl
left_over (b ∷ name) digits = left_over name digits

dropped : (name digits : List ℕ) → drop (length name + 1) (name ++ 61 ∷ digits) ≡ digits
dropped name digits =
    let next : length name + 1 ≡ suc (length name) = omega arith in
    ap (λ n. drop n (name ++ 61 ∷ digits)) next ∙ left_over name digits

-- ---- a word

parts_said : (f : Field) (digits : List ℕ) → HasNumber f → IsValue f digits → field_with (name_of f) digits ≡ Some f
parts_said f digits l it =
    ap (option_and_then (λ k. field_of k digits)) (key_said f l) ∙ value_said f digits it

text_said : (f : Field) (digits : List ℕ) → HasNumber f → IsValue f digits → field_in (name_of f ++ 61 ∷ digits) ≡ Some f
unfolding field_in
text_said f digits l it =
    let word = name_of f ++ 61 ∷ digits in
    ap (option_and_then (λ at. field_with (take at word) (drop (at + 1) word))) (found (name_of f) digits (name_other f l))
    ∙ ap (λ name. field_with name (drop (length (name_of f) + 1) word)) (taken (name_of f) digits)
    ∙ ap (field_with (name_of f)) (dropped (name_of f) digits)
    ∙ parts_said f digits l it

pub word_said : (vl svl : VecLen) (modes : Modes) (word : List ℕ) (f : Field) → fits vl svl modes f ≡ true → IsWordOf word f
    → field_in word ≡ Some f
word_said vl svl modes word f e it = ap field_in it.is ∙ text_said f it.digits (has_number vl svl modes f e) it.value
