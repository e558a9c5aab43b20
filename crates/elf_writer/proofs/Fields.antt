-- What is read from fields that were written.
use Rattle.std.proofs.Common.{◌≡◌, ℕ, zero, suc, ◌+◌, ◌/◌, ◌%◌, ◌^◌, ◌<◌, ◌≤◌, true, List, [], ◌∷◌, ◌++◌, length, get_or, drop}
use Rattle.std.proofs.Common.{refl, ap, sym, ◌∙◌, arith, append_assoc}
use Rattle.std.proofs.lemmas.Bool.Decides.{nat_tests}
use Rattle.std.proofs.lemmas.Bool.{and_parts}
use Rattle.std.specs.Prelude.{nat_le}
use Rattle.plain_lemmas.proofs.Lists.{drop_past}
use Rattle.byteorder.specs.Endian.{little_number, little_bytes}
use Rattle.byteorder.specs.Numbers.{little_from-bytes, length-bytes_low_first}
use Rattle.elf_headers.specs.Header.{number_at}
use Rattle.elf_writer.specs.Layout.{are_narrow, fields_bytes}

-- bytes in front are skipped
pub number_at-past : (xs ys : List ℕ) (k n : ℕ) → number_at (xs ++ ys) (length xs + k) n ≡ number_at ys k n
unfolding number_at
number_at-past xs ys k n = ap (little_number n) (drop_past xs ys k)

-- where field number k begins, its width and its value
abbrev pub offset : List (ℕ × ℕ) → ℕ → ℕ
offset [] k = 0
offset (f ∷ fs) zero = 0
offset (f ∷ fs) (suc k) = f.0 + offset fs k

abbrev pub width : List (ℕ × ℕ) → ℕ → ℕ
width [] k = 0
width (f ∷ fs) zero = f.0
width (f ∷ fs) (suc k) = width fs k

abbrev pub value : List (ℕ × ℕ) → ℕ → ℕ
value [] k = 0
value (f ∷ fs) zero = f.1
value (f ∷ fs) (suc k) = value fs k

div_one : (x : ℕ) → x / 256 ^ 0 ≡ x
div_one x = let e : x / 1 ≡ x = omega arith in e

-- field k is read where it was written
pub read_field : (fs : List (ℕ × ℕ)) (k : ℕ) (rest : List ℕ)
    → number_at (fields_bytes fs ++ rest) (offset fs k) (width fs k) ≡ value fs k % 256 ^ width fs k
unfolding number_at
read_field [] k rest = refl
read_field (f ∷ fs) zero rest =
    rw append_assoc (little_from-bytes f.0 0 f.1 (fields_bytes fs ++ rest) ∙ ap (λ x. x % 256 ^ f.0) (div_one f.1))
read_field (f ∷ fs) (suc k) rest =
    let all : drop (length (little_bytes f.0 f.1) + offset fs k) (little_bytes f.0 f.1 ++ (fields_bytes fs ++ rest))
    ≡ drop (offset fs k) (fields_bytes fs ++ rest) = drop_past (little_bytes f.0 f.1) (fields_bytes fs ++ rest) (offset fs k) in
    let here : drop (f.0 + offset fs k) (little_bytes f.0 f.1 ++ fields_bytes fs ++ rest) ≡ drop (offset fs k) (fields_bytes fs ++ rest) =
    rw (append_assoc) (rw (length-bytes_low_first 0 f.0 f.1) at all) in
    ap (little_number (width fs k)) here ∙ read_field fs k rest

pub narrow_at : (fs : List (ℕ × ℕ)) (i : ℕ) (d : ℕ × ℕ) → are_narrow fs ≡ true → i < length fs → (get_or fs i d).0 ≤ 8
narrow_at [] i d h l = absurd (omega arith)
narrow_at (f ∷ fs) zero d h l = let e : nat_le f.0 8 ≡ true = (and_parts (nat_le f.0 8) (are_narrow fs) h).0 in grind (arith, nat_tests)
narrow_at (f ∷ fs) (suc i) d h l = narrow_at fs i d (and_parts (nat_le f.0 8) (are_narrow fs) h).1 (omega arith)

-- fields one after another
pub fields_bytes-append : (fs gs : List (ℕ × ℕ)) → fields_bytes (fs ++ gs) ≡ fields_bytes fs ++ fields_bytes gs
fields_bytes-append [] gs = refl
fields_bytes-append (f ∷ fs) gs =
    ap (λ x. little_bytes f.0 f.1 ++ x) (fields_bytes-append fs gs)
    ∙ sym (append_assoc (little_bytes f.0 f.1) (fields_bytes fs) (fields_bytes gs))
