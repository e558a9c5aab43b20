-- Places of elements.
use Rattle.std.proofs.Common.{◌≡◌, ℕ, suc, [], ◌∷◌, ◌+◌, ◌-◌, ◌*◌, ◌/◌, ◌%◌, ◌<◌, ◌≤◌, List, ◌++◌, length, take, drop, ap, arith, nat_lt}
use Rattle.std.proofs.Common.{if◌then◌else◌}
use Rattle.std.proofs.Common.{refl, sym, ◌∙◌, length-drop}
use Rattle.std.proofs.lemmas.Grind.{common_steps}
use Rattle.std.specs.Simd.Lanes.{number_l}
use Rattle.plain_lemmas.proofs.Lists.{take_within}
use Rattle.vector_elements.specs.declared.size.Size.{Size}
use Rattle.vector_elements.specs.declared.size.Size.TheVariants.{B, H, S, D}
use Rattle.vector_elements.specs.Elements.{element_of}
use Rattle.vector_elements.specs.Numbers.{bytes_in}
use Rattle.sve_perm.specs.Permute.{extracted}
use Rattle.vector_elements.proofs.Lists.{drop_front}

-- an element below the count
pub within_count : (size : Size) (i n : ℕ) → i < n / bytes_in size → bytes_in size * i + bytes_in size ≤ n
within_count B i n below = omega (arith, below)
within_count H i n below = omega (arith, below)
within_count S i n below = omega (arith, below)
within_count D i n below = omega (arith, below)

-- an element of the first of two vectors in a row
pub of_first : (size : Size) (n m : List ℕ) (i : ℕ) → i < length n / bytes_in size
    → element_of (bytes_in size) (n ++ m) i ≡ element_of (bytes_in size) n i
unfolding element_of
of_first size n m i below = ap (number_l 256) (take_within (bytes_in size) (bytes_in size * i) n m (within_count size i (length n) below))

passed : (size : Size) (n i : ℕ) → n % bytes_in size ≡ 0 → n / bytes_in size ≤ i
    → bytes_in size * i ≡ n + bytes_in size * (i - n / bytes_in size)
passed B n i whole past = omega (arith, whole, past)
passed H n i whole past = omega (arith, whole, past)
passed S n i whole past = omega (arith, whole, past)
passed D n i whole past = omega (arith, whole, past)

-- an element of the second
pub of_second : (size : Size) (n m : List ℕ) (i : ℕ) → length n % bytes_in size ≡ 0 → length n / bytes_in size ≤ i
    → element_of (bytes_in size) (n ++ m) i ≡ element_of (bytes_in size) m (i - length n / bytes_in size)
unfolding element_of
of_second size n m i whole past =
    ap (λ xs. number_l 256 (take (bytes_in size) xs))
    (drop_front n m (bytes_in size * i) (bytes_in size * (i - length n / bytes_in size)) (passed size (length n) i whole past))

take_past : (xs ys : List ℕ) (k n : ℕ) → n ≡ length xs + k → take n (xs ++ ys) ≡ xs ++ take k ys
take_past [] ys k n is = (let e : n ≡ k = omega (arith, is) in ap (λ j. take j ys) e)
take_past (x ∷ xs) ys k n is =
    let e : n ≡ suc (length xs + k) = omega (arith, is) in
    ap (λ j. take j (x ∷ (xs ++ ys))) e ∙ ap (λ t. x ∷ t) (take_past xs ys k (length xs + k) refl)

-- bytes of two vectors from a place on
pub in_a_row : (n m : List ℕ) (start : ℕ) → start ≤ length n
    → drop start n ++ take start m ≡ take (length n) (drop start (n ++ m))
in_a_row n m start within =
    let rest : drop start (n ++ m) ≡ drop start n ++ m = grind (arith, common_steps) in
    let long : length n ≡ length (drop start n) + start = (let l = length-drop start n in omega (arith, l, within)) in
    sym (ap (take (length n)) rest ∙ take_past (drop start n) m start (length n) long)

pub is_extracted : (amount start : ℕ) (n m : List ℕ) → start < length n → start ≡ (if nat_lt amount (length n) then amount else 0)
    → take (length n - start) (drop start n) ++ take start m ≡ extracted amount n m
unfolding extracted
is_extracted amount start n m within is =
    let all : take (length n - start) (drop start n) ≡ drop start n = grind (arith, common_steps) in
    ap (λ t. t ++ take start m) all ∙ in_a_row n m start (omega (arith, within))
    ∙ ap (λ k. take (length n) (drop k (n ++ m))) is
