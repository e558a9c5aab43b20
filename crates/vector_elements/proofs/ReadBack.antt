-- Elements are read back from the bytes that were made of them.
use Rattle.std.proofs.Common.{◌≡◌, ℕ, zero, suc, ◌+◌, ◌*◌, ◌/◌, ◌%◌, ◌^◌, ◌<◌, ◌≤◌, [], ◌∷◌, ◌++◌, length}
use Rattle.std.proofs.Common.{take, drop, ap, ◌∙◌, sym, arith, inl, inr, subst}
use Rattle.std.proofs.lemmas.Bool.{cases_lt}
use Rattle.std.proofs.Math.Arith.{mod-mul}
use Rattle.std.proofs.Math.Nat.{mod-one, pow-suc, mul-le-mul_left, mul-div_cancel_left}
use Rattle.std.specs.Simd.Lanes.{number_l, digits_l}
use Rattle.plain_lemmas.proofs.Lists.{take_within}
use Rattle.vector_elements.specs.Elements.{listed, element_of, elements_of, bytes_of, each_element}
use Rattle.vector_elements.specs.Laws.{GivesElements}
use Rattle.vector_elements.proofs.Lists.{length-written, length-digits, bytes-append, take_front, drop_front}
use Rattle.vector_elements.proofs.Masks.{listed_same}

some_values : (e : ℕ) → 0 < 256 ^ e
some_values zero = omega arith
some_values (suc e) = let more = some_values e in let power = pow-suc 256 e in omega (arith, more, power)

-- a number of e digits is the number modulo 256 ^ e
number-digits : (e x : ℕ) → number_l 256 (digits_l 256 e x) ≡ x % 256 ^ e
number-digits zero x = sym (mod-one x)
number-digits (suc e) x =
    let upper = x / 256 % 256 ^ e in
    let turned : x % 256 + 256 * upper ≡ upper * 256 + x % 256 = omega arith in
    ap (λ n. x % 256 + 256 * n) (number-digits e (x / 256)) ∙ turned
    ∙ sym (mod-mul x (some_values e) (let some : 0 < 256 = omega arith in some)) ∙ ap (λ k. x % k) (sym (pow-suc 256 e))

pub read_back : (e : ℕ) (f : ℕ → ℕ) (n i : ℕ) → i < n → element_of e (bytes_of e (listed f n)) i ≡ f i % 256 ^ e
unfolding element_of listed bytes_of
read_back e f zero i none = absurd (omega arith)
read_back e f (suc n) i below =
    let front = length-written e f n in
    let split : bytes_of e (listed f (suc n)) ≡ bytes_of e (listed f n) ++ (digits_l 256 e (f n) ++ []) =
    bytes-append e (listed f n) (f n ∷ []) in
    ap (λ b. number_l 256 (take e (drop (e * i) b))) split
    ∙ elim (cases_lt i n) [
      | inl before ↦
          let least : e * (i + 1) ≤ e * n = mul-le-mul_left e (omega arith) in
          ap (number_l 256) (take_within e (e * i) (bytes_of e (listed f n)) (digits_l 256 e (f n) ++ []) (omega (arith, least, front)))
          ∙ read_back e f n i before
      | inr last ↦
          let here : i ≡ n = omega arith in
          let at : e * i ≡ length (bytes_of e (listed f n)) + 0 = (let same = ap (λ k. e * k) here in omega (arith, front, same)) in
          ap (λ b. number_l 256 (take e b)) (drop_front (bytes_of e (listed f n)) (digits_l 256 e (f n) ++ []) (e * i) 0 at)
          ∙ ap (number_l 256) (take_front (digits_l 256 e (f n)) [] e (sym (length-digits e (f n))))
          ∙ number-digits e (f n) ∙ ap (λ k. f k % 256 ^ e) (sym here)
    ]

pub gives_elements : GivesElements
unfolding elements_of each_element
gives_elements e bytes f some =
    let g : ℕ → ℕ = λ i. f i (element_of e bytes i) in
    let n = length bytes / e in
    let count : length (bytes_of e (listed g n)) / e ≡ n = ap (λ k. k / e) (length-written e g n) ∙ mul-div_cancel_left n some in
    listed_same _ _ _ (λ i below. read_back e g n i (subst (λ k. i < k) count below))
