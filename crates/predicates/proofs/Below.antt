-- Predicates whose first elements are true, byte by byte.
use Rattle.std.proofs.Common.{◌≡◌, ◌≢◌, ℕ, ◌+◌, ◌-◌, ◌*◌, ◌/◌, ◌%◌, ◌^◌, ◌<◌, ◌≤◌, min, ◌∙◌, sym, ap, ap₂, arith}
use Rattle.std.proofs.Common.{◌==◌, ◌&&◌, Bool, true, false, List, [], ◌∷◌, length, refl, bit_and, slice_index}
use Rattle.std.proofs.Common.{get_or, set, slice_set, get_or-set_same, get_or-set_other, inl, inr, nat_lt}
use Rattle.std.proofs.lemmas.Bool.{cases_lt, cases_eq, ne_eqb}
use Rattle.std.proofs.lemmas.Bool.Decides.{nat_tests}
use Rattle.vector_elements.specs.declared.size.Size.{Size}
use Rattle.vector_elements.specs.declared.size.Size.TheVariants.{B, H, S, D}
use Rattle.vector_elements.specs.Active.{element_bits}
use Rattle.vector_elements.specs.Elements.{bit_of}
use Rattle.vector_elements.specs.Numbers.{bytes_in}
use Rattle.vector_elements.proofs.Spreads.{all_below, all_below-at, is_same, same}
use Rattle.predicates.specs.Predicates.{bit_for}
use Rattle.predicates.proofs.Gathered.{lowest, joined_bit, in_element}

-- the bytes of which so many of the lowest bits are set
abbrev pub ones : List ℕ
ones = 0 ∷ 1 ∷ 3 ∷ 7 ∷ 15 ∷ 31 ∷ 63 ∷ 127 ∷ 255 ∷ []

one_at : ℕ → ℕ → Bool
one_at count k = is_same (slice_index ones count / 2 ^ k % 2 == 1) (nat_lt k count)

all_ones : all_below (λ count. all_below (one_at count) 8) 9 ≡ true
unfolding all_below one_at is_same
all_ones = refl

pub low_bits : (count k : ℕ) → count ≤ 8 → k < 8 → (slice_index ones count / 2 ^ k % 2 == 1) ≡ nat_lt k count
unfolding one_at
low_bits count k few below =
    same _ _ (all_below-at (one_at count) 8 k
    (all_below-at (λ count. all_below (one_at count) 8) 9 count all_ones (omega (arith, few))) below)

-- the bits of a byte before that of a bit, of that byte, and of one after it
pub bits_before : (end i k : ℕ) → i < end / 8 → k < 8 → nat_lt k 8 ≡ nat_lt (8 * i + k) end
bits_before end i k before few = grind (arith, nat_tests)

pub bits_here : (end i k : ℕ) → i ≡ end / 8 → k < 8 → nat_lt k (end % 8) ≡ nat_lt (8 * i + k) end
bits_here end i k here few = grind (arith, nat_tests)

pub bits_after : (end i k : ℕ) → end / 8 < i → k < 8 → nat_lt k 0 ≡ nat_lt (8 * i + k) end
bits_after end i k after few = grind (arith, nat_tests)

-- the bits of the first n bytes are those of elements before a bit
abbrev pub AreBelow : Size → ℕ → List ℕ → ℕ → Type 0
AreBelow size end pd n = (j : ℕ) → j < 8 * n → bit_of pd j ≡ ((j % bytes_in size == 0) && nat_lt j end)

-- one byte more
pub below_next : (size : Size) (end i low : ℕ) (pd : List ℕ) → i < length pd
    → ((k : ℕ) → k < 8 → (low / 2 ^ k % 2 == 1) ≡ nat_lt (8 * i + k) end) → AreBelow size end pd i
    → AreBelow size end (slice_set pd i (bit_and (element_bits size) low)) (i + 1)
unfolding bit_of
below_next size end i low pd room is so_far j below = elim (cases_lt j (8 * i)) [
  | inl before ↦
      let other : j / 8 ≢ i = omega arith in
      ap (λ n. n / 2 ^ (j % 8) % 2 == 1) (get_or-set_other pd i (j / 8) new 0 other) ∙ so_far j before
  | inr from ↦
      let byte : j / 8 ≡ i = omega arith in
      let few : j % 8 < 8 = omega arith in
      let place : 8 * i + j % 8 ≡ j = omega arith in
      let element : (j % 8 % bytes_in size == 0) ≡ (j % bytes_in size == 0) =
      ap (λ n. n == 0) (sym (in_element size i (j % 8)) ∙ ap (λ n. n % bytes_in size) place) in
      ap (λ n. get_or (set pd i new) n 0 / 2 ^ (j % 8) % 2 == 1) byte
      ∙ ap (λ n. n / 2 ^ (j % 8) % 2 == 1) (get_or-set_same pd i new 0 room)
      ∙ joined_bit (element_bits size) low (j % 8)
      ∙ ap₂ (λ a b. a && b) (lowest size (j % 8) few ∙ element) (is (j % 8) few ∙ ap (λ n. nat_lt n end) place)
]
  where
    new : ℕ
    new = bit_and (element_bits size) low

before_end : (size : Size) (limit n j : ℕ) → j < 8 * n → j % bytes_in size ≡ 0
    → nat_lt j (min limit (8 * n / bytes_in size) * bytes_in size) ≡ nat_lt (j / bytes_in size) limit
before_end B limit n j below first = grind (arith, nat_tests)
before_end H limit n j below first = grind (arith, nat_tests)
before_end S limit n j below first = grind (arith, nat_tests)
before_end D limit n j below first = grind (arith, nat_tests)

pub end_within : (size : Size) (limit n : ℕ) → min limit (8 * n / bytes_in size) * bytes_in size ≤ 8 * n
end_within B limit n = omega arith
end_within H limit n = omega arith
end_within S limit n = omega arith
end_within D limit n = omega arith

-- bits of the first elements, so many or all
pub below_bit : (size : Size) (limit n end : ℕ) (pd : List ℕ) → end ≡ min limit (8 * n / bytes_in size) * bytes_in size
    → AreBelow size end pd n → (j : ℕ) → j < 8 * n → bit_of pd j ≡ bit_for (bytes_in size) (λ i. nat_lt i limit) j
below_bit size limit n end pd is all j below = elim (cases_eq (j % bytes_in size) 0) [
  | inl first ↦
      all j below
      ∙ ap (λ b. (j % bytes_in size == 0) && b) (ap (nat_lt j) is ∙ before_end size limit n j below first)
  | inr other ↦
      let none : (j % bytes_in size == 0) ≡ false = ne_eqb _ 0 other in
      all j below ∙ ap (λ b. b && nat_lt j end) none ∙ sym (ap (λ b. b && nat_lt (j / bytes_in size) limit) none)
]
