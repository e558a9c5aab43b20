-- Numbers by their digits.
use Rattle.std.proofs.Common.{◌≡◌, ℕ, zero, suc, ◌+◌, ◌-◌, ◌*◌, ◌^◌, ◌<◌, refl, sym, ap, ap₂, ◌∙◌, subst, arith, inl, inr, lit<}
use Rattle.std.proofs.Math.Nat.{pow-suc}
use Rattle.std.proofs.lemmas.Bool.{cases_lt}
use Rattle.std.proofs.lemmas.Nat.Bits.{bit_at_cat_low, bit_at_cat_high, same_from_bits_below}
use Rattle.bit_ops.specs.Bits.{digit_at, number_of_digits}

-- the same digits make the same number
pub number-same : (base : ℕ) (f g : ℕ → ℕ) (count : ℕ) → ((i : ℕ) → i < count → f i ≡ g i)
    → number_of_digits base f count ≡ number_of_digits base g count
unfolding number_of_digits
number-same base f g zero same = refl
number-same base f g (suc k) same =
    ap₂ (λ a b. a + b * base ^ k) (number-same base f g k (λ i lt. same i (omega arith))) (same k (omega arith))

-- so many bits are below 2 to that power
pub number-lt : (f : ℕ → ℕ) (count : ℕ) → ((i : ℕ) → i < count → f i < 2) → number_of_digits 2 f count < 2 ^ count
unfolding number_of_digits
number-lt f zero small = lit< tt
number-lt f (suc k) small =
    let below = number-lt f k (λ i lt. small i (omega arith)) in
    let bit = small k (omega arith) in
    let power = pow-suc 2 k in
    elim (cases_lt (f k) 1) [
      | inl off ↦
          let z : f k ≡ 0 = omega arith in
          subst (λ b. number_of_digits 2 f k + b * 2 ^ k < 2 ^ suc k) (sym z) (omega arith)
      | inr on ↦
          let one : f k ≡ 1 = omega arith in
          subst (λ b. number_of_digits 2 f k + b * 2 ^ k < 2 ^ suc k) (sym one) (omega arith)
    ]

one_bit : (d : ℕ) → d < 2 → digit_at 2 d 0 ≡ d
one_bit d lt = omega arith

-- its bits are those that it is made of
pub bit_of_number : (f : ℕ → ℕ) (count : ℕ) → ((i : ℕ) → i < count → f i < 2) → (i : ℕ) → i < count
    → digit_at 2 (number_of_digits 2 f count) i ≡ f i
unfolding number_of_digits
bit_of_number f zero small i lt = absurd (omega arith)
bit_of_number f (suc k) small i lt =
    let below = number-lt f k (λ j l. small j (omega arith)) in
    let swap : number_of_digits 2 f k + f k * 2 ^ k ≡ f k * 2 ^ k + number_of_digits 2 f k = omega arith in
    ap (λ n. digit_at 2 n i) swap ∙ elim (cases_lt i k) [
      | inl under ↦ bit_at_cat_low (f k) k (number_of_digits 2 f k) i under ∙ bit_of_number f k (λ j l. small j (omega arith)) i under
      | inr over ↦
          let at : k ≡ i = omega arith in
          subst (λ j. digit_at 2 (f k * 2 ^ k + number_of_digits 2 f k) j ≡ f j) at
          (bit_at_cat_high (f k) k (number_of_digits 2 f k) k below (omega arith)
          ∙ (let z : k - k ≡ 0 = omega arith in ap (digit_at 2 (f k)) z) ∙ one_bit (f k) (small k (omega arith)))
    ]

-- a number that has these bits and no others is the number of them
pub number-is : (f : ℕ → ℕ) (count m : ℕ) → m < 2 ^ count → ((i : ℕ) → i < count → f i < 2) → ((i : ℕ) → i < count → digit_at 2 m i ≡ f i)
    → m ≡ number_of_digits 2 f count
number-is f count m lt small same =
    same_from_bits_below count m (number_of_digits 2 f count) lt (number-lt f count small)
    (λ i l. same i l ∙ sym (bit_of_number f count small i l))
