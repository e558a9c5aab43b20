-- The run of sign bits is one less than the leading zeros of the word without its sign.
use Rattle.std.proofs.Common.{◌≡◌, ℕ, zero, suc, ◌-◌, ◌^◌, ◌<◌, ◌≤◌, ◌==◌, refl, ap, ◌∙◌, subst, arith, inl, inr, Bool, true, false}
use Rattle.std.proofs.lemmas.Bool.{cases_lt}
use Rattle.std.proofs.lemmas.Bool.Decides.{nat_tests}
use Rattle.std.proofs.lemmas.Nat.Bits.{bit_at_above, bit_at-lt, bit_at_not}
use Rattle.std.specs.Int.{Width, w32, w64}
use mir.Val.{bits}
use Rattle.bit_ops.specs.Bits.{digit_at, run_length}
use Rattle.bit_ops.specs.Sums.{half_size, word_size}
use Rattle.bit_ops.specs.Counts.{leading_zeros_of, leading_signs_of}
use Rattle.bit_ops.proofs.Runs.{is_zero, top_bit}

-- the same tests have the same run
run-same : (f g : ℕ → Bool) (limit : ℕ) → ((i : ℕ) → i < limit → f i ≡ g i) → run_length f limit ≡ run_length g limit
unfolding run_length
run-same f g zero same = refl
run-same f g (suc k) same =
    let rest = run-same (λ i. f (suc i)) (λ i. g (suc i)) k (λ i lt. same (suc i) (omega arith)) in
    rw (same 0 (omega arith), rest) refl

signs-run : (h n m : ℕ) → m < 2 ^ h → ((i : ℕ) → i < h
    → (digit_at 2 m (suc h - 1 - suc i) == 0) ≡ (digit_at 2 n (suc h - 2 - i) == digit_at 2 n (suc h - 1)))
    → run_length (λ i. digit_at 2 m (suc h - 1 - i) == 0) (suc h)
    ≡ suc (run_length (λ i. digit_at 2 n (suc h - 2 - i) == digit_at 2 n (suc h - 1)) h)
unfolding run_length
signs-run h n m lt same =
    rw (is_zero _ (bit_at_above m h (suc h - 1 - 0) lt (omega arith)))
    (ap suc (run-same (λ i. digit_at 2 m (suc h - 1 - suc i) == 0) (λ i. digit_at 2 n (suc h - 2 - i) == digit_at 2 n (suc h - 1)) h same))

clear_test : (a b t : ℕ) → a ≡ b → t ≡ 0 → (a == 0) ≡ (b == t)
clear_test a b t e z = rw (e, z) refl

set_test : (a b t : ℕ) → a ≡ 1 - b → b < 2 → t ≡ 1 → (a == 0) ≡ (b == t)
set_test a b t e lt o = grind (arith, nat_tests)

same_test : (w : Width) (h n m i : ℕ) → bits w ≡ suc h → i < h → n < 2 ^ bits w → (n < 2 ^ h → m ≡ n) → (2 ^ h ≤ n → m ≡ 2 ^ bits w - 1 - n)
    → (digit_at 2 m (suc h - 1 - suc i) == 0) ≡ (digit_at 2 n (suc h - 2 - i) == digit_at 2 n (suc h - 1))
same_test w h n m i e lt small clear set =
    let place : suc h - 1 - suc i ≡ suc h - 2 - i = omega arith in
    let top : h ≡ suc h - 1 = omega arith in
    elim (cases_lt n (2 ^ h)) [
      | inl under ↦
          clear_test _ _ _ (ap (digit_at 2 m) place ∙ ap (λ k. digit_at 2 k (suc h - 2 - i)) (clear under))
          (bit_at_above n h (suc h - 1) under (omega arith))
      | inr over ↦
          set_test _ _ _
          (ap (digit_at 2 m) place ∙ ap (λ k. digit_at 2 k (suc h - 2 - i)) (set over) ∙ bit_at_not w n (suc h - 2 - i) small (omega arith))
          (bit_at-lt n (suc h - 2 - i))
          (subst (λ p. digit_at 2 n p ≡ 1) top (top_bit h n over (subst (λ k. n < 2 ^ k) e small)))
    ]

-- both counts
pub signs-is : (wide : Bool) (n m : ℕ) → n < word_size wide → m < half_size wide → (n < half_size wide → m ≡ n)
    → (half_size wide ≤ n → m ≡ word_size wide - 1 - n) → leading_zeros_of wide m ≡ suc (leading_signs_of wide n)
unfolding leading_zeros_of leading_signs_of
signs-is true n m lt small clear set = signs-run 63 n m small (λ i l. same_test w64 63 n m i refl l lt clear set)
signs-is false n m lt small clear set = signs-run 31 n m small (λ i l. same_test w32 31 n m i refl l lt clear set)
