-- Sums modulo 2 ^ 32 and 2 ^ 64.
use Rattle.std.proofs.Common.{◌≡◌, ℕ, ◌+◌, ◌-◌, ◌%◌, ◌^◌, ap, ◌∙◌, sym, arith, inl, inr, ℤ, pos, ◌+ℤ◌}
use Rattle.std.specs.Prelude.{negsuc}
use Rattle.std.specs.Int.{w32, w64, int_wrap, cast_unsigned}
use Rattle.std.proofs.lemmas.Bool.{cases_lt}
use Rattle.std.proofs.lemmas.Int.{of_z-to_z}
use Rattle.plain_lemmas.proofs.Numbers.{pos_add_negsuc-le, pos_add_negsuc-lt}
use Rattle.vector_elements.specs.declared.size.Size.TheVariants.{S, D}
use Rattle.vector_elements.specs.Numbers.{wrapped}

-- a number modulo 2 ^ 32, and modulo 2 ^ 64
abbrev short_part : ℤ → ℕ
short_part (pos n) = n % 2 ^ 32
short_part (negsuc n) = 2 ^ 32 - 1 - n % 2 ^ 32

abbrev long_part : ℤ → ℕ
long_part (pos n) = n % 2 ^ 64
long_part (negsuc n) = 2 ^ 64 - 1 - n % 2 ^ 64

short_part-is : (z : ℤ) → cast_unsigned w32 (int_wrap w32 z) ≡ short_part z
unfolding int_wrap
short_part-is (pos n) = of_z-to_z w32 (n % 2 ^ 32) (omega arith)
short_part-is (negsuc n) = of_z-to_z w32 (2 ^ 32 - 1 - n % 2 ^ 32) (omega arith)

long_part-is : (z : ℤ) → cast_unsigned w64 (int_wrap w64 z) ≡ long_part z
unfolding int_wrap
long_part-is (pos n) = of_z-to_z w64 (n % 2 ^ 64) (omega arith)
long_part-is (negsuc n) = of_z-to_z w64 (2 ^ 64 - 1 - n % 2 ^ 64) (omega arith)

word_sum : (old : ℕ) (z : ℤ) → (old + short_part z) % 2 ^ 32 ≡ wrapped S (pos old +ℤ z)
unfolding wrapped
word_sum old (pos n) = omega arith
word_sum old (negsuc n) = elim (cases_lt n old) [
  | inl lt ↦ (let e : (old + (2 ^ 32 - 1 - n % 2 ^ 32)) % 2 ^ 32 ≡ (old - n - 1) % 2 ^ 32 = omega (arith, lt) in
      e ∙ sym (ap (wrapped S) (pos_add_negsuc-lt old n lt)))
  | inr le ↦ (let e : (old + (2 ^ 32 - 1 - n % 2 ^ 32)) % 2 ^ 32 ≡ 2 ^ 32 - 1 - (n - old) % 2 ^ 32 = omega (arith, le) in
      e ∙ sym (ap (wrapped S) (pos_add_negsuc-le old n le)))
]

doubleword_sum : (old : ℕ) (z : ℤ) → (old + long_part z) % 2 ^ 64 ≡ wrapped D (pos old +ℤ z)
unfolding wrapped
doubleword_sum old (pos n) = omega arith
doubleword_sum old (negsuc n) = elim (cases_lt n old) [
  | inl lt ↦ (let e : (old + (2 ^ 64 - 1 - n % 2 ^ 64)) % 2 ^ 64 ≡ (old - n - 1) % 2 ^ 64 = omega (arith, lt) in
      e ∙ sym (ap (wrapped D) (pos_add_negsuc-lt old n lt)))
  | inr le ↦ (let e : (old + (2 ^ 64 - 1 - n % 2 ^ 64)) % 2 ^ 64 ≡ 2 ^ 64 - 1 - (n - old) % 2 ^ 64 = omega (arith, le) in
      e ∙ sym (ap (wrapped D) (pos_add_negsuc-le old n le)))
]

-- an element and a sum that wrapped
pub word_with-is : (old : ℕ) (z : ℤ) → (old + cast_unsigned w32 (int_wrap w32 z)) % 2 ^ 32 ≡ wrapped S (pos old +ℤ z)
word_with-is old z = ap (λ k. (old + k) % 2 ^ 32) (short_part-is z) ∙ word_sum old z

pub doubleword_with-is : (old : ℕ) (z : ℤ) → (old + cast_unsigned w64 (int_wrap w64 z)) % 2 ^ 64 ≡ wrapped D (pos old +ℤ z)
doubleword_with-is old z = ap (λ k. (old + k) % 2 ^ 64) (long_part-is z) ∙ doubleword_sum old z
