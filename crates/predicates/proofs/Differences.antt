-- Differences modulo 2 ^ 64.
use Rattle.std.proofs.Common.{◌≡◌, ℕ, ◌+◌, ◌-◌, ◌%◌, ◌^◌, ◌<◌, pos, ◌-ℤ◌, arith, ap, ◌∙◌, sym, inl, inr}
use Rattle.std.proofs.lemmas.Bool.{cases_lt}
use Rattle.plain_lemmas.proofs.Numbers.{pos_sub-lt, pos_sub-le}
use Rattle.vector_elements.specs.declared.size.Size.TheVariants.{D}
use Rattle.vector_elements.specs.Numbers.{wrapped}

pub less : (x n : ℕ) → x < 2 ^ 64 → n < 2 ^ 64 → (x + (2 ^ 64 - n)) % 2 ^ 64 ≡ wrapped D (pos x -ℤ pos n)
unfolding wrapped
less x n fits small = elim (cases_lt x n) [
  | inl lt ↦
      (let e : (x + (2 ^ 64 - n)) % 2 ^ 64 ≡ 2 ^ 64 - 1 - (n - x - 1) % 2 ^ 64 = omega arith in e)
      ∙ sym (ap (wrapped D) (pos_sub-lt x n lt))
  | inr le ↦ (let e : (x + (2 ^ 64 - n)) % 2 ^ 64 ≡ (x - n) % 2 ^ 64 = omega arith in e) ∙ sym (ap (wrapped D) (pos_sub-le x n le))
]
