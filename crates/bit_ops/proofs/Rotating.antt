-- Rotations, as sums.
use Rattle.std.proofs.Common.{◌≡◌, ℕ, ◌+◌, ◌-◌, ◌*◌, ◌/◌, ◌%◌, ◌^◌, ◌<◌, bit_or, sym, ap, ap₂, ◌∙◌, subst, arith, inl, inr, mod-eq_of_lt}
use Rattle.std.specs.Int.Bits.{or_self}
use Rattle.std.proofs.Math.Nat.{mul-mod_left}
use Rattle.std.proofs.lemmas.Bool.{cases_lt}
use Rattle.std.proofs.lemmas.Nat.{or_shifted, or_comm, shl-shr, shr_below, mod-pow-add}

-- what a shift to the left keeps of a word
kept : (n r k : ℕ) → n * 2 ^ k % 2 ^ (r + k) ≡ n % 2 ^ r * 2 ^ k
kept n r k =
    let split = mod-pow-add (n * 2 ^ k) r k in
    let none : n * 2 ^ k % 2 ^ k ≡ 0 = mul-mod_left n (2 ^ k) in
    split ∙ ap₂ (λ a b. a % 2 ^ r * 2 ^ k + b) (shl-shr n k) none ∙ omega arith

turned : (k n r : ℕ) → n < 2 ^ (k + r) → bit_or (n / 2 ^ r) (n * 2 ^ k % 2 ^ (r + k)) ≡ n / 2 ^ r + n % 2 ^ r * 2 ^ k
turned k n r lt =
    let high = shr_below n k r lt in
    ap (bit_or (n / 2 ^ r)) (kept n r k) ∙ or_comm (n / 2 ^ r) (n % 2 ^ r * 2 ^ k) ∙ or_shifted (n % 2 ^ r) k (n / 2 ^ r) high ∙ omega arith

whole : (n k : ℕ) → n < 2 ^ k → bit_or (n / 1) (n * 1 % 2 ^ k) ≡ n
whole n k lt =
    let a : n / 1 ≡ n = omega arith in
    let one : n * 1 ≡ n = omega arith in
    let b : n * 1 % 2 ^ k ≡ n = ap (λ m. m % 2 ^ k) one ∙ mod-eq_of_lt lt in
    ap₂ bit_or a b ∙ or_self n

no_low : (n p : ℕ) → n ≡ n / 1 + n % 1 * p
no_low n p =
    let a : n / 1 ≡ n = omega arith in
    let z : n % 1 ≡ 0 = omega arith in
    sym (ap₂ (λ x y. x + y * p) a z ∙ omega arith)

not_turned : (n k j : ℕ) → n < 2 ^ k → j ≡ 0 → bit_or (n / 2 ^ 0) (n * 2 ^ j % 2 ^ k) ≡ n / 2 ^ 0 + n % 2 ^ 0 * 2 ^ (k - 0)
not_turned n k j lt e = ap (λ i. bit_or (n / 2 ^ 0) (n * 2 ^ i % 2 ^ k)) e ∙ whole n k lt ∙ no_low n (2 ^ (k - 0))

self_mod : (k : ℕ) → 0 < k → (k - 0) % k ≡ 0
self_mod k some = ap (λ m. m % k) (let e : k - 0 ≡ 1 * k = omega arith in e) ∙ mul-mod_left 1 k

-- `rotate_right` by less than the width
pub rotated : (k n r : ℕ) → n < 2 ^ k → r < k
    → bit_or (n / 2 ^ (r % k)) (n * 2 ^ ((k - r % k) % k) % 2 ^ k) ≡ n / 2 ^ r + n % 2 ^ r * 2 ^ (k - r)
rotated k n r lt below =
    let e : r % k ≡ r = mod-eq_of_lt below in
    ap (λ i. bit_or (n / 2 ^ i) (n * 2 ^ ((k - i) % k) % 2 ^ k)) e ∙ elim (cases_lt 0 r) [
      | inl some ↦
          let d : (k - r) % k ≡ k - r = mod-eq_of_lt (omega arith) in
          let high : k - r + r ≡ k = omega arith in
          let low : r + (k - r) ≡ k = omega arith in
          ap₂ (λ i w. bit_or (n / 2 ^ r) (n * 2 ^ i % 2 ^ w)) d (sym low) ∙ turned (k - r) n r (subst (λ w. n < 2 ^ w) (sym high) lt)
      | inr none ↦
          let z : 0 ≡ r = omega arith in
          subst (λ i. bit_or (n / 2 ^ i) (n * 2 ^ ((k - i) % k) % 2 ^ k) ≡ n / 2 ^ i + n % 2 ^ i * 2 ^ (k - i)) z
          (not_turned n k ((k - 0) % k) lt (self_mod k (omega arith)))
    ]
