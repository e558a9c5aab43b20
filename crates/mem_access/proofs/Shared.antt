-- The first of some addresses that is shared.
use Rattle.std.proofs.Common.{◌⊎◌, inl, inr, ◌≡◌, ℕ, zero, suc, ◌+◌, ◌-◌, ◌%◌, ◌^◌, ◌<◌, ◌≤◌, true, false, refl, ap, ◌∙◌, arith, Some, None}
use Rattle.std.proofs.lemmas.Bool.Decides.{nat_tests}
use Rattle.plain_lemmas.proofs.Numbers.{cases_lt_suc}
use Rattle.mem_access.specs.Checks.{is_shared}
use Rattle.mem_access.specs.Runs.{first_shared}

pub shared-below : (a : ℕ) → a < 0x7F0000000000 → is_shared a ≡ false
shared-below a h = grind (arith, nat_tests)

pub shared-inside : (a : ℕ) → 0x7F0000000000 ≤ a → a < 0x7F0000001000 → is_shared a ≡ true
shared-inside a h l = grind (arith, nat_tests)

pub shared-above : (a : ℕ) → 0x7F0000001000 ≤ a → is_shared a ≡ false
shared-above a h = grind (arith, nat_tests)

pub first_shared-none : (a n : ℕ) → ((k : ℕ) → k < n → is_shared ((a + k) % 2 ^ 64) ≡ false) → first_shared a n ≡ None
unfolding first_shared
first_shared-none a zero h = refl
first_shared-none a (suc n) h = rw (first_shared-none a n (λ k l. h k (omega arith)), h n (omega arith)) refl

pub first_shared-at : (a n d : ℕ) → ((k : ℕ) → k < d → is_shared ((a + k) % 2 ^ 64) ≡ false) → is_shared ((a + d) % 2 ^ 64) ≡ true → d < n
    → first_shared a n ≡ Some ((a + d) % 2 ^ 64)
unfolding first_shared
first_shared-at a zero d before here l = absurd (omega arith)
first_shared-at a (suc n) d before here l =
    elim (cases_lt_suc d n l) [
      | inl e ↦
          let none : first_shared a n ≡ None = first_shared-none a n (λ k m. before k (omega arith)) in
          rw (none, ← e, here) refl
      | inr m ↦ rw (first_shared-at a n d before here m) refl
    ]

place_of : (a k : ℕ) → a < 2 ^ 64 → ((a + k) % 2 ^ 64 ≡ a + k) ⊎ (2 ^ 64 ≤ a + k)
place_of a k low = grind arith

-- bytes that end below the shared words
pub none_below : (a n : ℕ) → a + n ≤ 0x7F0000000000 → first_shared a n ≡ None
none_below a n h = first_shared-none a n (λ k l. shared-below ((a + k) % 2 ^ 64) (omega arith))

-- bytes from past them on, which do not go round to them
pub none_above : (a n : ℕ) → a < 2 ^ 64 → 0x7F0000001000 ≤ a → n ≤ 4096 → first_shared a n ≡ None
none_above a n low h short = first_shared-none a n (λ k l.
    elim (place_of a k low) [
      | inl e ↦ shared-above ((a + k) % 2 ^ 64) (omega arith)
      | inr g ↦ shared-below ((a + k) % 2 ^ 64) (omega arith)
    ])

-- bytes that reach them
pub first_of_them : (a n : ℕ) → a < 0x7F0000000000 → 0x7F0000000000 < a + n → first_shared a n ≡ Some 0x7F0000000000
first_of_them a n low reach =
    let at : (a + (0x7F0000000000 - a)) % 2 ^ 64 ≡ 0x7F0000000000 = omega arith in
    first_shared-at a n (0x7F0000000000 - a) (λ k l. shared-below ((a + k) % 2 ^ 64) (omega arith))
    (ap is_shared at ∙ shared-inside 0x7F0000000000 (omega arith) (omega arith)) (omega arith) ∙ ap Some at

-- bytes that begin among them
pub first_itself : (a n : ℕ) → 0x7F0000000000 ≤ a → a < 0x7F0000001000 → 1 ≤ n → first_shared a n ≡ Some a
first_itself a n h l some =
    let at : (a + 0) % 2 ^ 64 ≡ a = omega arith in
    first_shared-at a n 0 (λ k m. absurd (omega arith)) (ap is_shared at ∙ shared-inside a h l) some ∙ ap Some at
