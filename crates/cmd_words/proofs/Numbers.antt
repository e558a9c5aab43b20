-- What the word of a number is read as.
use Rattle.std.proofs.Common.{◌≡◌, ℕ, ◌-◌, ◌^◌, ◌≤◌, min, true, List, cond, Some, None, ◌∙◌, ap, arith, inl, inr}
use Rattle.std.specs.Prelude.{◌&&◌, nat_le, unwrap_or}
use Rattle.std.proofs.lemmas.Bool.{and_parts, cases_lt, cond-true, le-ltb, leb-true}
use Rattle.std.proofs.Common.{lt-ltb}
use Rattle.line_reader.specs.Numbers.{if_fits, is_decimal, decimal_value, decimal_number}

-- a number, or the greatest of 64 bits
fitted : (n : ℕ) → unwrap_or (if_fits n) (2 ^ 64 - 1) ≡ min n (2 ^ 64 - 1)
fitted n = elim (cases_lt n (2 ^ 64)) [
  | inl low ↦ ap (λ b. unwrap_or (cond b (Some n) None) (2 ^ 64 - 1)) (lt-ltb n (2 ^ 64) low) ∙ omega arith
  | inr high ↦ ap (λ b. unwrap_or (cond b (Some n) None) (2 ^ 64 - 1)) (le-ltb n (2 ^ 64) high) ∙ omega arith
]

-- the word of a number is read as its number, or as the greatest of 64 bits
pub at_most : (word : List ℕ) → is_decimal word ≡ true
    → unwrap_or (decimal_number word) (2 ^ 64 - 1) ≡ min (decimal_value word) (2 ^ 64 - 1)
unfolding decimal_number
at_most word is =
    ap (λ o. unwrap_or o (2 ^ 64 - 1)) (cond-true (is_decimal word) (if_fits (decimal_value word)) None is)
    ∙ fitted (decimal_value word)

-- a number from one to a greatest is so
pub both_ends : (n most : ℕ) → (nat_le 1 n && nat_le n most) ≡ true → (1 ≤ n) × (n ≤ most)
both_ends n most e = let h = and_parts (nat_le 1 n) (nat_le n most) e in (leb-true 1 n h.0, leb-true n most h.1)
