-- A byte eight times, and of each its own bit.
use Rattle.std.proofs.Common.{◌≡◌, ℕ, zero, suc, ◌*◌, ◌/◌, ◌%◌, ◌^◌, ◌<◌, ◌==◌, ◌&&◌, Bool, true, false, not, refl, ap, sym, ◌∙◌}
use Rattle.std.proofs.Common.{arith, inl, inr, bit_and, List, slice_index}
use Rattle.std.specs.Simd.Lanes.{digits_l}
use Rattle.std.proofs.lemmas.Bool.{and_parts, cases_lt}
use Rattle.vector_elements.specs.Spread.{IsSpread}

unfoldable pub all_below : (ℕ → Bool) → ℕ → Bool
all_below test zero = true
all_below test (suc n) = all_below test n && test n

pub all_below-at : (test : ℕ → Bool) (n k : ℕ) → all_below test n ≡ true → k < n → test k ≡ true
unfolding all_below
all_below-at test zero k all none = absurd (omega arith)
all_below-at test (suc n) k all below =
    let parts = and_parts (all_below test n) (test n) all in
    elim (cases_lt k n) [
      | inl before ↦ all_below-at test n k parts.0 before
      | inr last ↦ (let here : k ≡ n = omega arith in ap test here ∙ parts.1)
    ]

unfoldable pub is_same : Bool → Bool → Bool
is_same true b = b
is_same false b = not b

pub same : (a b : Bool) → is_same a b ≡ true → a ≡ b
unfolding is_same
same true true e = refl
same true false e = sym e
same false true e = e
same false false e = refl

-- the byte times 0x0101010101010101, and 0x8040201008040201
abbrev pub spread_of : ℕ → List ℕ
spread_of byte = digits_l 256 8 (bit_and (byte * 72340172838076673) 9241421688590303745)

is_spread_at : ℕ → ℕ → Bool
is_spread_at byte k = is_same (slice_index (spread_of byte) k == 0) (not (byte / 2 ^ k % 2 == 1))

all_spread : all_below (λ byte. all_below (is_spread_at byte) 8) 256 ≡ true
unfolding all_below is_spread_at is_same
all_spread = refl

pub spread_is : (byte : ℕ) → byte < 256 → IsSpread byte (spread_of byte)
unfolding is_spread_at
spread_is byte fits k below =
    let at = all_below-at (λ b. all_below (is_spread_at b) 8) 256 byte all_spread fits in
    same _ _ (all_below-at (is_spread_at byte) 8 k at below)
