-- The truth values of a predicate. Source: DDI 0487, B1.4 (SVE predicate registers: one bit for each byte of
-- a vector), and the order of bits of LDR (predicate) and STR (predicate).
use Rattle.std.specs.Prelude.{ℕ, ◌+◌, ◌*◌, ◌/◌, ◌%◌, ◌^◌, ◌==◌, Bool, if◌then◌else◌, List, [], ◌∷◌}
use Rattle.std.specs.Prelude.{length, map, take, drop, slice_index}
use Rattle.std.specs.List.{range_with_len}

-- bit i of the bytes of a predicate: bit i % 8 of byte i / 8, the lowest first
unfoldable pub truth_at : List ℕ → ℕ → Bool
truth_at bytes i = slice_index bytes (i / 8) / 2 ^ (i % 8) % 2 == 1

-- the truth values of the bytes of a predicate, eight for each byte
unfoldable pub truths_of : List ℕ → List Bool
truths_of bytes = map (truth_at bytes) (range_with_len 0 (8 * length bytes))

-- the byte of truth values, the first of them its lowest bit
abbrev pub byte_of_truths : List Bool → ℕ
byte_of_truths [] = 0
byte_of_truths (holds ∷ rest) = (if holds then 1 else 0) + 2 * byte_of_truths rest

-- the bytes of the truth values of a predicate: byte k is that of the eight from number 8 * k on
unfoldable pub predicate_bytes : List Bool → List ℕ
predicate_bytes truths =
    map (λ k. byte_of_truths (take 8 (drop (8 * k) truths))) (range_with_len 0 (length truths / 8))
