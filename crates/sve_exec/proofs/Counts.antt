-- Counts from the top of an element with one bit more.
use Rattle.std.proofs.Common.{◌≡◌, ℕ, ◌+◌, ◌-◌, ◌/◌, ◌^◌, ◌<◌, arith, bit_xor, sym}
use Rattle.std.specs.Int.Count.{count_leading_zeros, leading_unique}
use Rattle.std.proofs.lemmas.Nat.{leading_length, xor_lt}
use Rattle.vector_elements.specs.declared.size.Size.{Size}
use Rattle.vector_elements.specs.declared.size.Size.TheVariants.{B, H, S, D}
use Rattle.vector_elements.specs.Numbers.{bits_in, range_of, half_of}

-- a number that fits without the top bit has one leading zero more with it
zero_more : (k n : ℕ) → n < 2 ^ k → count_leading_zeros (k + 1) n ≡ count_leading_zeros k n + 1
zero_more k n fits =
    let length = leading_length k n fits in
    sym (leading_unique (k + 1) n (count_leading_zeros k n + 1) length.0 (let e = length.1 in omega arith) length.2 length.3)

pub zeros_more : (size : Size) (n : ℕ) → n < half_of size
    → count_leading_zeros (bits_in size) n ≡ count_leading_zeros (bits_in size - 1) n + 1
zeros_more B n fits = zero_more 7 n fits
zeros_more H n fits = zero_more 15 n fits
zeros_more S n fits = zero_more 31 n fits
zeros_more D n fits = zero_more 63 n fits

pub changes_fit : (size : Size) (a b : ℕ) → a < range_of size → b < half_of size → bit_xor (a / 2) b < half_of size
changes_fit B a b fits low = xor_lt 7 (a / 2) b (omega arith) low
changes_fit H a b fits low = xor_lt 15 (a / 2) b (omega arith) low
changes_fit S a b fits low = xor_lt 31 (a / 2) b (omega arith) low
changes_fit D a b fits low = xor_lt 63 (a / 2) b (omega arith) low
