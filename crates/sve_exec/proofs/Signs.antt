-- The count of the sign bits of a number, by its bits.
use Rattle.std.proofs.Common.{◌≡◌, ◌≢◌, ℕ, zero, suc, ◌+◌, ◌-◌, ◌*◌, ◌/◌, ◌%◌, ◌^◌, ◌<◌, ◌≤◌, sym, ap, ◌∙◌, arith, bit_xor}
use Rattle.std.specs.Int.{bit_at}
use Rattle.std.specs.Int.Count.{count_leading_zeros}
use Rattle.std.proofs.lemmas.Nat.{leading_length, pow_pos, shr_split, xor_lt}
use Rattle.std.proofs.lemmas.Nat.Bits.{bit_at_xor, bit_at-suc, bit_at_cat_low, bit_at_cat_high, bit_at_above, bit_at-lt}
use Rattle.std.proofs.Math.Nat.{pow-suc}
use Rattle.vector_elements.specs.declared.size.Size.{Size}
use Rattle.vector_elements.specs.declared.size.Size.TheVariants.{B, H, S, D}
use Rattle.vector_elements.specs.Numbers.{bits_in, range_of}
use Rattle.sve_exec.specs.Unary.{leading_signs, HasLeadingSigns}

-- bit i of the changes of a number is set where its bits i and i + 1 differ
bit_of_changes : (h a i : ℕ) → i < h → bit_at (bit_xor (a / 2) (a % 2 ^ h)) i ≡ (bit_at a (suc i) + bit_at a i) % 2
bit_of_changes h a i lt =
    let low : bit_at (a % 2 ^ h) i ≡ bit_at a i =
    sym (bit_at_cat_low (a / 2 ^ h) h (a % 2 ^ h) i lt) ∙ ap (λ n. bit_at n i) (shr_split a h) in
    bit_at_xor (a / 2) (a % 2 ^ h) i
    ∙ ap (λ n. (n + bit_at (a % 2 ^ h) i) % 2) (sym (bit_at-suc a i))
    ∙ ap (λ n. (bit_at a (suc i) + n) % 2) low

same_bits : (p q : ℕ) → p < 2 → q < 2 → (p + q) % 2 ≡ 0 → q ≡ p
same_bits p q p_bit q_bit even = omega arith

differ : (p q : ℕ) → (p + q) % 2 ≡ 1 → q ≢ p
differ p q odd = λ same. omega arith

-- without changes from bit m on, the bits from there on are the top bit
equal_from : (h a m d : ℕ) → bit_xor (a / 2) (a % 2 ^ h) < 2 ^ m → m + d ≤ h → bit_at a (h - d) ≡ bit_at a h
equal_from h a m zero small within = ap (bit_at a) (omega arith)
equal_from h a m (suc d) small within =
    let next : suc (h - suc d) ≡ h - d = omega arith in
    let none = bit_at_above (bit_xor (a / 2) (a % 2 ^ h)) m (h - suc d) small (omega arith) in
    same_bits _ _ (bit_at-lt a (suc (h - suc d))) (bit_at-lt a (h - suc d))
    (sym (bit_of_changes h a (h - suc d) (omega arith)) ∙ none)
    ∙ ap (bit_at a) next ∙ equal_from h a m d small (omega arith)

top_bit : (j n : ℕ) → 2 ^ j ≤ n → n < 2 ^ suc j → bit_at n j ≡ 1
top_bit j n from under =
    let power = pow-suc 2 j in
    let sum : n ≡ 1 * 2 ^ j + (n - 2 ^ j) = omega arith in
    let none : j - j ≡ 0 = omega arith in
    ap (λ k. bit_at k j) sum ∙ bit_at_cat_high 1 j (n - 2 ^ j) j (omega arith) (omega arith) ∙ ap (bit_at 1) none

-- a change at bit m - 1 ends them
ends_at : (h a j : ℕ) → j < h → 2 ^ suc j ≤ 2 * bit_xor (a / 2) (a % 2 ^ h) + 1 → bit_xor (a / 2) (a % 2 ^ h) < 2 ^ suc j
    → bit_at a j ≢ bit_at a h
ends_at h a j within from under =
    let power = pow-suc 2 j in
    let changed = top_bit j (bit_xor (a / 2) (a % 2 ^ h)) (omega arith) under in
    let odd = sym (bit_of_changes h a j within) ∙ changed in
    let above : bit_at a (suc j) ≡ bit_at a h =
    ap (bit_at a) (let e : suc j ≡ h - (h - suc j) = omega arith in e) ∙ equal_from h a (suc j) (h - suc j) under (omega arith) in
    λ same. differ _ _ odd (same ∙ sym above)

counted : (h a : ℕ) → a < 2 ^ suc h → HasLeadingSigns (suc h) a (count_leading_zeros h (bit_xor (a / 2) (a % 2 ^ h)))
counted h a fits =
    let x = bit_xor (a / 2) (a % 2 ^ h) in
    let n = count_leading_zeros h x in
    let power = pow-suc 2 h in
    let some = pow_pos h in
    let small : x < 2 ^ h = xor_lt h (a / 2) (a % 2 ^ h) (omega arith) (omega arith) in
    let length = leading_length h x small in
    let m = length.0 in
    let whole : n + m ≡ h = length.1 in
    let top : h ≡ suc h - 1 = omega arith in
    record {
      below = omega arith;
      equal = λ i from under.
          ap (bit_at a) (let e : i ≡ h - (h - i) = omega arith in e)
          ∙ equal_from h a m (h - i) length.2 (omega arith)
          ∙ ap (bit_at a) top;
      no_more = λ more same.
          let below : m ≡ suc (m - 1) = omega arith in
          let place : suc h - 2 - n ≡ m - 1 = omega arith in
          ends_at h a (m - 1) (omega arith) (rw (← below) length.3) (rw (← below) length.2)
          (ap (bit_at a) (sym place) ∙ same ∙ ap (bit_at a) (sym top));
    }

pub leading_signs-counted : (size : Size) (a : ℕ) → a < range_of size
    → HasLeadingSigns (bits_in size) a (leading_signs size a)
leading_signs-counted B a fits = counted 7 a fits
leading_signs-counted H a fits = counted 15 a fits
leading_signs-counted S a fits = counted 31 a fits
leading_signs-counted D a fits = counted 63 a fits
