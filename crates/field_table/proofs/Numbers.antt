-- Bytes are those of their number.
use Rattle.std.proofs.Common.{◌≡◌, ℕ, zero, suc, ◌+◌, ◌*◌, ◌/◌, ◌%◌, ◌^◌, ◌<◌, List, [], ◌∷◌, length, refl, ap, sym, ◌∙◌, arith}
use Rattle.std.specs.Prelude.{slice_index}
use Rattle.std.proofs.Math.Nat.{div-div-eq-div-mul, pow-succ'}
use Rattle.std.specs.Int.{byte_at, bytes_low_first}
use Rattle.byteorder.specs.Endian.{little_from, little_number, little_bytes}
use Rattle.byteorder.specs.Numbers.{little_from-cons}

-- a byte past the lowest
byte_past : (i x : ℕ) → byte_at (suc i) x ≡ byte_at i (x / 256)
byte_past zero x = refl
byte_past (suc i) x =
    ap (λ d. x / d % 256) (pow-succ' 256 (suc i)) ∙ ap (λ q. q % 256) (sym (div-div-eq-div-mul x 256 (256 ^ suc i)))

-- the bytes past the lowest
bytes_past : (i n x : ℕ) → bytes_low_first (suc i) n x ≡ bytes_low_first i n (x / 256)
bytes_past i zero x = refl
bytes_past i (suc n) x = λ j. byte_past i x j ∷ bytes_past (suc i) n x j

lowest : (b m : ℕ) → b < 256 → (b + 256 * m) % 256 ≡ b
lowest b m l = omega (arith, l)

others : (b m : ℕ) → b < 256 → (b + 256 * m) / 256 ≡ m
others b m l = omega (arith, l)

pub number_tells : (bytes : List ℕ) → ((k : ℕ) → k < length bytes → slice_index bytes k < 256)
    → little_bytes (length bytes) (little_number (length bytes) bytes) ≡ bytes
number_tells [] low = refl
number_tells (b ∷ bs) low =
    let small : b < 256 = low 0 (omega arith) in
    let rest : little_bytes (length bs) (little_number (length bs) bs) ≡ bs =
    number_tells bs (λ k l. low (suc k) (omega (arith, l))) in
    let shifted : little_from 1 (length bs) (b ∷ bs) ≡ little_from 0 (length bs) bs = little_from-cons 0 (length bs) b bs in
    let n : ℕ = little_number (length bs) bs in
    ap (λ m. bytes_low_first 0 (suc (length bs)) (b + 256 * m)) shifted
    ∙ (λ j. lowest b n small j ∷ (bytes_past 0 (length bs) (b + 256 * n) ∙ ap (bytes_low_first 0 (length bs)) (others b n small) ∙ rest) j)
