-- Bytes in memory in two parts, one after the other.
use Rattle.std.proofs.Common.{◌≡◌, ℕ, zero, suc, ◌+◌, ◌*◌, ◌/◌, ◌%◌, ◌^◌, ◌<◌, Bool, true, false, List, [], ◌∷◌, take, drop, refl, ap, sym}
use Rattle.std.proofs.Common.{◌∙◌, arith, Some}
use Rattle.std.proofs.Math.Nat.{pow-suc, mul_assoc, mul_left_comm, mul-zero}
use Rattle.sm_types.specs.Bytes.{little_number}
use Rattle.paged_memory.specs.Memory.{AddressSpace, bytes_with}
use Rattle.mem_access.specs.Access.{register_size}
use Rattle.mem_access.specs.Runs.{number_in}
use Rattle.mem_access.proofs.InMemory.{number_read}

-- a number by its low bytes and the others
by_parts : (n : ℕ) (bs : List ℕ) → little_number bs ≡ little_number (take n bs) + 256 ^ n * little_number (drop n bs)
by_parts zero bs = let one : little_number bs ≡ 0 + 1 * little_number bs = omega arith in one
by_parts (suc n) [] = let none = mul-zero (256 ^ suc n) in let all : 0 ≡ 0 + 256 ^ suc n * 0 = omega (arith, none) in all
by_parts (suc n) (b ∷ bs) =
    let up : 256 ^ suc n * little_number (drop n bs) ≡ 256 * (256 ^ n * little_number (drop n bs)) =
    ap (λ p. p * little_number (drop n bs)) (pow-suc 256 n) ∙ mul_assoc (256 ^ n) 256 (little_number (drop n bs))
    ∙ mul_left_comm (256 ^ n) 256 (little_number (drop n bs)) in
    let rest = by_parts n bs in
    omega (arith, up, rest)

low_half : (wide : Bool) (low high : ℕ) → low < 2 ^ (8 * register_size wide)
    → (low + 256 ^ register_size wide * high) % 2 ^ (8 * register_size wide) ≡ low
low_half true low high h = omega arith
low_half false low high h = omega arith

high_half : (wide : Bool) (low high : ℕ) → low < 2 ^ (8 * register_size wide)
    → (low + 256 ^ register_size wide * high) / 2 ^ (8 * register_size wide) ≡ high
high_half true low high h = omega arith
high_half false low high h = omega arith

whole_read : (m : AddressSpace) (a k : ℕ) (wide : Bool) (bs : List ℕ) → bytes_with 4 m a k ≡ Some bs → k ≡ 2 * register_size wide
    → number_in m a (2 * register_size wide) ≡ little_number (take (register_size wide) bs)
    + 256 ^ register_size wide * little_number (drop (register_size wide) bs)
whole_read m a k wide bs there count =
    sym (number_read m a k (2 * register_size wide) (little_number bs) bs there count refl) ∙ by_parts (register_size wide) bs

pub first_read : (m : AddressSpace) (a k v : ℕ) (wide : Bool) (bs : List ℕ) → bytes_with 4 m a k ≡ Some bs → k ≡ 2 * register_size wide
    → v ≡ little_number (take (register_size wide) bs) → v < 2 ^ (8 * register_size wide)
    → v ≡ number_in m a (2 * register_size wide) % 2 ^ (8 * register_size wide)
first_read m a k v wide bs there count is small =
    is ∙ sym (ap (λ n. n % 2 ^ (8 * register_size wide)) (whole_read m a k wide bs there count)
    ∙ low_half wide (little_number (take (register_size wide) bs)) (little_number (drop (register_size wide) bs)) (rw is at small))

pub second_read : (m : AddressSpace) (a k v w : ℕ) (wide : Bool) (bs : List ℕ) → bytes_with 4 m a k ≡ Some bs → k ≡ 2 * register_size wide
    → v ≡ little_number (take (register_size wide) bs) → v < 2 ^ (8 * register_size wide)
    → w ≡ little_number (drop (register_size wide) bs) → w ≡ number_in m a (2 * register_size wide) / 2 ^ (8 * register_size wide)
second_read m a k v w wide bs there count first small is =
    is ∙ sym (ap (λ n. n / 2 ^ (8 * register_size wide)) (whole_read m a k wide bs there count)
    ∙ high_half wide (little_number (take (register_size wide) bs)) (little_number (drop (register_size wide) bs)) (rw first at small))
