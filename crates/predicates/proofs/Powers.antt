-- The greatest power of 2 up to a number.
use Rattle.std.proofs.Common.{◌≡◌, ℕ, suc, ◌-◌, ◌*◌, ◌%◌, ◌^◌, ◌<◌, ◌≤◌, refl, arith}
use Rattle.std.specs.Int.Count.{count_leading_zeros}
use Rattle.std.proofs.lemmas.Nat.{leading_top}
use Rattle.std.proofs.Math.Nat.{pow-suc}
use Rattle.plain_lemmas.proofs.Tests.{eqb-zero_of_pos}
use Rattle.predicates.specs.Patterns.{floor_power, IsFloorPower}

top : (n : ℕ) → 0 < n → n < 2 ^ 64 → (2 ^ (63 - count_leading_zeros 64 n) ≤ n) × (n < 2 * 2 ^ (63 - count_leading_zeros 64 n))
top n some fits =
    let t = leading_top 64 n some fits in
    let place : 63 - count_leading_zeros 64 n ≡ t.0 = (let e = t.1 in omega (arith, e)) in
    let next : 2 ^ suc t.0 ≡ 2 ^ t.0 * 2 = pow-suc 2 t.0 in
    rw place (t.2, (let above = t.3 in omega (arith, next, above)))

pub power_within : (n : ℕ) → 0 < n → n < 2 ^ 64 → 1 * 2 ^ (63 - count_leading_zeros 64 n) % 2 ^ 64 ≤ n
power_within n some fits = let t = top n some fits in let low = t.0 in omega (arith, low)

pub power_greatest : (n : ℕ) → 0 < n → n < 2 ^ 64 → n < 2 * (1 * 2 ^ (63 - count_leading_zeros 64 n) % 2 ^ 64)
power_greatest n some fits = let t = top n some fits in let low = t.0 in let high = t.1 in omega (arith, low, high)

floor_power-some : (n : ℕ) → 0 < n → floor_power n ≡ 2 ^ (63 - count_leading_zeros 64 n)
unfolding floor_power
floor_power-some n some = rw (eqb-zero_of_pos n some) refl

-- POW2 as such a power
pub floor_power-is : (n : ℕ) → 0 < n → n < 2 ^ 64 → IsFloorPower n (floor_power n)
floor_power-is n some fits =
    let t = top n some fits in
    rw (floor_power-some n some) (record { is_power = (63 - count_leading_zeros 64 n, refl); within = t.0; greatest = t.1 })
