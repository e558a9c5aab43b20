-- The field of a register: its number, and its size above that.
use Rattle.std.proofs.Common.{◌≡◌, ℕ, ◌+◌, ◌-◌, ◌*◌, ◌/◌, ◌%◌, ◌^◌, ◌<◌, ◌≤◌, sym, ap, ◌∙◌, arith}
use Rattle.std.proofs.lemmas.Nat.{pow-add, pow_pos, div-add-mod'}
use Rattle.std.proofs.Math.Pow.{pow_mono}
use Rattle.std.proofs.Math.Nat.{mul-le-mul_right, mod-lt, div-lt_iff_lt-mul}

above : (a b : ℕ) → a < b → a + 1 ≤ b
above a b lt = omega arith

times : (q a : ℕ) → (a + 1) * q ≡ a * q + q
times q a = omega arith

-- the two parts make up a number of all the bits
pub sized_fits : (size few bits number : ℕ) → few ≤ bits → number < 2 ^ few → size < 2 ^ (bits - few)
    → size * 2 ^ few + number < 2 ^ bits
sized_fits size few bits number le n s =
    let e : bits - few + few ≡ bits = omega arith in
    let whole : 2 ^ (bits - few) * 2 ^ few ≡ 2 ^ bits = sym (pow-add 2 (bits - few) few) ∙ ap (λ m. 2 ^ m) e in
    let room = mul-le-mul_right (2 ^ few) (above size (2 ^ (bits - few)) s) in
    omega (arith, room, whole, times (2 ^ few) size)

upto : (bits : ℕ) → bits < 32 → bits ≤ 32
upto bits lt = omega arith

pub sized_small : (size few bits number : ℕ) → few ≤ bits → bits < 32 → number < 2 ^ few → size < 2 ^ (bits - few)
    → size * 2 ^ few + number < 4294967296
sized_small size few bits number le small n s =
    let fits = sized_fits size few bits number le n s in
    let most : 2 ^ bits ≤ 2 ^ 32 = pow_mono (upto bits small) in
    omega (arith, fits, most)

-- the number of the lowest bits, and that of those above
pub record IsParts (few bits field : ℕ) : Type 0 where
  pub low : field % 2 ^ few < 2 ^ few
  pub high : field / 2 ^ few < 2 ^ (bits - few)
  pub whole : field / 2 ^ few * 2 ^ few + field % 2 ^ few ≡ field

pub sized-parts : (few bits field : ℕ) → few ≤ bits → field < 2 ^ bits → IsParts few bits field
sized-parts few bits field le lt =
    let e : few + (bits - few) ≡ bits = omega arith in
    let whole : 2 ^ bits ≡ 2 ^ few * 2 ^ (bits - few) = ap (λ m. 2 ^ m) (sym e) ∙ pow-add 2 few (bits - few) in
    let some = pow_pos few in
    let below : field < 2 ^ (bits - few) * 2 ^ few = omega (arith, whole) in
    record {
      low = mod-lt field some;
      high = (div-lt_iff_lt-mul {k = 2 ^ few} {x = field} {y = 2 ^ (bits - few)} some).1 below;
      whole = div-add-mod' field (2 ^ few);
    }
