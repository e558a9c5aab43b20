-- The halfword at a place of a number.
use Rattle.std.proofs.Common.{◌≡◌, ℕ, ◌*◌, ◌/◌, ◌%◌, ◌^◌, ◌<◌, ◌==◌, true, nat_lt, ltb-true}
use Rattle.std.proofs.lemmas.Bool.{and_parts}
use Rattle.asm_operands.specs.Fields.{is_halfword_at}

-- it has 16 bits, where it has all of the number
pub halfword-lt : (number index : ℕ) → is_halfword_at number index ≡ true → number / 2 ^ (16 * index) < 65536
unfolding is_halfword_at
halfword-lt number index e = ltb-true _ _ (and_parts (number % 2 ^ (16 * index) == 0) (nat_lt (number / 2 ^ (16 * index)) 65536) e).1
