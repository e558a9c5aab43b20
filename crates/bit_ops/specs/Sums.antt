-- Sums of two words and a carry, and their flags, over unbounded numbers.
-- Source: DDI 0487, J1.1, AddWithCarry. Words are of 64 bits where `wide` holds, else of 32.
use Rattle.std.specs.Prelude.{◌≡◌, ◌≢◌, ℕ, ◌+◌, ◌%◌, ◌^◌, ◌≤◌, ◌↔◌, Bool, true, false, not, ◌==◌, nat_le}
use Rattle.std.specs.Prelude.{nat_lt, if◌then◌else◌, ℤ, pos, ◌+ℤ◌, ◌-ℤ◌, IsTrue}
use Rattle.std.specs.Ordering.{int_eq}
use Rattle.bit_ops.specs.declared.sums.Nzcv.{Nzcv}

-- a truth value as a bit
abbrev pub bool_number : Bool → ℕ
bool_number true = 1
bool_number false = 0

-- how many values a word has
abbrev pub word_size : Bool → ℕ
word_size true = 2 ^ 64
word_size false = 2 ^ 32

-- the words from here on have their sign bit set
abbrev pub half_size : Bool → ℕ
half_size true = 2 ^ 63
half_size false = 2 ^ 31

-- a word read as two's complement: SInt
abbrev pub signed_word : Bool → ℕ → ℤ
signed_word wide n = if nat_lt n (half_size wide) then pos n else pos n -ℤ pos (word_size wide)

-- the low bits of the unsigned sum of two words and a carry
unfoldable pub sum_of : Bool → ℕ → ℕ → ℕ → ℕ
sum_of wide a b carry = (a + b + carry) % word_size wide

-- its flags: N the sign bit, Z a zero result, C where the unsigned sum is no word, V where the signed sum
-- is not the signed result
unfoldable pub sum_flags : Bool → ℕ → ℕ → ℕ → Nzcv
sum_flags wide a b carry = record {
  n = nat_le (half_size wide) (sum_of wide a b carry);
  z = sum_of wide a b carry == 0;
  c = nat_le (word_size wide) (a + b + carry);
  v =
      not (int_eq ((signed_word wide a +ℤ signed_word wide b) +ℤ pos carry)
      (signed_word wide (sum_of wide a b carry)));
}

-- the same as facts: the result is the low bits of the sum, and each flag is set exactly where it is said
-- to be
pub record IsSum (wide : Bool) (a b carry result : ℕ) (flags : Nzcv) : Type 0 where
  pub value : result ≡ (a + b + carry) % word_size wide
  pub negative : IsTrue flags.n ↔ (half_size wide ≤ result)
  pub zero : IsTrue flags.z ↔ (result ≡ 0)
  pub carry_out : IsTrue flags.c ↔ (word_size wide ≤ a + b + carry)
  pub overflow :
      IsTrue flags.v ↔ ((signed_word wide a +ℤ signed_word wide b) +ℤ pos carry ≢ signed_word wide result)
