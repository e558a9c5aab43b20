-- Words by their bits and bytes, over unbounded numbers.
-- Bit i and byte i of a number are its digits of worth 2 ^ i and 256 ^ i. Words are of 64 bits where `wide`
-- holds, else of 32.
use Rattle.std.specs.Prelude.{ℕ, zero, suc, ◌+◌, ◌*◌, ◌/◌, ◌%◌, ◌^◌, Bool, true, false, if◌then◌else◌}

-- how many bits a word has
abbrev pub width_of : Bool → ℕ
width_of true = 64
width_of false = 32

-- the digit of worth base ^ i
abbrev pub digit_at : ℕ → ℕ → ℕ → ℕ
digit_at base n i = n / base ^ i % base

-- the number that has these digits below place `count`, and no others
unfoldable pub number_of_digits : ℕ → (ℕ → ℕ) → ℕ → ℕ
number_of_digits base digit zero = 0
number_of_digits base digit (suc count) = number_of_digits base digit count + digit count * base ^ count

-- how many of the numbers 0, 1, .. below a limit pass the test before the first that does not
unfoldable pub run_length : (ℕ → Bool) → ℕ → ℕ
run_length test zero = 0
run_length test (suc limit) = if test 0 then suc (run_length (λ i. test (suc i)) limit) else 0
