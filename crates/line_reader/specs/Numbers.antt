-- Numbers in a text: decimal digits with no leading zero, and hexadecimal digits.
use Rattle.std.specs.Prelude.{ℕ, ◌^◌, ◌==◌, ◌&&◌, ◌||◌, not, nat_lt, Bool, List, length, slice_index}
use Rattle.std.specs.Prelude.{Option, Some, None, option_and_then, if◌then◌else◌}
use Rattle.std.specs.Char.{is_ascii_digit, is_ascii_hexdigit}
use Rattle.std.specs.Int.{is_in_range}
use Rattle.std.specs.List.{list_all}
use Rattle.std.specs.Str.Parse.{digits_value}
use Rattle.line_reader.specs.declared.numbers.Base.{Base}
use Rattle.line_reader.specs.declared.numbers.Base.TheVariants.{Ten, Sixteen, SixteenAnyCase}

abbrev pub radix : Base → ℕ
radix Ten = 10
radix Sixteen = 16
radix SixteenAnyCase = 16

-- 0 to 9, and in base 16 a to f (97 to 102), or where the case is free A to F too
abbrev pub is_digit_of : Base → ℕ → Bool
is_digit_of Ten c = is_ascii_digit c
is_digit_of Sixteen c = is_ascii_digit c || is_in_range 97 102 c
is_digit_of SixteenAnyCase c = is_ascii_hexdigit c

-- the number that digits of the base write, however many they are
abbrev pub value_in : Base → List ℕ → ℕ
value_in base ds = digits_value (radix base) ds

-- the number, if it fits 64 bits
abbrev pub if_fits : ℕ → Option ℕ
if_fits n = if nat_lt n (2 ^ 64) then Some n else None

-- the number that digits of the base write
unfoldable pub digits_in : Base → List ℕ → Option ℕ
digits_in base ds = if list_all (is_digit_of base) ds then if_fits (value_in base ds) else None

-- at least one digit, of which the first is no 0 (48) unless it stands alone
abbrev pub has_no_leading_zero : List ℕ → Bool
has_no_leading_zero ds = nat_lt 0 (length ds) && (not (slice_index ds 0 == 48) || (length ds == 1))

-- decimal digits with no leading zero
unfoldable pub is_decimal : List ℕ → Bool
is_decimal ds = has_no_leading_zero ds && list_all (is_digit_of Ten) ds

-- the number that decimal digits write, however many they are
unfoldable pub decimal_value : List ℕ → ℕ
decimal_value ds = value_in Ten ds

-- a decimal number with no leading zero, if it fits
unfoldable pub decimal_number : List ℕ → Option ℕ
decimal_number ds = if is_decimal ds then if_fits (decimal_value ds) else None

-- the number, if it is below the bound
abbrev pub if_below : ℕ → ℕ → Option ℕ
if_below bound n = if nat_lt n bound then Some n else None

-- a decimal number below the bound
unfoldable pub number_below : ℕ → List ℕ → Option ℕ
number_below bound ds = option_and_then (if_below bound) (decimal_number ds)

-- exactly so many hexadecimal digits
unfoldable pub hex_number : ℕ → List ℕ → Option ℕ
hex_number count ds = if length ds == count then digits_in Sixteen ds else None

-- hexadecimal digits alone
unfoldable pub is_hex : List ℕ → Bool
is_hex ds = list_all (is_digit_of Sixteen) ds
