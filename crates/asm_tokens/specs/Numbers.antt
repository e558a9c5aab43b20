-- Numbers in a source: decimal digits with no leading zero, or `0x` and hexadecimal digits of either case.
-- Source: this project's own assembly language.
use Rattle.std.specs.Prelude.{ℕ, Bool, ◌&&◌, ◌==◌, nat_lt, List, length, slice_index, drop, Option, None}
use Rattle.std.specs.Prelude.{if◌then◌else◌}
use Rattle.line_reader.specs.Numbers.{digits_in, decimal_number}
use Rattle.line_reader.specs.declared.numbers.Base.TheVariants.{SixteenAnyCase}

-- the number that hexadecimal digits write, at least one
unfoldable pub hexadecimal_number : List ℕ → Option ℕ
hexadecimal_number ds = if nat_lt 0 (length ds) then digits_in SixteenAnyCase ds else None

-- the text begins with `0x`
unfoldable pub begins_hexadecimal : List ℕ → Bool
begins_hexadecimal cs = (slice_index cs 0 == 48) && (slice_index cs 1 == 120)

-- the number that a text is
unfoldable pub number_in : List ℕ → Option ℕ
number_in cs = if begins_hexadecimal cs then hexadecimal_number (drop 2 cs) else decimal_number cs
