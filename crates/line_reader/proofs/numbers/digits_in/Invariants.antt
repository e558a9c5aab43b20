use Rattle.std.proofs.Common.{◌≡◌, ◌<◌, ◌^◌, drop}
use Rattle.line_reader.specs.Numbers.{is_digit_of, radix}
use Rattle.line_reader.proofs.Digits.{read_digits}
use Rattle.line_reader.proofs.numbers.digits_in.Given as goal

abbrev pub invariant-loop-at : goal.invariant-loop-at
invariant-loop-at l = record {
  way : read_digits (is_digit_of l.base) (radix l.base) l.number (drop l.at l.digits)
      ≡ read_digits (is_digit_of l.base) (radix l.base) 0 l.digits;
  fits : l.number < 2 ^ 64;
}
