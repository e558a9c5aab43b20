use Rattle.std.proofs.Common.{arith, ◌≡◌, ◌≤◌, ◌*◌, ◌+◌, ◌^◌, ℕ, drop, get_or, sym, ◌∙◌, lit≤, ap}
use Rattle.std.specs.Char.{digit_value}
use Rattle.line_reader.specs.declared.numbers.Base.{Base}
use Rattle.line_reader.specs.declared.numbers.Base.TheVariants.{Ten, Sixteen, SixteenAnyCase}
use Rattle.line_reader.specs.Numbers.{digits_in, is_digit_of, radix}
use Rattle.line_reader.proofs.Digits.{digits-more, digits-stop, digits-large, digits-end, read_digits, is_no_digit, is_digit}
use Rattle.line_reader.proofs.numbers.digits_in.Goals as goal

some_radix : (base : Base) → 1 ≤ radix base
some_radix Ten = lit≤ tt
some_radix Sixteen = lit≤ tt
some_radix SixteenAnyCase = lit≤ tt

pub loop-at-preserved : goal.loop-at-preserved
loop-at-preserved c =
    let base = c.args.base in
    let test = is_digit_of base in
    let xs = c.args.digits.now in
    let at = c.loop-at.at in
    let it = is_digit (test (get_or xs at 0)) (digit_value (get_or xs at 0)) c.in-Some.digit c.in-Some.ensures in
    let same : c.loop-at.number * c.radix.result + c.in-Some.digit ≡ c.loop-at.number * radix base + digit_value (get_or xs at 0) =
    ap (λ (r : ℕ). c.loop-at.number * r + c.in-Some.digit) c.radix.ensures ∙ ap (λ (d : ℕ). c.loop-at.number * radix base + d) it.1 in
    record {
      way =
          ap (λ (n : ℕ). read_digits test (radix base) n (drop (at + 1) xs)) (c.in-Some-with_digit.ensures.1 ∙ same)
          ∙ sym (digits-more test (radix base) c.loop-at.number xs at c.loop-at-test.true it.0)
          ∙ c.loop-at.invariant.way;
      fits = omega (arith, c.in-Some-with_digit.ensures.0, c.in-Some-with_digit.ensures.1);
    }

pub returns-in_default : goal.returns-in_default
unfolding digits_in
returns-in_default c =
    let test = is_digit_of c.args.base in
    let xs = c.args.digits.now in
    let at = c.loop-at.at in
    sym (digits-stop test (radix c.args.base) c.loop-at.number xs at c.loop-at-test.true
    (is_no_digit (test (get_or xs at 0)) (digit_value (get_or xs at 0)) c.in_default.ensures))
    ∙ c.loop-at.invariant.way

pub returns-in-None : goal.returns-in-None
unfolding digits_in
returns-in-None c =
    let base = c.args.base in
    let test = is_digit_of base in
    let xs = c.args.digits.now in
    let at = c.loop-at.at in
    let it = is_digit (test (get_or xs at 0)) (digit_value (get_or xs at 0)) c.in-Some.digit c.in-Some.ensures in
    let digit : c.in-Some.digit ≡ digit_value (get_or xs at 0) = it.1 in
    let same : c.loop-at.number * c.radix.result ≡ c.loop-at.number * radix base = ap (λ (r : ℕ). c.loop-at.number * r) c.radix.ensures in
    let large : 2 ^ 64 ≤ c.loop-at.number * radix base + digit_value (get_or xs at 0) =
    grind (arith, c.in-None.ensures, same, digit) in
    sym (digits-large test (radix base) c.loop-at.number xs at (some_radix base) c.loop-at-test.true it.0 large)
    ∙ c.loop-at.invariant.way

pub returns : goal.returns
unfolding digits_in
returns c =
    sym (digits-end (is_digit_of c.args.base) (radix c.args.base) c.loop-at.number c.args.digits.now c.loop-at.at c.loop-at.invariant.fits
    (omega arith))
    ∙ c.loop-at.invariant.way
