use Rattle.std.proofs.Common.{◌≡◌, ℕ, ◌/◌, ◌<◌, false, List, length, ap, arith, rules}
use Rattle.std.specs.Fmt.{digits, digits_onto}
use Rattle.insn_text.proofs.Steps.{drop-end, less-left, hex-next, hex-whole}
use Rattle.insn_text.proofs.print.write_hexadecimal.Goals as goal

pub loop-done-init : goal.loop-done-init
unfolding digits
loop-done-init c = record {
  left = omega arith;
  some_left = λ h. absurd (omega arith);
  digits = ap (λ (ds : List ℕ). digits_onto 64 16 false c.args.number ds) (drop-end c.args.buffer.now 16 (omega arith));
}

pub loop-done-preserved : goal.loop-done-preserved
loop-done-preserved c =
    let more : 0 < c.loop-done.rest / 16 = omega arith in
    let len : length c.loop-done.buffer ≡ 16 = search rules in
    record {
      left = less-left c.loop-done.rest c.loop-done.done c.loop-done-test.true c.loop-done.invariant.left;
      some_left = λ _. more;
      digits =
          hex-next c.loop-done.buffer c.loop-done.done c.loop-done.rest c.digit.result _ c.loop-done-test.true len
          c.digit.ensures.value more
          c.loop-done.invariant.digits;
    }

pub returns-then-rest-eq0-clause-digits : goal.returns-then-rest-eq0-clause-digits
returns-then-rest-eq0-clause-digits c =
    let len : length c.loop-done.buffer ≡ 16 = search rules in
    hex-whole c.loop-done.buffer c.loop-done.done c.loop-done.rest c.digit.result _ c.loop-done-test.true len c.digit.ensures.value
    c.if-rest-eq0.true c.loop-done.invariant.digits
