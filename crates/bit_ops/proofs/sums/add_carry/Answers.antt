use Rattle.std.proofs.Common.{◌≡◌, arith}
use Rattle.bit_ops.specs.Sums.{IsSum, sum_flags, bool_number}
use Rattle.bit_ops.proofs.LowParts.{low_parts}
use Rattle.bit_ops.proofs.sums.add_carry.Goals as goal

pub returns-then-wide-clause-facts : goal.returns-then-wide-clause-facts
returns-then-wide-clause-facts c =
    low_parts (λ w a b. IsSum w a b (bool_number c.args.carry) c.add_wide.result.0 c.add_wide.result.1) c.args.wide c.args.a c.args.b
    c.if-wide.true (omega arith) (omega arith) c.add_wide.ensures.facts

pub returns-then-wide-clause-flags : goal.returns-then-wide-clause-flags
returns-then-wide-clause-flags c =
    low_parts (λ w a b. c.add_wide.result.1 ≡ sum_flags w a b (bool_number c.args.carry)) c.args.wide c.args.a c.args.b c.if-wide.true
    (omega arith) (omega arith) c.add_wide.ensures.flags
