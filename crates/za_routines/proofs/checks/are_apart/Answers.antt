use Rattle.std.proofs.Common.{arith}
use Rattle.za_routines.proofs.Limits.{apart_where, apart_never}
use Rattle.za_routines.proofs.checks.are_apart.Goals as goal

pub returns-then-b-a : goal.returns-then-b-a
returns-then-b-a c =
    apart_where c.args.a c.args.n c.args.b c.args.k c.ranges.a.fits c.ranges.b.fits (omega (arith, c.if-n-eq0.false))
    (omega (arith, c.if-k-eq0.false)) c.if-b-a.true

pub returns-else-b-a : goal.returns-else-b-a
returns-else-b-a c =
    apart_never c.args.a c.args.n c.args.b c.args.k c.ranges.a.fits c.ranges.b.fits (omega (arith, c.if-n-eq0.false))
    (omega (arith, c.if-k-eq0.false)) c.if-b-a.false
