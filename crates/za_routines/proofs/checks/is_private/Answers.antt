use Rattle.std.proofs.Common.{◌≡◌, None, arith}
use Rattle.mem_access.specs.Runs.{first_shared}
use Rattle.za_routines.proofs.Limits.{true_iff, none_at_all, none_past, private_below, private_never}
use Rattle.za_routines.proofs.checks.is_private.Goals as goal
use Rattle.za_routines.proofs.checks.is_private.Goals.{then-count-eq0-via-then-count-eq0, then-count-eq0-via-else-count-eq0+then-address-ge-SHARED_END}

pub returns-then-count-eq0 : goal.returns-then-count-eq0
returns-then-count-eq0 c = true_iff (first_shared c.args.address c.args.count ≡ None) (elim c.then-count-eq0.branch [
  | then-count-eq0-via-then-count-eq0 w ↦ none_at_all c.args.address c.args.count w.if-count-eq0.true
  | then-count-eq0-via-else-count-eq0+then-address-ge-SHARED_END w ↦
      none_past c.args.address c.args.count c.requires w.if-address-ge-SHARED_END.true
])

pub returns-then-address-lt-SHARED : goal.returns-then-address-lt-SHARED
returns-then-address-lt-SHARED c =
    private_below c.args.address c.args.count c.if-address-lt-SHARED.true (omega (arith, c.if-count-eq0.false))

pub returns-else-address-lt-SHARED : goal.returns-else-address-lt-SHARED
returns-else-address-lt-SHARED c =
    private_never c.args.address c.args.count c.if-address-lt-SHARED.false c.if-address-ge-SHARED_END.false
    (omega (arith, c.if-count-eq0.false))
