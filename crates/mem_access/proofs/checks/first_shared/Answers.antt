use Rattle.std.proofs.Common.{arith, sym}
use Rattle.mem_access.proofs.Shared.{none_below, none_above, first_of_them, first_itself}
use Rattle.mem_access.proofs.checks.first_shared.Goals as goal

pub returns-then-size-address : goal.returns-then-size-address
returns-then-size-address c = sym (first_of_them c.args.address c.args.size (omega arith) (omega arith))

pub returns-else-size-address : goal.returns-else-size-address
returns-else-size-address c = sym (none_below c.args.address c.args.size (omega arith))

pub returns-then-address-lt-SHARED_END : goal.returns-then-address-lt-SHARED_END
returns-then-address-lt-SHARED_END c = sym (first_itself c.args.address c.args.size (omega arith) (omega arith) (omega arith))

pub returns-else-address-lt-SHARED_END : goal.returns-else-address-lt-SHARED_END
returns-else-address-lt-SHARED_END c = sym (none_above c.args.address c.args.size (omega arith) (omega arith) (omega arith))
