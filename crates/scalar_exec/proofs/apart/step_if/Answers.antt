use Rattle.std.proofs.Common.{◌≡◌, rules}
use Rattle.scalar_exec.specs.Branches.{branch_target}
use Rattle.scalar_exec.proofs.AnyPc.{steps_if}
use Rattle.scalar_exec.proofs.apart.step_if.Goals as goal

pub returns-then-taken : goal.returns-then-taken
returns-then-taken c base =
    let is : c.branch_target.result ≡ branch_target c.args.at c.args.words = search rules in
    steps_if base c.args.at _ c.args.taken c.args.words c.args.s.now (rw c.if-taken.true is)

pub returns-else-taken : goal.returns-else-taken
returns-else-taken c base =
    steps_if base c.args.at _ c.args.taken c.args.words c.args.s.now (rw c.if-taken.false c.next_address.ensures)
