use Rattle.std.proofs.Common.{◌≡◌, rules}
use Rattle.scalar_exec.specs.Branches.{branch_target}
use Rattle.scalar_exec.proofs.AnyPc.{steps_call}
use Rattle.scalar_exec.proofs.apart.step_call.Goals as goal

pub returns : goal.returns
returns c =
    let is : c.branch_target.result ≡ branch_target c.args.at c.args.words = search rules in
    steps_call c.args.base c.args.at _ c.args.words c.args.s.now _ is c.link_at.ensures
