use Rattle.std.proofs.Common.{refl, ◌∙◌}
use Rattle.scalar_exec.proofs.AnyPc.{steps_to, back}
use Rattle.scalar_exec.proofs.apart.step_branch_register.Goals as goal

pub returns : goal.returns
returns c =
    let x = c.args.x.now in
    steps_to c.args.base c.args.at _ x.op x.rn c.args.s.now _
    (back c.args.base c.read_x-target.result _ c.ranges.base.fits c.read_x-target.type_inv refl ∙ c.read_x-target.ensures) c.link_by.ensures
