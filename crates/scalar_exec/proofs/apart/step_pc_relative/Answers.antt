use Rattle.std.proofs.Common.{◌≡◌, ◌+◌, ◌%◌, ◌^◌, ◌∙◌, ap, rules}
use Rattle.scalar_exec.specs.Registers.{with_x}
use Rattle.scalar_exec.specs.Branches.{relative_address}
use Rattle.scalar_exec.proofs.AnyPc.{steps_relative}
use Rattle.scalar_exec.proofs.apart.step_pc_relative.Goals as goal

pub returns : goal.returns
returns c =
    let x = c.args.x.now in
    let is : c.relative-value.result ≡ relative_address x.op ((c.args.base + c.args.at) % 2 ^ 64) x.imm = search rules in
    steps_relative c.args.base c.args.at _ x c.args.s.now _ c.next_address.ensures
    (c.write_x.ensures.value ∙ ap (with_x c.args.s.now x.rd) is)
