use Rattle.std.proofs.Common.{ap₂, ◌∙◌, false}
use Rattle.std.specs.Option.{option_or}
use Rattle.sve_access.proofs.Faults.{load_is}
use Rattle.sve_access.proofs.checks.load_fault.Goals as goal

pub returns : goal.returns
returns g c =
    let addresses = g.B.Bytes.addresses c.args.bytes.now in
    c.first_of-2.ensures
    ∙ ap₂ (λ a b. option_or a b) (c.sp_fault.ensures false addresses)
    (c.first_of.ensures ∙ ap₂ (λ a b. option_or a b) (c.shared_fault.ensures c.args.rn false) (c.read_fault.ensures c.args.rn))
    ∙ load_is c.args.rn addresses c.args.s.now c.args.pages.now.memory
