use Rattle.std.proofs.Common.{ap₂, ◌∙◌, true}
use Rattle.std.specs.Option.{option_or}
use Rattle.sve_access.proofs.Faults.{store_is}
use Rattle.sve_access.proofs.checks.store_fault.Goals as goal

pub returns : goal.returns
returns g c =
    let addresses = g.B.Bytes.addresses c.args.bytes.now in
    c.first_of-2.ensures
    ∙ ap₂ (λ a b. option_or a b) (c.sp_fault.ensures true addresses)
    (c.first_of.ensures ∙ ap₂ (λ a b. option_or a b) (c.shared_fault.ensures c.args.rn true) (c.write_fault.ensures c.args.rn))
    ∙ store_is c.args.rn addresses c.args.s.now c.args.pages.now.memory
