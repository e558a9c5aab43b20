use Rattle.std.proofs.Common.{ap₂, ◌∙◌}
use Rattle.std.specs.Option.{option_or}
use Rattle.sve_access.proofs.checks.place_fault.Goals as goal

pub returns : goal.returns
returns g c = λ writes.
    c.first_of.ensures
    ∙ ap₂ (λ a b. option_or a b) (c.sp_fault.ensures writes (g.B.Bytes.addresses c.args.bytes.now))
    (c.shared_fault.ensures c.args.rn writes)
