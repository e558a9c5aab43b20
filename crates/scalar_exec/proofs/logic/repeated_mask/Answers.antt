use Rattle.std.proofs.Common.{◌∙◌, ap}
use Rattle.std.specs.Option.{unwrap_or}
use Rattle.scalar_exec.proofs.Masks.{mask-is}
use Rattle.scalar_exec.proofs.logic.repeated_mask.Goals as goal

pub returns : goal.returns
returns c =
    c.unwrap_or.ensures ∙ ap (λ o. unwrap_or o 0)
    (c.bit_mask.ensures.value ∙ mask-is c.args.x.now.wide c.args.x.now.n c.args.x.now.imms c.args.x.now.immr c.requires.mask)
