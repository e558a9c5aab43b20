use Rattle.std.proofs.Common.{ap₂, ◌∙◌, ◌++◌}
use Rattle.sve_perm.proofs.Permuted.{is_extracted}
use Rattle.sve_perm.proofs.reorder.extract.Goals as goal

pub returns : goal.returns
returns c =
    ap₂ (λ a b. a ++ b) c.copy_from_slice.ensures.after c.copy_from_slice-2.ensures.after
    ∙ is_extracted c.args.amount c.start_of-start.result c.args.n.now c.args.m.now
    c.start_of-start.ensures.within c.start_of-start.ensures.value
