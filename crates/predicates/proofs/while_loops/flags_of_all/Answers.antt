use Rattle.std.proofs.Common.{◌∙◌, ap, length}
use Rattle.vector_elements.specs.Elements.{active_of}
use Rattle.vector_elements.specs.Numbers.{bytes_in}
use Rattle.predicates.specs.Flags.{flags_of}
use Rattle.predicates.proofs.Loops.{all_first}
use Rattle.predicates.proofs.while_loops.flags_of_all.Goals as goal

pub returns : goal.returns
returns c =
    c.result_flags.ensures
    ∙ ap (λ m. flags_of m (active_of (bytes_in c.args.size) c.args.pd.now)) (all_first c.args.size (length c.args.pd.now) c.requires)
