use Rattle.std.proofs.Common.{ap, ◌∙◌}
use Rattle.insn_forms.specs.Tree.{walk, walk_from}
use Rattle.insn_forms.proofs.tree.line_number.Goals as goal

pub returns : goal.returns
unfolding walk_from
returns c = c.follow.ensures ∙ ap (λ at. walk c.args.steps c.args.nodes.now at c.args.word) c.way_on.ensures
