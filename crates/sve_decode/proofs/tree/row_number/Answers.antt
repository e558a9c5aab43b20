use Rattle.std.proofs.Common.{◌≡◌, true, refl, ◌∙◌}
use Rattle.insn_forms.proofs.Cover.{numbered, kept, may_have, covers_ways, covers_fork, covers_at, covers, covers_from, leads}
use Rattle.sve_table.specs.declared.rows.TheConstants.{VECTOR_LINES}
use Rattle.sve_decode.specs.declared.tree.TheConstants.{NODES, ROOT, STEPS}
use Rattle.sve_decode.proofs.tree.row_number.Goals as goal

tree_covers : covers_from STEPS NODES ROOT (numbered 0 VECTOR_LINES) ≡ true
unfolding numbered kept may_have covers_ways covers_fork covers_at covers covers_from
tree_covers = refl

pub returns : goal.returns
returns c i line g m = c.line_number.ensures ∙ leads STEPS NODES ROOT VECTOR_LINES tree_covers c.args.word i line g m
