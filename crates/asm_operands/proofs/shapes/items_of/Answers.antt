use Rattle.std.proofs.Common.{List, ap, ◌∙◌}
use Rattle.std.specs.List.{list_all}
use Rattle.insn_text.specs.declared.item.Item.{Item}
use Rattle.insn_text.specs.Texts.{items_of}
use Rattle.asm_operands.specs.Sound.{is_sound}
use Rattle.asm_operands.proofs.Tables.{part-sound}
use Rattle.asm_operands.proofs.shapes.items_of.Goals as goal

pub returns-clause-sound : goal.returns-clause-sound
unfolding items_of
returns-clause-sound c =
    ap (λ (is : List Item). list_all is_sound is) c.operands_of.ensures.value
    ∙ part-sound c.args.shape.now.list c.args.shape.now.first c.args.shape.now.count
