use Rattle.std.proofs.Common.{◌≡◌, ◌++◌, drop}
use Rattle.insn_text.specs.declared.item.Kind.TheVariants.{Punctuation}
use Rattle.insn_text.specs.Texts.{items_text}
use Rattle.insn_text.proofs.print.push_items.Given as goal

abbrev pub invariant-loop-item : goal.invariant-loop-item
invariant-loop-item l =
    l.out.bytes ++ items_text l.word l.before (drop l.item-index l.items) ≡ l.fn.out.bytes ++ items_text l.word (Punctuation 44) l.items
