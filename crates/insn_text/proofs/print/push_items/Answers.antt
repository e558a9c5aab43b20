use Rattle.std.proofs.Common.{ℕ, ◌+◌, ◌≤◌, ◌++◌, List, length, arith, length-append}
use Rattle.plain_lemmas.proofs.Lists.{list_all-get_or}
use Rattle.insn_text.specs.declared.item.Kind.TheVariants.{Punctuation}
use Rattle.insn_text.specs.Texts.{items_text}
use Rattle.insn_text.specs.Indices.{is_sized}
use Rattle.insn_text.proofs.Steps.{room-gap, room-item, push-next, items-end}
use Rattle.insn_text.proofs.print.push_items.Goals as goal

room : (start text : List ℕ) → length start + length text ≤ 96 → length (start ++ text) ≤ 96
room start text h = omega (arith, length-append start text)

pub push_gap-requires : goal.push_gap-requires
push_gap-requires c =
    room-gap c.args.word c.args.items.now c.loop-item.item-index _ c.loop-item.before c.loop-item.out.bytes _ c.loop-item-test.true
    c.loop-item.invariant
    (room c.args.out.now.bytes (items_text c.args.word (Punctuation 44) c.args.items.now) c.requires.room)

pub push_item-requires-clause-room : goal.push_item-requires-clause-room
push_item-requires-clause-room c =
    room-item c.args.word c.args.items.now c.loop-item.item-index _ c.loop-item.before c.loop-item.out.bytes c.push_gap.new.out.bytes _
    c.loop-item-test.true c.loop-item.invariant
    (room c.args.out.now.bytes (items_text c.args.word (Punctuation 44) c.args.items.now) c.requires.room) c.push_gap.ensures

pub push_item-requires-clause-sized : goal.push_item-requires-clause-sized
push_item-requires-clause-sized c =
    list_all-get_or is_sized c.args.items.now c.loop-item.item-index _ c.requires.sized c.loop-item-test.true

pub loop-item-preserved : goal.loop-item-preserved
loop-item-preserved c =
    push-next c.args.word c.args.items.now c.loop-item.item-index _ c.loop-item.before c.loop-item.out.bytes c.push_gap.new.out.bytes
    c.push_item.new.out.bytes _
    c.loop-item-test.true c.loop-item.invariant c.push_gap.ensures c.push_item.ensures

pub returns : goal.returns
returns c =
    let le : length c.args.items.now ≤ c.loop-item.item-index = omega arith in
    items-end c.args.word c.args.items.now c.loop-item.item-index c.loop-item.before c.loop-item.out.bytes _ le c.loop-item.invariant
