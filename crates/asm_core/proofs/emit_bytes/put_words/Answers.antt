use Rattle.std.proofs.Common.{◌+◌, take}
use Rattle.std.proofs.lemmas.List.{take_more}
use Rattle.asm_core.proofs.Pieces.{numbers_more}
use Rattle.asm_core.proofs.emit_bytes.put_words.Goals as goal

pub loop-number-preserved : goal.loop-number-preserved
loop-number-preserved c =
    let i = c.loop-number.number-index in
    numbers_more 4 c.args.bytes.now.items c.loop-number.bytes.items c.put_word.new.bytes.items (take i c.args.numbers.now)
    (take (i + 1) c.args.numbers.now) _
    c.loop-number.invariant c.in_ok-put_word.ensures.ok (take_more c.args.numbers.now i 0 c.loop-number-test.true)
