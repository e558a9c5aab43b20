use Rattle.std.proofs.Common.{◌≡◌, ◌<◌, length, arith}
use Rattle.std.proofs.lemmas.Grind.{common_steps}
use Rattle.asm_core.proofs.LineEnds.{first_line, no_line}
use Rattle.asm_core.proofs.lines.next_line.Goals as goal

pub returns-then-is_empty-clause-lines : goal.returns-then-is_empty-clause-lines
returns-then-is_empty-clause-lines c =
    let none_left : length c.args.text.now ≡ 0 = grind (arith, common_steps) in no_line c.args.text.now none_left

pub returns-clause-lines : goal.returns-clause-lines
returns-clause-lines c =
    let some_left : 0 < length c.args.text.now = grind (arith, common_steps) in
    rw (c.after_line.ensures, c.line_length-size.ensures.value) (first_line c.args.text.now some_left)
