use Rattle.asm_parser.specs.Statements.{line_said}
use Rattle.asm_core.proofs.SmallAligns.{small_align}
use Rattle.asm_core.proofs.HasWords.{line_word}
use Rattle.asm_core.proofs.Accepted.{fine_fits, fits_here}
use Rattle.asm_core.proofs.emit_lines.emit_line.Goals as goal

pub counter_after-requires-clause-align : goal.counter_after-requires-clause-align
counter_after-requires-clause-align c = small_align c.args.text.now (line_said c.in-Ok.line) c.in-Ok.ensures.ok

pub put_line-requires-clause-align : goal.put_line-requires-clause-align
put_line-requires-clause-align c = small_align c.args.text.now (line_said c.in-Ok.line) c.in-Ok.ensures.ok

pub put_line-requires-clause-has_word : goal.put_line-requires-clause-has_word
put_line-requires-clause-has_word c = line_word c.args.text.now (line_said c.in-Ok.line) c.in-Ok.ensures.ok

pub put_line-requires-clause-fits : goal.put_line-requires-clause-fits
put_line-requires-clause-fits c =
    fits_here c.args.emission.now.counter (line_said c.in-Ok.line).says
    (fine_fits c.args.emission.now.counter c.args.text.now (line_said c.in-Ok.line) c.requires.fine c.in-Ok.ensures.ok)

pub text_is-emission-requires : goal.text_is-emission-requires
text_is-emission-requires c = small_align c.args.text.now (line_said c.in-Ok.line) c.in-Ok.ensures.ok
