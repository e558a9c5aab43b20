use Rattle.std.proofs.Common.{length, ◌==◌, not}
use Rattle.std.proofs.lemmas.List.Sums.{prefix_len-le-length}
use Rattle.std.specs.List.{position_or_len}
use Rattle.asm_core.proofs.LineEnds.{found_length, whole_length}
use Rattle.asm_core.proofs.lines.line_length.Goals as goal

pub returns-in-Some-clause-value : goal.returns-in-Some-clause-value
returns-in-Some-clause-value c =
    found_length (position_or_len (λ c. c == 10) c.args.text.now) (length c.args.text.now) c.in-Some.offset c.in-Some.ensures

pub returns-in-None-clause-value : goal.returns-in-None-clause-value
returns-in-None-clause-value c =
    whole_length (position_or_len (λ c. c == 10) c.args.text.now) (length c.args.text.now)
    (prefix_len-le-length (λ c. not (c == 10)) c.args.text.now) c.in-None.ensures
