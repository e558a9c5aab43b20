use Rattle.std.proofs.Common.{rules, ◌≡◌, Some}
use Rattle.line_reader.specs.Difference.{first_difference}
use Rattle.line_reader.specs.Lines.{lines_of}
use Rattle.line_reader.specs.Told.{difference_said}
use Rattle.smemu.proofs.replay.compare_texts.Goals as goal

pub returns : goal.returns
returns c =
    let first : first_difference 0 (lines_of c.args.text.now) (lines_of c.args.replay.now) ≡ Some (difference_said c.in-Some.it) =
    search rules in
    (difference_said c.in-Some.it, first, c.in_ok-other.ensures.line)
