use Rattle.std.proofs.Common.{map, length, ◌-◌}
use Rattle.std.specs.String.{string_bytes}
use Rattle.cmd_words.specs.Given.{form_said, IsReadTo}
use Rattle.cmd_words.proofs.words.read_options.Given as goal

abbrev pub invariant-loop-word : goal.invariant-loop-word
invariant-loop-word l = IsReadTo (map string_bytes l.words) (form_said l.form) l.place l.given

abbrev pub decreases-loop-word : goal.decreases-loop-word
decreases-loop-word l = length l.words - l.place
