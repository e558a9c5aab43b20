use Rattle.std.proofs.Common.{map, ◌+◌}
use Rattle.std.specs.String.{string_bytes}
use Rattle.cmd_words.specs.Given.{IsSoundTo}
use Rattle.cmd_words.proofs.words.read_operands.Given as goal

abbrev pub invariant-loop-k : goal.invariant-loop-k
invariant-loop-k l = IsSoundTo (map string_bytes l.words) (l.k + 1)
