use Rattle.std.proofs.Common.{◌+◌, ◌≤◌, length}
use Rattle.asm_core.specs.Source.{lines_of, said_lines}
use Rattle.asm_core.specs.Known.{known}
use Rattle.asm_core.specs.Kept.{AreKept}
use Rattle.asm_core.proofs.Emission.{IsAt}
use Rattle.asm_core.proofs.second_pass.emit.Given as goal

abbrev pub invariant-loop-text : goal.invariant-loop-text
invariant-loop-text l = record {
  some : 1 ≤ l.number;
  left : l.number + length l.rest ≤ 1 + length l.source;
  at : IsAt l.text_size (known l.labels) (said_lines (lines_of l.source)) (lines_of l.rest) l.number l.emission;
  kept : AreKept l.kept_rest (lines_of l.rest);
}

abbrev pub decreases-loop-text : goal.decreases-loop-text
decreases-loop-text l = length l.rest
