use Rattle.std.proofs.Common.{◌≡◌, ◌≤◌, ◌-◌, length, slice_get}
use Rattle.asm_parser.specs.Told.{lexemes_from}
use Rattle.asm_parser.proofs.instructions.lexeme_after.Given as goal

abbrev pub invariant-loop-skipped : goal.invariant-loop-skipped
invariant-loop-skipped l = record {
  so_far : slice_get (lexemes_from l.text l.from) (l.count - l.skipped) ≡ slice_get (lexemes_from l.text l.fn.offset) l.count;
  within : l.from ≤ length l.text;
}
