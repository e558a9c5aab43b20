use Rattle.std.proofs.Common.{◌≡◌, ◌≤◌, ◌-◌, ◌++◌, length, take}
use Rattle.asm_parser.specs.Told.{lexemes_from}
use Rattle.asm_parser.proofs.Operands.{tokens_of}
use Rattle.asm_parser.proofs.instructions.first_tokens.Given as goal

abbrev pub invariant-loop-count : goal.invariant-loop-count
invariant-loop-count l = record {
  so_far : l.tokens.items ++ take (24 - l.count) (tokens_of (lexemes_from l.text l.from))
      ≡ take 24 (tokens_of (lexemes_from l.text l.fn.offset));
  taken : length l.tokens.items ≡ l.count;
  within : l.from ≤ length l.text;
}
