use Rattle.std.proofs.Common.{◌≡◌, ◌+◌, length, drop}
use Rattle.asm_tokens.specs.Characters.{front, is_blank}
use Rattle.asm_tokens.proofs.characters.skip_blanks.Given as goal

abbrev pub invariant-loop-end : goal.invariant-loop-end
invariant-loop-end l = l.end + length (front is_blank (drop l.end l.text)) ≡ l.fn.offset + length (front is_blank (drop l.fn.offset l.text))
