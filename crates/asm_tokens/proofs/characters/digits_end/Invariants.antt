use Rattle.std.proofs.Common.{◌≡◌, ◌+◌, length, drop}
use Rattle.asm_tokens.specs.Characters.{front, is_digit}
use Rattle.asm_tokens.proofs.characters.digits_end.Given as goal

abbrev pub invariant-loop-end : goal.invariant-loop-end
invariant-loop-end l = l.end + length (front is_digit (drop l.end l.text)) ≡ length (front is_digit l.text)
