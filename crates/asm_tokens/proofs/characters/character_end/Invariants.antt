use Rattle.std.proofs.Common.{◌≡◌, ◌+◌, length, drop}
use Rattle.asm_tokens.specs.Characters.{front, is_continuation}
use Rattle.asm_tokens.proofs.characters.character_end.Given as goal

abbrev pub invariant-loop-end : goal.invariant-loop-end
invariant-loop-end l =
    l.end + length (front is_continuation (drop l.end l.text)) ≡ l.fn.offset + length (front is_continuation (drop l.fn.offset l.text))
