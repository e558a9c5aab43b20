use Rattle.std.proofs.Common.{◌≡◌, ◌++◌, take, drop}
use Rattle.asm_tokens.specs.Characters.{before_comment}
use Rattle.asm_tokens.proofs.characters.cut_comment.Given as goal

abbrev pub invariant-loop-offset : goal.invariant-loop-offset
invariant-loop-offset l = take l.offset l.line ++ before_comment (drop l.offset l.line) ≡ before_comment l.line
