use Rattle.std.proofs.Common.{◌≡◌, ◌<◌, drop}
use Rattle.asm_tokens.specs.Slots.{hash_after}
use Rattle.asm_tokens.proofs.names.hash.Given as goal

abbrev pub invariant-loop-offset : goal.invariant-loop-offset
invariant-loop-offset l =
    record { way : hash_after l.factor l.size l.hash (drop l.offset l.text) ≡ hash_after l.factor l.size 0 l.text; below : l.hash < l.size }
