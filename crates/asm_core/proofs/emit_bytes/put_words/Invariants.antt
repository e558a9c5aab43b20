use Rattle.std.proofs.Common.{◌≡◌, ◌++◌, take}
use Rattle.asm_core.specs.Assembly as assembly
use Rattle.asm_core.proofs.emit_bytes.put_words.Given as goal

abbrev pub invariant-loop-number : goal.invariant-loop-number
invariant-loop-number l = l.bytes.items ≡ l.initial.bytes.items ++ assembly.numbers_bytes 4 (take l.number-index l.numbers)
