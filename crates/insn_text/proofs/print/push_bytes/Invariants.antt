use Rattle.std.proofs.Common.{◌≡◌, ◌++◌, take}
use Rattle.insn_text.proofs.print.push_bytes.Given as goal

abbrev pub invariant-loop-byte : goal.invariant-loop-byte
invariant-loop-byte l = l.out.bytes ≡ l.fn.out.bytes ++ take l.byte-index l.bytes
