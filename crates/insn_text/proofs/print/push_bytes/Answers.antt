use Rattle.std.proofs.Common.{ℕ, ◌+◌, ◌≤◌, List, length, sym, subst, get_or, lit<}
use Rattle.std.proofs.lemmas.Str.{encode_ascii}
use Rattle.insn_text.proofs.Steps.{room-byte}
use Rattle.insn_text.proofs.print.push_bytes.Goals as goal

pub push-requires : goal.push-requires
push-requires c = (
  lit< tt,
  subst (λ (bs : List ℕ). length c.loop-byte.out.bytes + length bs ≤ 96)
      (sym (encode_ascii (get_or c.args.bytes.now c.loop-byte.byte-index 0) (c.requires.ascii c.loop-byte.byte-index)))
      (room-byte c.loop-byte.out.bytes c.args.out.now.bytes c.args.bytes.now c.loop-byte.byte-index c.loop-byte-test.true
      c.loop-byte.invariant c.requires.room),
)
