use Rattle.std.proofs.Common.{ℕ, List, drop, sym, subst}
use Rattle.std.specs.Str.{IsAscii}
use Rattle.std.proofs.lemmas.Str.{IsAscii-take}
use Rattle.insn_text.proofs.Lengths.{hexadecimal_ascii}
use Rattle.insn_text.proofs.print.push_hexadecimal.Goals as goal

pub push_bytes-requires-clause-ascii : goal.push_bytes-requires-clause-ascii
push_bytes-requires-clause-ascii c =
    IsAscii-take (drop c.write_hexadecimal-start.result c.write_hexadecimal-start.new.buffer) _
    (subst (λ (bs : List ℕ). IsAscii bs) (sym c.write_hexadecimal-start.ensures.digits) (hexadecimal_ascii c.args.number))
