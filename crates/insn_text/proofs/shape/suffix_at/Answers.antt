use Rattle.std.proofs.Common.{ℕ, List, sym, subst}
use Rattle.std.specs.Str.{IsAscii}
use Rattle.insn_text.proofs.Tables.{suffix_ascii}
use Rattle.insn_text.proofs.shape.suffix_at.Goals as goal

pub returns-clause-ascii : goal.returns-clause-ascii
returns-clause-ascii c = subst (λ (bs : List ℕ). IsAscii bs) (sym c.text_at.ensures) (suffix_ascii c.args.index)
