use Rattle.std.proofs.Common.{sym}
use Rattle.asm_core.proofs.ResolvedWords.{resolved_means}
use Rattle.asm_core.proofs.target_addresses.with_target.Goals as goal

pub returns-in-Some-clause-means : goal.returns-in-Some-clause-means
returns-in-Some-clause-means c =
    resolved_means c.args.operand.now c.args.word c.args.from c.args.target c.in-Some.resolved c.requires.can (sym c.in-Some.ensures)
