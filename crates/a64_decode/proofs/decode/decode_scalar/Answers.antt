use Rattle.std.proofs.Common.{arith}
use Rattle.insn_forms.proofs.FirstLine.{by_meaning}
use Rattle.a64_table.specs.Table.{scalar, meaning_of}
use Rattle.a64_table.proofs.Checks.{one_row}
use Rattle.a64_table.proofs.Ranged.{ranged}
use Rattle.a64_decode.proofs.decode.decode_scalar.Goals as goal

pub returns-clause-value : goal.returns-clause-value
unfolding meaning_of
returns-clause-value c = by_meaning scalar c.args.word (one_row c.args.word) (omega arith) c.by_tree.result c.by_tree.ensures

pub returns-clause-fields : goal.returns-clause-fields
returns-clause-fields c it h = ranged c.args.word it ((c.by_tree.ensures it).0 h)
