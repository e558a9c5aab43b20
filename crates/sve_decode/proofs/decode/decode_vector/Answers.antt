use Rattle.std.proofs.Common.{arith}
use Rattle.insn_forms.proofs.FirstLine.{by_meaning}
use Rattle.sve_table.specs.Table.{vector, vector_meaning_of}
use Rattle.sve_table.proofs.Checks.{one_row}
use Rattle.sve_table.proofs.Ranged.{ranged}
use Rattle.sve_decode.proofs.decode.decode_vector.Goals as goal

pub returns-clause-value : goal.returns-clause-value
unfolding vector_meaning_of
returns-clause-value c = by_meaning vector c.args.word (one_row c.args.word) (omega arith) c.by_tree.result c.by_tree.ensures

pub returns-clause-fields : goal.returns-clause-fields
returns-clause-fields c it h = ranged c.args.word it ((c.by_tree.ensures it).0 h)
