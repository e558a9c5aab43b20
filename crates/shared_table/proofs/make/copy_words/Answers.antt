use Rattle.std.proofs.Common.{rules}
use Rattle.shared_table.proofs.Closing.{copies}
use Rattle.shared_table.proofs.make.copy_words.Goals as goal

pub loop-i-preserved : goal.loop-i-preserved
loop-i-preserved c = (search rules, copies _ _ _ _ _ (search rules) c.word.ensures c.loop-i.invariant.1)
