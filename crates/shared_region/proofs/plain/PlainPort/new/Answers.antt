use Rattle.std.proofs.Common.{rules}
use Rattle.shared_region.specs.WordRule.{zero_words}
use Rattle.shared_region.proofs.Words.{plain_begins}
use Rattle.shared_region.proofs.plain.PlainPort.new.Goals as goal

pub invariant_of-result : goal.invariant_of-result
unfolding zero_words
invariant_of-result c = plain_begins _ _ search rules c.new-in-Ok.ensures.items

pub returns-in-Ok : goal.returns-in-Ok
unfolding zero_words
returns-in-Ok c = (search rules, c.new-in-Ok.ensures.items)
