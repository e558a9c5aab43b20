use Rattle.predicates.proofs.Bits.{put_same, put_other}
use Rattle.predicates.proofs.truths.put_bit.Goals as goal

pub returns-clause-value : goal.returns-clause-value
returns-clause-value c = put_same _ _ _ _ c.requires.room c.requires.clear c.lowest_bit.ensures

pub returns-clause-kept : goal.returns-clause-kept
returns-clause-kept c = λ j ne. put_other _ _ _ j _ c.requires.room c.lowest_bit.ensures ne
