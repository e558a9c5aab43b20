use Rattle.std.proofs.Common.{◌∷◌, [], arith, subst}
use Rattle.signal_frames.specs.Layout.{doublewords_bytes}
use Rattle.signal_frames.specs.Writing.{PutsPart}
use Rattle.signal_frames.proofs.Putting.{puts_both}
use Rattle.signal_frames.proofs.Lengths.{length-head}
use Rattle.signal_frames.proofs.delivery.put_head.Goals as goal

pub returns-clause-part : goal.returns-clause-part
returns-clause-part c =
    puts_both _ _ _ _ _ _ _ _
    (subst (λ k. PutsPart c.args.pages.now c.put_doublewords-tagged.new.pages c.args.address c.put_doublewords-tagged.result
    (doublewords_bytes (k ∷ []))) c.tag.ensures c.put_doublewords-tagged.ensures)
    (puts_both _ _ _ _ _ _ _ _ c.put_words-begun.ensures
    (puts_both _ _ _ _ _ _ _ _ c.put_doublewords-general.ensures
    (puts_both _ _ _ _ _ _ _ _ c.put_doublewords-other.ensures c.put_words.ensures)))

pub returns-clause-long : goal.returns-clause-long
returns-clause-long c =
    length-head c.args.version c.args.first c.args.x.now c.args.system c.args.lengths (omega arith) (omega arith) (omega arith) (omega arith)
