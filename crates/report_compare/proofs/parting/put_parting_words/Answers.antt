use Rattle.report_compare.specs.DifferLines.{parting_words}
use Rattle.report_compare.proofs.parting.put_parting_words.Goals as goal

pub returns-in-JournalLong : goal.returns-in-JournalLong
unfolding parting_words
returns-in-JournalLong g c = rw (c.in-JournalLong.is, ← c.from-in-JournalLong.ensures) c.put_counted-in-JournalLong.ensures
