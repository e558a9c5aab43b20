use Rattle.command_lines.specs.FaultLines.{fault_words}
use Rattle.command_lines.proofs.fault_line.put_fault_words.Goals as goal

pub returns-in-NotThisMachine : goal.returns-in-NotThisMachine
unfolding fault_words
returns-in-NotThisMachine g c = rw (c.in-NotThisMachine.is, ← c.from.ensures) c.put_counted-in-NotThisMachine.ensures

pub returns-in-TooManyPages : goal.returns-in-TooManyPages
unfolding fault_words
returns-in-TooManyPages g c = rw c.in-TooManyPages.is c.put_counted-in-TooManyPages.ensures

pub returns-in-EntryOutside : goal.returns-in-EntryOutside
unfolding fault_words
returns-in-EntryOutside g c = rw (c.in-EntryOutside.is, ← c.hex64_digits.ensures) c.put_all.ensures

pub returns-in-Unlisted : goal.returns-in-Unlisted
unfolding fault_words
returns-in-Unlisted g c = rw c.in-Unlisted.is c.put_unlisted.ensures
