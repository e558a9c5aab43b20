use Rattle.command_lines.specs.SourceLines.{line_words}
use Rattle.command_lines.proofs.source_line.put_line_words.Goals as goal

pub returns-in-UnknownName : goal.returns-in-UnknownName
unfolding line_words
returns-in-UnknownName g c = rw (c.in-UnknownName.is, ← c.from.ensures) c.put_counted.ensures

pub returns-in-BadOperand : goal.returns-in-BadOperand
unfolding line_words
returns-in-BadOperand g c = rw (c.in-BadOperand.is, ← c.from-in-BadOperand.ensures) c.put_counted-in-BadOperand.ensures

pub returns-in-BadNumber : goal.returns-in-BadNumber
unfolding line_words
returns-in-BadNumber g c = rw (c.in-BadNumber.is, ← c.from-in-BadNumber.ensures) c.put_counted-in-BadNumber.ensures

pub returns-in-Extra : goal.returns-in-Extra
unfolding line_words
returns-in-Extra g c = rw (c.in-Extra.is, ← c.from-in-Extra.ensures) c.put_counted-in-Extra.ensures

pub returns-in-Memory : goal.returns-in-Memory
unfolding line_words
returns-in-Memory g c = rw c.in-Memory.is c.put.ensures
