use Rattle.cmd_words.proofs.Law.{fixed, full, reading}
use Rattle.cmd_words.proofs.laws.one_reading.Goals as goal

pub returns-clause-one : goal.returns-clause-one
returns-clause-one c = reading

pub returns-clause-full : goal.returns-clause-full
returns-clause-full c = full

pub returns-clause-fixed : goal.returns-clause-fixed
returns-clause-fixed c = fixed
