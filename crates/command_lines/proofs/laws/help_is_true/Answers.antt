use Rattle.command_lines.proofs.HelpLines.{has_line, has_numbers, has_status}
use Rattle.command_lines.proofs.laws.help_is_true.Goals as goal

pub returns-clause-lines : goal.returns-clause-lines
returns-clause-lines c = has_line

pub returns-clause-numbers : goal.returns-clause-numbers
returns-clause-numbers c = has_numbers

pub returns-clause-statuses : goal.returns-clause-statuses
returns-clause-statuses c = has_status
