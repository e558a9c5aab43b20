use Rattle.asm_parser.proofs.LabelLaw.{label_law}
use Rattle.asm_parser.proofs.LineGrammar.{line_says, line_only, line_fault, fault_only}
use Rattle.asm_parser.proofs.laws.lines_are_the_grammar.Goals as goal

pub returns-clause-says : goal.returns-clause-says
returns-clause-says c = λ line said. (line_says line said, line_only line said)

pub returns-clause-fault : goal.returns-clause-fault
returns-clause-fault c = λ line fault. (line_fault line fault, fault_only line fault)

pub returns-clause-label : goal.returns-clause-label
returns-clause-label c = label_law
