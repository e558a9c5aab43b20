use Rattle.insn_text.proofs.Following.{all_shapes, in_order, all_there}
use Rattle.insn_text.proofs.laws.shapes_are_texts.Goals as goal

pub returns-clause-each : goal.returns-clause-each
returns-clause-each c = all_shapes

pub returns-clause-order : goal.returns-clause-order
returns-clause-order c = in_order

pub returns-clause-all : goal.returns-clause-all
returns-clause-all c = all_there
